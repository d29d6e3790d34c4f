pub mod Clusters
pub mod Making
pub mod Sharing
pub mod Whole
