pub mod ByCluster
pub mod WatchLemmas
