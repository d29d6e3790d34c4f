pub mod Walking
pub mod Listing
pub mod Finished
pub mod Depending
pub mod Looped
pub mod Shared
