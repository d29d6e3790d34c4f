pub mod BlockFeeds
pub mod Closing
