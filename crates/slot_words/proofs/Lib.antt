pub mod Noting
pub mod Steps
pub mod Hands
pub mod Joining
pub mod Notes
