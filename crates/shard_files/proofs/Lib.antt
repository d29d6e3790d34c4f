pub mod Examples
pub mod FileLines
mod Following
mod LineEnds
mod Looping
pub mod OneShard
mod Ordering
mod Refused
mod Refusing
mod Running
mod Runs
pub mod Splitting
