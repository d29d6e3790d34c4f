pub mod Covered
mod PartLines
mod Following
mod Grouping
pub mod HexDigits
mod Keeping
mod Joinable
pub mod OnePart
mod Ordering
mod Refused
mod Running
mod Runs
mod Shaped
mod Splitting
mod Within
mod JoinedLoops
