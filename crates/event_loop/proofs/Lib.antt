pub mod Courses
pub mod Found
pub mod Ended
pub mod SessionLines
pub mod Sharing
