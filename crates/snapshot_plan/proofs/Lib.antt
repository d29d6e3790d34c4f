pub mod Asked
pub mod Counted
pub mod Found
pub mod Headed
pub mod Varied
pub mod Listed
