pub mod Answering
pub mod Asking
pub mod FileReading
pub mod OverTables
pub mod ShardReading
pub mod Topping
pub mod Turning
