pub mod Placing
pub mod Apart
pub mod Closing
pub mod Covering
pub mod Examples
pub mod Origins
