mod Examples
pub mod Joined
pub mod Plain
pub mod RecordsBack
pub mod TableBack
pub mod TextBack
