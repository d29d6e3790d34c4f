pub mod Booked
pub mod Fitting
pub mod Looped
pub mod Shaping
