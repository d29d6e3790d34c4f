pub mod WellTyped
pub mod Typed
