pub mod LaneSteps
pub mod Attempts
pub mod OverLaws
pub mod UnderwayLaws
