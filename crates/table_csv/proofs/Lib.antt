pub mod RecordSteps
pub mod Examples
pub mod TableSteps
