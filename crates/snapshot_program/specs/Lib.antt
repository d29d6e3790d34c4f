pub mod Answers
pub mod Top
-- what other crates name of these
pub use Answers.{AreInputs, IsAnswer, IsOfTable, IsPlanned, IsRefusal, IsScriptFile, IsWithin, ReadsInputs, RefusesFiles}
pub use Top.{TurnsBesides}
