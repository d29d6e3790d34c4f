pub mod Answers
pub mod PartFiles
pub mod Scripts
pub mod TableFiles
pub mod Top
pub mod Turns
-- what other crates name of these
pub use Answers.{IsAnswer, IsOfFiles, IsUnread}
pub use PartFiles.{AllFitScript, AreJoinable, ArePartsOf, AreRead, CanPrint, FitsScript, HoldParts, HoldsThePart, IsJoinedBy, IsPrintedBy, IsReadPart, ReadsParts, ReadsThePart, WithPart}
pub use Scripts.{HoldsTheText, IsDueToText, IsText, ReadsText, WithText}
pub use TableFiles.{AreRun, BooksOver, IsBookedOver, IsFirstOf, IsNext, IsOver, IsRunEnd, ReadsAll, ReadsFirst, ReadsNext, ReadsTable}
pub use Top.{AnswersWords}
pub use Turns.{AreCommandsTurns, AreTurned, HoldsPart, HoldsScript, HoldsTable, IsFileRead, IsOtherRead, IsPartFile, IsTableFile, others_in, script_in, TurnsBesides}
