pub mod Due
pub mod Answers
-- what other crates name of these
pub use Due.{AcceptedRunsEnd, AreTexts, friend_of, has_fault, IsWithFriend, status_of_run, dataset_of, IsDue, IsDueOver, IsDueToFiles, IsDueToInput, IsDueToMade, IsDueToScript, IsPrinted, JoinsFriend, ReadsFriend, WithFriend, exit_status, IsFinal, printed_status, statuses}
pub use Answers.{AnswersInput, AnswersWords, AreTaken, AreTurnsIn, AreTurnsTo, CallsForFriend, CallsForTable, due_in, HoldsScript, HoldsTable, IsAnswer, IsOfRun, IsUnread, MayRead, MayReadIn, MayReadOf, ReadsFriendFile, ReadsFriendText, ReadsMade, AreSettings, NameFiles, NamesFiles, OfFiles, TurnsBesides, WritesPart, WritesReadFailed}
