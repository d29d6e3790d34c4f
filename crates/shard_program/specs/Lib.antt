pub mod Answers
pub mod NamedColumns
pub mod Shards
pub mod Turns
-- what other crates name of these
pub use Answers.{AnswersWords, due_in, IsAnswer, IsFailedRead, IsOfFiles}
pub use NamedColumns.{AreNamed}
pub use Shards.{AreShards, AreShardsRead, HoldAll, HoldShards, HoldsTheShard, IsDueToFile, IsDueToFiles, IsDueToNames, IsShardOf, IsTextOf, ReadsShardFile, ReadsShards, ReadsShardText}
pub use Turns.{AreTurns, HoldsAShard, IsReadIn, IsShardRead, names_of}
