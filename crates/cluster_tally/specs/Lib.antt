pub mod Blocks
pub mod Feedings
pub mod Laws
pub mod Tallies
-- what other crates name of these
pub use Blocks.{block_begin, block_items, block_reaches, BlockStage, CanFeedBatch, CanNoteCounts, CanTakeIn, counts_in, filter_done, HoldsIn, IsWithin, pass_done, TakesIn, TookIn, TookInIfThere}
pub use Feedings.{fresh_acc, IsAtEnd, IsFresh, note_of, noted_all, noted_at, piece_for, renewed, times_there}
pub use Laws.{BeginsBlock, EndsBlock, FreshHolds}
pub use Tallies.{at_begin, counted, counts_by, fed_by, first_items, first_reaches, Stage, taken_in, CanWatch, Holds, HoldsUpTo, IsFedAlone, IsFedBy, places_there, TallyView}
