pub mod Laws
pub mod Unwatched
-- what other crates name of these
pub use Laws.{DroppedWatchesChangeNoLoop, DroppedWatchesDropPartialLines}
pub use Unwatched.{is_watch, unwatched}
