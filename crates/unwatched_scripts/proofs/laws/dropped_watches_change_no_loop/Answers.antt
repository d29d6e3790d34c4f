use Rattle.unwatched_scripts.proofs.Dropping.{dropped_watches_change_no_loop}
use Rattle.unwatched_scripts.proofs.laws.dropped_watches_change_no_loop.Goals as goal

pub returns : goal.returns
returns c = dropped_watches_change_no_loop
