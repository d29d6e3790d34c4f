use Rattle.unwatched_scripts.proofs.Printing.{dropped_watches_drop_partial_lines}
use Rattle.unwatched_scripts.proofs.laws.dropped_watches_drop_partial_lines.Goals as goal

pub returns : goal.returns
returns c = dropped_watches_drop_partial_lines
