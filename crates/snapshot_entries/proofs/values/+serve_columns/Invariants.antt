use Rattle.lemmas.proofs.{length}
use Rattle.snapshot_entries.proofs.values.+serve_columns.Given as goal

abbrev pub decreases-serve_columns : goal.decreases-serve_columns
decreases-serve_columns g l = length l.columns.now
