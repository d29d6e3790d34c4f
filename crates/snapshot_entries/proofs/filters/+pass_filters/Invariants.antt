use Rattle.lemmas.proofs.{length}
use Rattle.snapshot_entries.proofs.filters.+pass_filters.Given as goal

abbrev pub decreases-pass_filters : goal.decreases-pass_filters
decreases-pass_filters g l = length l.sites.now
