use Rattle.lemmas.proofs.{length}
use Rattle.block_passes.proofs.passes.+try_filters.Given as goal

abbrev pub decreases-try_filters : goal.decreases-try_filters
decreases-try_filters g l = length l.filters.now
