use Rattle.lemmas.proofs.{length}
use Rattle.graph.proofs.lookup.+is_watched.Given as goal

abbrev pub decreases-is_watched : goal.decreases-is_watched
decreases-is_watched l = length l.lines.now
