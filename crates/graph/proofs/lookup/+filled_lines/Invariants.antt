use Rattle.lemmas.proofs.{length}
use Rattle.graph.proofs.lookup.+filled_lines.Given as goal

abbrev pub decreases-filled_lines : goal.decreases-filled_lines
decreases-filled_lines l = length l.before.now
