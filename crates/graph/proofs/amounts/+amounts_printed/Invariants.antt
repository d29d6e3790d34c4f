use Rattle.lemmas.proofs.{length}
use Rattle.graph.proofs.amounts.+amounts_printed.Given as goal

abbrev pub decreases-amounts_printed : goal.decreases-amounts_printed
decreases-amounts_printed l = length l.lines.now
