use Rattle.lemmas.proofs.{length}
use Rattle.graph.proofs.checks.+rises.Given as goal

abbrev pub decreases-rises : goal.decreases-rises
decreases-rises l = length l.edges.now
