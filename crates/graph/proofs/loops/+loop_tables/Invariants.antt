use Rattle.lemmas.proofs.{length}
use Rattle.graph.proofs.loops.+loop_tables.Given as goal

abbrev pub decreases-loop_tables : goal.decreases-loop_tables
decreases-loop_tables l = length l.lines.now
