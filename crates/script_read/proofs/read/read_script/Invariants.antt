use Rattle.lemmas.proofs.{length}
use Rattle.script_read.proofs.FirstLines.{Reads}
use Rattle.script_read.proofs.read.read_script.Given as goal

abbrev pub invariant-loop-left : goal.invariant-loop-left
invariant-loop-left l = Reads l.text l.left l.number l.lines

abbrev pub decreases-loop-left : goal.decreases-loop-left
decreases-loop-left l = length l.left
