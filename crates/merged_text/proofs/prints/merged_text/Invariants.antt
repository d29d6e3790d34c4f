use Rattle.lemmas.proofs.{◌≡◌, length}
use Rattle.graph_numbers.specs.{graph_prints}
use Rattle.merged_text.specs.{merged_text}
use Rattle.merged_text.proofs.Printing.{IsWritten}
use Rattle.merged_text.proofs.prints.merged_text.Given as goal

abbrev pub invariant-loop-print : goal.invariant-loop-print
invariant-loop-print l = IsWritten l.graph l.loops (merged_text l.graph l.loops) l.text l.print × (l.print-end ≡ length (graph_prints l.graph))
