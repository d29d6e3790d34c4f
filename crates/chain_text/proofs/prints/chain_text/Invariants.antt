use Rattle.lemmas.proofs.{◌≡◌, length}
use Rattle.graph_numbers.specs.{graph_prints}
use Rattle.chain_text.specs.{chain_text}
use Rattle.chain_text.proofs.Printing.{IsWritten}
use Rattle.chain_text.proofs.prints.chain_text.Given as goal

abbrev pub invariant-loop-print : goal.invariant-loop-print
invariant-loop-print l = IsWritten l.graph l.loops (chain_text l.graph l.loops) l.text l.print × (l.print-end ≡ length (graph_prints l.graph))
