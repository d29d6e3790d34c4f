use Rattle.lemmas.proofs.{◌≡◌, ◌++◌, take, flat_map}
use Rattle.chain_files.specs.{lines_text, loop_lines}
use Rattle.chain_files.proofs.printing.put_loops.Given as goal

abbrev pub invariant-loop-one : goal.invariant-loop-one
invariant-loop-one l = l.text ≡ l.fn.text ++ lines_text (flat_map loop_lines (take l.one-index l.loops))
