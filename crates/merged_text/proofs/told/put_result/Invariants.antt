use Rattle.lemmas.proofs.{◌≡◌, ◌++◌, drop}
use Rattle.result_text.specs.{passes_at}
use Rattle.merged_text.specs.{lines_of_result}
use Rattle.merged_text.proofs.told.put_result.Given as goal

abbrev pub invariant-loop-i : goal.invariant-loop-i
invariant-loop-i l = l.text ++ lines_of_result l.name (drop l.i (passes_at l.graph l.fn.l)) (drop l.i l.lines) ≡ l.fn.text ++ lines_of_result l.name (passes_at l.graph l.fn.l) l.lines
