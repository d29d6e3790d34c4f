use Rattle.lemmas.proofs.{◌≡◌, ◌++◌, map, take}
use Rattle.chain_files.specs.{lines_text}
use Rattle.chain_files.specs.declared.part_line.PartLine.{PartLine}
use Rattle.chain_files.proofs.printing.put_passes.Given as goal

abbrev pub invariant-loop-line : goal.invariant-loop-line
invariant-loop-line l = l.text ≡ l.fn.text ++ lines_text (map PartLine.Pass (take l.line-index l.lines))
