use Rattle.lemmas.proofs.{◌≡◌, ◌++◌, map, take}
use Rattle.chain_files.specs.{lines_text}
use Rattle.chain_files.specs.declared.part_line.PartLine.{PartLine}
use Rattle.chain_files.proofs.printing.put_columns.Given as goal

abbrev pub invariant-loop-column : goal.invariant-loop-column
invariant-loop-column l = l.text ≡ l.fn.text ++ lines_text (map PartLine.Column (take l.column-index l.columns))
