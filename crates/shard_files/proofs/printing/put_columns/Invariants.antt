use Rattle.lemmas.proofs.{◌≡◌, ◌++◌, map, take}
use Rattle.shard_files.specs.{lines_text}
use Rattle.shard_files.specs.declared.file_line.FileLine.{FileLine}
use Rattle.shard_files.proofs.printing.put_columns.Given as goal

abbrev pub invariant-loop-column : goal.invariant-loop-column
invariant-loop-column l = l.text ≡ l.fn.text ++ lines_text (map FileLine.Column (take l.column-index l.columns))
