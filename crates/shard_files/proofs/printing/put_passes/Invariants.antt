use Rattle.lemmas.proofs.{◌≡◌, ◌++◌, map, take}
use Rattle.shard_files.specs.{lines_text}
use Rattle.shard_files.specs.declared.file_line.FileLine.{FileLine}
use Rattle.shard_files.proofs.printing.put_passes.Given as goal

abbrev pub invariant-loop-line : goal.invariant-loop-line
invariant-loop-line l = l.text ≡ l.fn.text ++ lines_text (map FileLine.Pass (take l.line-index l.lines))
