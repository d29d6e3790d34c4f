use Rattle.lemmas.proofs.{◌≡◌, take}
use Rattle.shard_program.specs.{AreNamed}
use Rattle.shard_program.proofs.span_file.named_columns.Given as goal

abbrev pub invariant-loop-column : goal.invariant-loop-column
invariant-loop-column l = (l.copy ≡ take l.column-index l.columns) × AreNamed l.copy
