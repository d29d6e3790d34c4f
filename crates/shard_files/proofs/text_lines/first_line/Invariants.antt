use Rattle.lemmas.proofs.{take}
use Rattle.shard_files.specs.Endless.{Endless}
use Rattle.shard_files.proofs.text_lines.first_line.Given as goal

abbrev pub invariant-loop-end : goal.invariant-loop-end
invariant-loop-end l = Endless (take l.end l.text)
