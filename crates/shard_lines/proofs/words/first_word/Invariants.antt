use Rattle.lemmas.proofs.{take}
use Rattle.shard_lines.proofs.Cutting.{Spaceless}
use Rattle.shard_lines.proofs.words.first_word.Given as goal

abbrev pub invariant-loop-end : goal.invariant-loop-end
invariant-loop-end l = Spaceless (take l.end l.text)
