use Rattle.lemmas.proofs.{◌≡◌, take}
use Rattle.shard_lines.proofs.joining.copied_lines.Given as goal

abbrev pub invariant-loop-line : goal.invariant-loop-line
invariant-loop-line l = l.copies ≡ take l.line-index l.lines
