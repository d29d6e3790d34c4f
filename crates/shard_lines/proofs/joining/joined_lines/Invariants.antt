use Rattle.lemmas.proofs.{◌≡◌, ◌++◌, drop}
use Rattle.shard_lines.specs.{joined_lines}
use Rattle.shard_lines.proofs.joining.joined_lines.Given as goal

abbrev pub invariant-loop-line : goal.invariant-loop-line
invariant-loop-line l = l.all ++ joined_lines (drop l.i l.shapes) l.line-iterator.rest.items (drop l.i l.others) ≡ joined_lines l.shapes l.fn.lines l.others
