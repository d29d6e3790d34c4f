use Rattle.lemmas.proofs.{◌≡◌, drop, length}
use Rattle.shard_lines.specs.{have_shapes}
use Rattle.shard_lines.proofs.shapes.have_shapes.Given as goal

abbrev pub invariant-loop-i : goal.invariant-loop-i
invariant-loop-i l = record { rest : have_shapes (drop l.i l.shapes) (drop l.i l.lines) ≡ have_shapes l.shapes l.lines; long : length l.shapes ≡ length l.lines }
