use Rattle.lemmas.proofs.{sym}
use Rattle.shard_lines.proofs.OtherLengths.{other_passes}
use Rattle.shard_lines.proofs.shapes.have_shapes.Goals as goal

pub returns-then-shapes-lines : goal.returns-then-shapes-lines
returns-then-shapes-lines c = sym (other_passes c.args.shapes.now c.args.lines.now c.if-shapes-lines.true)
