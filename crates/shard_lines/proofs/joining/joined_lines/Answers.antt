use Rattle.lemmas.proofs.{inl, inr, sym, ◌∙◌}
use Rattle.shard_lines.proofs.Ending.{lines_end, lines_over}
use Rattle.shard_lines.proofs.joining.joined_lines.Goals as goal
use Rattle.shard_lines.proofs.joining.joined_lines.Goals.{then-i-shapes-via-then-i-shapes, then-i-shapes-via-else-i-shapes+then-i-others}

pub returns-then-i-shapes : goal.returns-then-i-shapes
returns-then-i-shapes c = lines_end c.args.shapes.now c.loop-line.line-iterator.rest.items c.args.others.now c.loop-line.all _ c.loop-line.i c.loop-line.invariant
    (elim c.then-i-shapes.branch [ then-i-shapes-via-then-i-shapes w ↦ inl w.if-i-shapes.true | then-i-shapes-via-else-i-shapes+then-i-others w ↦ inr w.if-i-others.true ])

pub returns : goal.returns
returns c = lines_over _ c.loop-line.line-iterator.rest.items _ c.loop-line.all _ (sym c.loop-line.line-iterator.rest.ok.0 ∙ c.in-None.ensures.steps.0) c.loop-line.invariant
