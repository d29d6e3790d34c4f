use Rattle.lemmas.proofs.{◌∷◌, [], ◌++◌, ◌∙◌, arith, refl, sym, slice_get_read}
use Rattle.graph.specs.{statements}
use Rattle.graph.proofs.Walking.{versions_more}
use Rattle.graph.proofs.versions.varied_versions.Goals as goal

pub loop-i-preserved : goal.loop-i-preserved
loop-i-preserved c =
    c.in_ok-push.ensures.items ∙ (λ i. c.loop-i.invariant i ++ c.in_ok-varied_version.ensures i ∷ [])
    ∙ sym (versions_more c.args.before.now.header.now c.args.before.now.names.now (statements c.args.before.now.lines.now) c.args.change.now.parent.now c.args.change.now.values.now c.args.change.now.tags.now 0 c.loop-i.i c.loop-i.i c.args.change.now.columns.now c.column-item.result (omega arith) (slice_get_read c.args.change.now.columns.now _ c.loop-i.i c.column-item.result refl (omega arith) c.column-item.is))
