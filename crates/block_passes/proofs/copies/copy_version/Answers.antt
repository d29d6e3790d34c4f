use Rattle.lemmas.proofs.{◌∙◌, Some, ap, subst, sym}
use Rattle.graph_numbers.specs.{Source}
use Rattle.block_cache.specs.{kinds_of}
use Rattle.loop_keys.specs.{IsSourceIn}
use Rattle.block_passes.specs.{IsServable, turn_job}
use Rattle.block_passes.proofs.Serving.{lane_of_kind}
use Rattle.block_passes.proofs.Demanding.{element_kind}
use Rattle.block_passes.proofs.copies.copy_version.Goals as goal

pub copy_vectors-requires-clause-vectors : goal.copy_vectors-requires-clause-vectors
copy_vectors-requires-clause-vectors g c =
    let j = turn_job c.args.at.now in
    let kinds = kinds_of c.args.lanes.now in
    let w = c.site_kind.ensures.expr in
    let e = c.source_under.ensures ∙ c.in-Site.is in
    let there = subst (λ (y : Source). IsServable j c.args.at.now.first c.args.under c.args.at.now.count kinds c.args.at.now.cells.now c.requires.can.0 c.requires.can.1 y) e c.requires.can.2.1 in
    lane_of_kind j c.args.at.now.first c.args.at.now.count c.args.under c.in-Site.site there.0 c.args.lanes.now c.requires.over.ready w.0 w.1 there.1.kinds_are ∙ ap Some (sym w.2 ∙ c.in-Vect.is)

pub returns-in_err-copy_elements-in-Element-clause-plain : goal.returns-in_err-copy_elements-in-Element-clause-plain
returns-in_err-copy_elements-in-Element-clause-plain g c = λ used p source.
    let e = c.source_under.ensures ∙ c.in-Element.is in
    let w = c.site_kind-kind.ensures.expr in
    let vectors = element_kind (turn_job c.args.at.now) c.requires.over.turn.fits.job c.args.under c.args.version c.in-Element.site c.in-Element.place c.in-Element.tags e w.0 w.1 in
    absurd (c.site_kind-kind.ensures.plain used p (subst (IsSourceIn used) e source) (w.2 ∙ vectors))
