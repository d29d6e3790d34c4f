use Rattle.lemmas.proofs.{◌∙◌, arith, subst}
use Rattle.loop_keys.specs.{IsSourceIn, source_at}
use Rattle.block_passes.specs.{source_fault, turn_job}
use Rattle.block_passes.proofs.Serving.{none_served, source_leaves}
use Rattle.block_passes.proofs.inputs.serve_version.Goals as goal

pub returns-in-Cell-clause-served : goal.returns-in-Cell-clause-served
returns-in-Cell-clause-served g c =
    let e = c.source_under.ensures ∙ c.in-Cell.is in
    none_served (turn_job c.args.at.now) c.args.at.now.first c.args.at.now.count (source_fault (turn_job c.args.at.now) c.args.at.now.first c.args.under (source_at (turn_job c.args.at.now) c.args.under c.args.version)) c.args.at.now.pass c.args.to.now c.args.work.now.lanes.items c.args.work.now.found
    c.requires.known.ready c.requires.selected.made c.requires.selected.inside c.requires.known.settled (λ p i. grind (arith, e))

pub returns-in-Site-clause-leaves : goal.returns-in-Site-clause-leaves
returns-in-Site-clause-leaves g c =
    source_leaves c.args.at.now c.args.under c.in-Site.site c.args.work.now.found.limit (source_at (turn_job c.args.at.now) c.args.under c.args.version)
    (λ D. subst (IsSourceIn D) (c.source_under.ensures ∙ c.in-Site.is)) c.args.to.now.places c.requires.known.limit c.requires.selected.inside c.requires.demanded
    c.args.work.now c.serve_site.new.work c.args.steps.now c.serve_site.new.steps c.serve_site.ensures.spent c.serve_site.ensures.room

pub returns-in-Site-clause-plain : goal.returns-in-Site-clause-plain
returns-in-Site-clause-plain g c = λ used p source. c.serve_site.ensures.plain used p (subst (IsSourceIn used) (c.source_under.ensures ∙ c.in-Site.is) source)

pub returns-in-Element-clause-leaves : goal.returns-in-Element-clause-leaves
returns-in-Element-clause-leaves g c =
    source_leaves c.args.at.now c.args.under c.in-Element.site c.args.work.now.found.limit (source_at (turn_job c.args.at.now) c.args.under c.args.version)
    (λ D. subst (IsSourceIn D) (c.source_under.ensures ∙ c.in-Element.is)) c.args.to.now.places c.requires.known.limit c.requires.selected.inside c.requires.demanded
    c.args.work.now c.serve_element.new.work c.args.steps.now c.serve_element.new.steps c.serve_element.ensures.spent c.serve_element.ensures.room

pub returns-in-Element-clause-plain : goal.returns-in-Element-clause-plain
returns-in-Element-clause-plain g c = λ used p source. c.serve_element.ensures.plain used p (subst (IsSourceIn used) (c.source_under.ensures ∙ c.in-Element.is) source)
