use Rattle.lemmas.proofs.{◌∙◌, ◌+◌, ℕ}
use Rattle.rdf_model.specs.{for_all}
use Rattle.actions.specs.{HasValues, places_of, SuitsAt}
use Rattle.loop_keys.specs.{version_in}
use Rattle.block_passes.specs.{turn_job}
use Rattle.block_passes.proofs.Feeding.{all_places, first_is}
use Rattle.block_passes.proofs.feed.first_unfed_copy.Goals as goal

pub first_fault-requires-clause-there : goal.first_fault-requires-clause-there
first_fault-requires-clause-there g c = all_places (HasValues c.gather-sources.result) (places_of c.batch_places-places.result) c.args.selection.now c.batch_places-places.ensures (λ p i. (c.gather-sources.ensures _ c.in_ok-copies.ensures.copied p (c.requires.inside p i) i (c.requires.hand p i)).there)

pub returns-clause-fault : goal.returns-clause-fault
returns-clause-fault g c =
    c.placed.ensures
    ∙ first_is c.args.own.now.kind.now c.gather-sources.result (λ (p : ℕ). for_all (version_in {M = ⊥} (turn_job c.args.at.now) (c.args.at.now.first + p) c.args.own.now.under) c.args.own.now.inputs.now) c.args.selection.now (places_of c.batch_places-places.result) c.batch_places-places.ensures (λ p i. c.gather-sources.ensures _ c.in_ok-copies.ensures.copied p (c.requires.inside p i) i (c.requires.hand p i))
    c.first_fault.result (c.first_fault.ensures c.args.own.now.kind.now (all_places (SuitsAt c.args.own.now.kind.now c.gather-sources.result) (places_of c.batch_places-places.result) c.args.selection.now c.batch_places-places.ensures (λ p i. (c.gather-sources.ensures _ c.in_ok-copies.ensures.copied p (c.requires.inside p i) i (c.requires.hand p i)).suits)))
