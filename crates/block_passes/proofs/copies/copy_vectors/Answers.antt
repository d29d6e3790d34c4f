use Rattle.lemmas.proofs.{◌∙◌, ◌+◌, ℕ, arith}
use Rattle.loop_keys.specs.{site_in}
use Rattle.block_passes.specs.{GivesVector, turn_job}
use Rattle.block_passes.proofs.PlanSteps.{each_at, vectors_more}
use Rattle.block_passes.proofs.copies.copy_vectors.Goals as goal

pub loop-i-preserved : goal.loop-i-preserved
loop-i-preserved g c = record {
  room = c.in_ok-put.ensures.room ∙ c.loop-i.invariant.room;
  come =
      vectors_more (λ (p : ℕ). site_in {M = ⊥} (turn_job c.args.at.now) (c.args.at.now.first + p) c.args.under c.args.site) c.args.selection.now c.loop-i.i c.place_at-place.result c.place_at-place.ensures.value
      c.loop-i.vectors.elements.items c.put.new.self.elements.items c.loop-i.vectors.spans.items c.put.new.self.spans.items c.site_vector.result.now c.site_vector.ensures c.in_ok-put.ensures.own c.in_ok-put.ensures.others c.loop-i.invariant.come;
}

pub returns : goal.returns
returns g c =
    let n = c.len-i-end.ensures.count in
    each_at c.args.selection.now (λ p. GivesVector c.loop-i.vectors.elements.items c.loop-i.vectors.spans.items p (site_in {M = ⊥} (turn_job c.args.at.now) (c.args.at.now.first + p) c.args.under c.args.site)) (λ m lt. c.loop-i.invariant.come m (omega (arith, lt, n)))
