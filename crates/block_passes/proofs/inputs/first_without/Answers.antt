use Rattle.lemmas.proofs.{◌≡◌, ◌∙◌, ◌<◌, ℕ, None, Some, ap, arith, length, subst, sym}
use Rattle.graph_numbers.specs.{Source}
use Rattle.rdf_model.specs.{fault_in}
use Rattle.block_cache.specs.{fault_at}
use Rattle.block_passes.specs.{turn_job, source_fault}
use Rattle.block_passes.proofs.PlanSteps.{first_at, each_at}
use Rattle.block_cache.proofs.LaneSteps.{no_fault_over}
use Rattle.block_passes.proofs.inputs.first_without.Goals as goal

pub returns : goal.returns
returns g c =
    let fault = source_fault (turn_job c.args.at.now) c.args.at.now.first c.args.of.now.under (Source.Element c.args.of.now.site c.args.of.now.nth c.args.of.now.tags) in
    let n = c.len-i-end.ensures.count in
    sym (no_fault_over c.args.selection.now fault (each_at c.args.selection.now (λ p. fault p ≡ None) (λ m lt. c.loop-i.invariant m (omega (arith, lt, n)))))

pub returns-in-Err : goal.returns-in-Err
returns-in-Err g c =
    let fault = source_fault (turn_job c.args.at.now) c.args.at.now.first c.args.of.now.under (Source.Element c.args.of.now.site c.args.of.now.nth c.args.of.now.tags) in
    let here = c.place_at-place.ensures.value in
    let inside : c.loop-i.i < length c.args.selection.now = omega arith in
    ap (λ (n : ℕ). Some (fault_at n c.in-Err.kind)) here
    ∙ sym (first_at c.args.selection.now fault c.loop-i.i c.in-Err.kind inside c.loop-i.invariant (subst (λ (n : ℕ). fault n ≡ Some c.in-Err.kind) here (ap fault_in c.in-Err.ensures)))
