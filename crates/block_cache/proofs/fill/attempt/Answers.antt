use Rattle.lemmas.proofs.{ℕ, ap, arith, length, subst, List, get_or, Contains}
use Rattle.std.proofs.lemmas.List.Elements.{Contains-get_or}
use Rattle.expr_lanes.specs.{Stopped}
use Rattle.block_cache.proofs.LaneSteps.{on_err}
use Rattle.block_cache.proofs.Attempts.{attempted, place_inside, all_held}
use Rattle.block_cache.proofs.OverLaws.{broken_off}
use Rattle.block_cache.proofs.fill.attempt.Goals as goal

pub note_needs-requires : goal.note_needs-requires
note_needs-requires g c = λ k d low.
    let tried = rw c.clear.ensures at c.in_ok-try_lane.ensures.tried in
    let near = place_inside c.args.wanted.now tried c.requires.selected.inside c.requires.lacks _ (subst (λ (l : List Stopped). Contains l (get_or c.as_slice.result.now k d)) c.as_slice.ensures.value (Contains-get_or c.as_slice.result.now k d low)) in
    omega (arith, near, c.requires.selected.small)

pub returns-clause-attempted : goal.returns-clause-attempted
returns-clause-attempted g c =
    let tried = rw c.clear.ensures at c.in_ok-try_lane.ensures.tried in
    attempted c.args.wanted.now tried c.requires.selected.inside c.requires.lacks _ (rw c.as_slice-2.ensures.value at c.least_fault.ensures) _ _ (omega (arith, c.requires.selected.small, ap (λ (l : List ℕ). length l) c.try_lane.ensures.needs)) (rw (c.as_slice.ensures.value, c.try_lane.ensures.needs) at c.note_needs.ensures)

pub returns-in_err-try_lane-clause-broken : goal.returns-in_err-try_lane-clause-broken
returns-in_err-try_lane-clause-broken g c = on_err c.from_residual.result (broken_off c.args.wanted.now c.in_err-try_lane.ensures.begun c.try_lane.ensures.few)

pub returns-clause-whole : goal.returns-clause-whole
returns-clause-whole g c = all_held c.args.wanted.now (rw c.clear.ensures at c.in_ok-try_lane.ensures.tried) c.requires.selected.inside c.requires.lacks
