use Rattle.lemmas.proofs.{◌<◌, ℕ, List, get_or, length, arith, subst, sym, ap}
use Rattle.expr_lanes.proofs.Composed.{is_in_at}
use Rattle.block_cache.proofs.block_marks.are_marked.Goals as goal

pub bounds-marks-place : goal.bounds-marks-place
bounds-marks-place c =
    subst (λ (l : List ℕ). get_or l c.loop-place.place-index 0 < length c.args.marks.now) (sym c.as_slice-places.ensures.value)
    (c.requires _ (is_in_at c.args.selection.now c.loop-place.place-index 0 (let e = ap (λ (l : List ℕ). length l) c.as_slice-places.ensures.value in omega (arith, e))))
