use Rattle.lemmas.proofs.{arith, ◌≡◌, ◌<◌, ◌∙◌, sym, get_or, length, FiltersInPlace-more_no, FiltersInPlace-more_set, get_or_default}
use Rattle.expr_lanes.proofs.Composed.{read_in}
use Rattle.expr_lanes.proofs.narrowing.keep_places.Goals as goal
use Rattle.expr_lanes.proofs.narrowing.keep_places.Goals.{then-passes_at, else-passes_at}

pub passes_at-requires : goal.passes_at-requires
passes_at-requires g c = c.requires.can _ (read_in c.args.places.now c.loop-i.places c.args.count c.loop-i.i 0 c.loop-i.invariant.rest (omega arith) (omega arith))

pub loop-i-preserved : goal.loop-i-preserved
loop-i-preserved g c =
    let below : c.loop-i.i < length c.loop-i.places = omega arith in
    let read : get_or c.loop-i.places c.loop-i.i 0 ≡ get_or c.loop-i.places c.loop-i.i (get_or c.loop-i.places c.loop-i.i 0) = get_or_default c.loop-i.places c.loop-i.i 0 (get_or c.loop-i.places c.loop-i.i 0) below in
    elim c.if-passes_at.branch [
      | then-passes_at w ↦ rw (w.places-is, w.kept-is) (FiltersInPlace-more_set c.loop-i.invariant below (sym c.passes_at.ensures ∙ w.if-passes_at.true) read)
      | else-passes_at w ↦ rw (w.places-is, w.kept-is) (FiltersInPlace-more_no c.loop-i.invariant below (sym c.passes_at.ensures ∙ w.if-passes_at.false) read)
    ]
