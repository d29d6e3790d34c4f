use Rattle.lemmas.proofs.{ℕ, ◌≡◌, ◌<◌, ◌≤◌, ◌+◌, ◌*◌, ◌∙◌, length, map, get_or, set, arith, ap, sym, subst, List, ℤ, w64, length-set, refl}
use Rattle.std.proofs.lemmas.Int.{to_z-of_z}
use Rattle.rdf_values.specs.{bin}
use Rattle.histograms.specs.{cell_seen, CellSum, IsBounded, IsWeight, rows_on, with_weight}
use Rattle.histograms.proofs.Filling.{all_bounded_with, bounded_with, fits_bounded}
use Rattle.histograms.proofs.FillingPairs.{place_within, square_cells-point}
use Rattle.histograms.proofs.hist2.Hist2.fill.Goals as goal

-- the old cell, and the new one, in their bounds
bounded_next : (n : ℕ) (cells : List CellSum) (i : ℕ) (cell new : CellSum) (w : ℤ) → IsWeight w → ((k : ℕ) (d : CellSum) → k < length cells → IsBounded n (get_or cells k d)) → i < length cells → cell ≡ get_or cells i cell → new ≡ with_weight cell w → IsBounded (n + 1) new
bounded_next n cells i cell new w h all l read e = subst (IsBounded (n + 1)) (sym e) (bounded_with n cell w h (subst (IsBounded n) (sym read) (all i cell l)))

pub with-requires-clause-squares : goal.with-requires-clause-squares
with-requires-clause-squares c =
    let room = rw (← c.self.view_is) at c.requires.room in
    let below = place_within c.self.inside.x c.self.inside.y c.bin.result c.bin-2.result c.place-at.result (length c.self.inside.cells.items) c.self.invariant.size c.bin.ensures.within c.bin-2.ensures.within
    (c.place-at.ensures ∙ ap (λ w. c.bin.result * w + c.bin-2.result) c.cells.ensures) in
    rw (to_z-of_z w64 c.args.weight c.ranges.weight)
    (fits_bounded (c.self.inside.fills + 1) (with_weight c.index.result.now c.args.weight) (omega arith)
    (bounded_next c.self.inside.fills c.self.inside.cells.items c.place-at.result c.index.result.now _ c.args.weight c.requires.weight c.self.invariant.bounded below c.index.ensures refl)).1

pub invariant_of-self : goal.invariant_of-self
invariant_of-self c =
    let kept : c.with.result ≡ with_weight c.index.result.now c.args.weight = c.with.ensures ∙ ap (with_weight c.index.result.now) (to_z-of_z w64 c.args.weight c.ranges.weight) in
    let room = rw (← c.self.view_is) at c.requires.room in
    let below = place_within c.self.inside.x c.self.inside.y c.bin.result c.bin-2.result c.place-at.result (length c.self.inside.cells.items) c.self.invariant.size c.bin.ensures.within c.bin-2.ensures.within
    (c.place-at.ensures ∙ ap (λ w. c.bin.result * w + c.bin-2.result) c.cells.ensures) in
    let new = bounded_next c.self.inside.fills c.self.inside.cells.items c.place-at.result c.index.result.now c.with.result c.args.weight c.requires.weight c.self.invariant.bounded below c.index.ensures kept in
    record {
      x_axis = c.self.invariant.x_axis;
      y_axis = c.self.invariant.y_axis;
      size = rw length-set c.self.invariant.size;
      few = omega arith;
      bounded = all_bounded_with c.self.inside.fills c.self.inside.cells.items c.place-at.result c.with.result new c.self.invariant.bounded;
    }

pub returns-clause-filled : goal.returns-clause-filled
returns-clause-filled c = λ points held.
    let cells = c.self.inside.cells.items in
    let xs = c.self.inside.x in
    let ys = c.self.inside.y in
    let kept : c.with.result ≡ with_weight c.index.result.now c.args.weight = c.with.ensures ∙ ap (with_weight c.index.result.now) (to_z-of_z w64 c.args.weight c.ranges.weight) in
    let x_bin : c.bin.result ≡ bin xs c.args.x = c.bin.ensures.value ∙ ap (bin xs) (to_z-of_z w64 c.args.x c.ranges.x) in
    let y_bin : c.bin-2.result ≡ bin ys c.args.y = c.bin-2.ensures.value ∙ ap (bin ys) (to_z-of_z w64 c.args.y c.ranges.y) in
    let at : c.place-at.result ≡ bin xs c.args.x * (length ys + 1) + bin ys c.args.y
    = c.place-at.ensures ∙ ap (λ w. c.bin.result * w + c.bin-2.result) c.cells.ensures ∙ ap (λ i. i * (length ys + 1) + c.bin-2.result) x_bin ∙ ap (λ j. bin xs c.args.x * (length ys + 1) + j) y_bin in
    let before = rw (← c.self.view_is) at held in
    record {
      cells = ap (λ v. rows_on xs ys (map cell_seen (set cells c.place-at.result v))) kept
          ∙ square_cells-point xs ys points c.args.x c.args.y c.args.weight cells c.index.result.now c.place-at.result c.self.invariant.size (subst (λ i. i ≤ length xs) x_bin c.bin.ensures.within) (subst (λ j. j ≤ length ys) y_bin c.bin-2.ensures.within)
          at c.index.ensures before.cells;
    }
