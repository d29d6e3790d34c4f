use Rattle.lemmas.proofs.{ap, fold, refl, rules, arith, ◌≡◌, ◌+ℤ◌, ◌∙◌, w64, FitsSigned, abs_add, int_max, int_min, to_z-of_z, w128}
use Rattle.rdf_values.specs.{Extreme, numbers_of, reduce_start, reduce_step, Reduced}
use Rattle.rdf_values.specs.results.Fold.{Count, Sum}
use Rattle.actions.specs.{in_file_order}
use Rattle.actions.proofs.Folds.{max_comm, max_swap, min_comm, min_swap}
use Rattle.actions.proofs.States.{merge_count, merge_extremes, merge_flat, merge_reduce, merge_square, merge_sum, merge_take, fits_sum}
use Rattle.actions.proofs.state.State.merge.Goals as goal
use Rattle.actions.proofs.state.State.merge.Goals.{in-Count-Count, in-Sum-Sum, in-Min-Min, in-Max-Max, in-Take-Take+in_ok-values-in-Take-Take, in-Reduce-Reduce, in-Histo1D-Histo1D, in-Histo2D-Histo2D}

pub returns-clause-fed : goal.returns-clause-fed
returns-clause-fed c = λ a b held more. elim c.match-self.branch [
  | in-Count-Count w ↦
      let x = w.in-Count-Count in
      let h = rw x.is-0 at held in
      let k = rw x.is-1 at more in
      rw w.self-is record { made = ap Count (merge_count a b x.entries x.more (cc h.made) (cc k.made)); kept = refl }
  | in-Sum-Sum w ↦
      let x = w.in-Sum-Sum in
      let fits_x : FitsSigned w128 x.sum.sum = search rules in
      let fits_y : FitsSigned w128 x.more.sum = search rules in
      let room = rw x.is-0 at c.requires.room in
      let other_room = rw x.is-1 at c.requires.other_room in
      let fits : FitsSigned w128 (x.sum.sum +ℤ x.more.sum) = fits_sum (x.sum.sum +ℤ x.more.sum) (let sum = abs_add x.sum.sum x.more.sum in omega arith) in
      let h = rw x.is-0 at held in
      let k = rw x.is-1 at more in
      rw w.self-is record { made = ap Sum (simp (to_z-of_z w128 _ fits_x, to_z-of_z w128 _ fits_y, to_z-of_z w128 _ fits) (merge_sum a b x.sum.sum x.more.sum (cc h.made) (cc k.made))); kept = refl }
  | in-Min-Min w ↦
      let x = w.in-Min-Min in
      let h = rw x.is-0 at held in
      let k = rw x.is-1 at more in
      rw w.self-is record { made = ap Extreme (w.least_of-least.ensures ∙ merge_extremes a b int_min min_swap min_comm x.least.best x.more.best (cc h.made) (cc k.made)); kept = refl }
  | in-Max-Max w ↦
      let x = w.in-Max-Max in
      let h = rw x.is-0 at held in
      let k = rw x.is-1 at more in
      rw w.self-is record { made = ap Extreme (w.greatest_of-greatest.ensures ∙ merge_extremes a b int_max max_swap max_comm x.greatest.best x.more.best (cc h.made) (cc k.made)); kept = refl }
  | in-Take-Take+in_ok-values-in-Take-Take w ↦
      let x = w.in-Take-Take in
      let y = w.in_ok-values-in-Take-Take in
      let order = rw (w.as_slice.ensures, w.as_slice-in-Take-Take.ensures) at (y.ensures.order a b) in
      rw w.self-is (merge_take a b x.column-0 x.column-1 x.values x.more y.field-0 order (rw x.is-0 at held) (rw x.is-1 at more))
  | in-Reduce-Reduce w ↦
      let x = w.in-Reduce-Reduce in
      let fits_x : FitsSigned w64 x.reduction.value = search rules in
      let fits_y : FitsSigned w64 x.more.value = search rules in
      let fits : FitsSigned w64 w.reduce-reduction.result = search rules in
      let same : x.more.op ≡ x.reduction.op = let kinds = rw (x.is-0, x.is-1) at c.requires.kind in cc in
      let reduced = to_z-of_z w64 w.reduce-reduction.result fits ∙ (rw (to_z-of_z w64 x.reduction.value fits_x, to_z-of_z w64 x.more.value fits_y) at w.reduce-reduction.ensures) in
      let h = rw x.is-0 at held in
      let k = rw x.is-1 at more in
      let own : x.more.value ≡ fold (reduce_step x.more.op) (reduce_start x.more.op) (numbers_of (in_file_order b)) = cc k.made in
      rw w.self-is record { made = ap Reduced (reduced ∙ merge_reduce a b x.reduction.op x.reduction.value x.more.value (cc h.made) (own ∙ ap (λ o. fold (reduce_step o) (reduce_start o) (numbers_of (in_file_order b))) same)); kept = refl }
  | in-Histo1D-Histo1D w ↦
      let x = w.in-Histo1D-Histo1D in
      rw w.self-is (merge_flat a b x.hist x.more w.merge.new.self x.x-0 x.x-1 x.weight-0 x.weight-1 w.merge.ensures.filled (rw x.is-0 at held) (rw x.is-1 at more))
  | in-Histo2D-Histo2D w ↦
      let x = w.in-Histo2D-Histo2D in
      let m = w.merge-in-Histo2D-Histo2D in
      rw w.self-is (merge_square a b x.hist x.more m.new.self x.x-0 x.y-0 x.x-1 x.y-1 x.weight-0 x.weight-1 m.ensures.filled (rw x.is-0 at held) (rw x.is-1 at more))
]
