-- The lines of a pass over two lists of rows, one behind the other.
use Rattle.lemmas.proofs.{◌≡◌, ℕ, suc, ◌+◌, ℤ, ◌+ℤ◌, ◌*ℤ◌, Bool, List, [], ◌∷◌, ◌++◌, length, map, Option, None, Some, refl, sym, ap, ap₂, ◌∙◌, arith, cond, length-append, count_by, flat_map, fold, flat_map-append, fold-append, int_max, int_min, map-append, sum_by-append}
use Rattle.rdf_values.specs.{ActionAt, ActionKind, Booking, cells_on, ColType, extreme, flat_cell, fold_items, integer_sum, Item, number_of, numbers_of, Pass, Path, reduce_start, reduce_step, ReduceOp, ReportOn, scalar_of, square_cell, Value, weight_in, weight_in2}
use Rattle.rdf_values.specs.results.Fold.{Cell, cell_of}
use Rattle.rdf_model.specs.{cutflow, Dataset, items_of, passes_filters}
use Rattle.actions.specs.{better_of_two, by_cluster, Fed, from_cluster, in_file_order, put}
use Rattle.actions.specs.Accumulators as extremes
use Rattle.actions.proofs.Folds.{extreme_fold, sum_both, map-flat_map, extreme_from, max_comm, max_swap, min_comm, min_swap, reduce_both}
use Rattle.loop_pieces.specs.{Counts, counts_of}
use Rattle.histograms.specs.{CellSum}
use Rattle.shard_lines.specs.{action_shape, added_cells, added_counts, better_of, booking_shape, joined_line, ShardLine}
use Rattle.shard_spans.specs.{booking_line, cell_sum, filled_line, JoinedLinesAreOfBoth}

-- ---- items that one cluster feeds are in the order of the file

put_first : (x : Item) (xs : List Item) → put (record { cluster = 0; item = x }) (from_cluster 0 xs) ≡ from_cluster 0 (x ∷ xs)
put_first x [] = refl
put_first x (y ∷ ys) = refl

sorted_already : (xs : List Item) → by_cluster (from_cluster 0 xs) ≡ from_cluster 0 xs
sorted_already [] = refl
sorted_already (x ∷ xs) = ap (put (record { cluster = 0; item = x })) (sorted_already xs) ∙ put_first x xs

items_back : (xs : List Item) → map (λ (f : Fed). f.item) (from_cluster 0 xs) ≡ xs
items_back [] = refl
items_back (x ∷ xs) = ap (λ l. x ∷ l) (items_back xs)

alone : (xs : List Item) → in_file_order (from_cluster 0 xs) ≡ xs
alone xs = ap (map (λ (f : Fed). f.item)) (sorted_already xs) ∙ items_back xs

both_alone : (xs ys : List Item) → in_file_order (from_cluster 0 xs ++ from_cluster 0 ys) ≡ xs ++ ys
both_alone xs ys = ap in_file_order (sym (map-append (λ (i : Item). record { cluster = 0; item = i }) xs ys)) ∙ alone (xs ++ ys)

-- ---- numbers

sum_of_both : (f : Item → List ℤ) (xs ys : List Item) → integer_sum (flat_map f (xs ++ ys)) ≡ integer_sum (flat_map f xs) +ℤ integer_sum (flat_map f ys)
sum_of_both f xs ys =
    ap (λ l. integer_sum (flat_map f l)) (sym (both_alone xs ys)) ∙ sum_both f (from_cluster 0 xs) (from_cluster 0 ys)
    ∙ ap₂ (λ (a b : List Item). integer_sum (flat_map f a) +ℤ integer_sum (flat_map f b)) (alone xs) (alone ys)

reduce_of_both : (o : ReduceOp) (xs ys : List Item) → fold (reduce_step o) (reduce_start o) (numbers_of (xs ++ ys)) ≡ reduce_step o (fold (reduce_step o) (reduce_start o) (numbers_of xs)) (fold (reduce_step o) (reduce_start o) (numbers_of ys))
reduce_of_both o xs ys =
    ap (λ l. fold (reduce_step o) (reduce_start o) (numbers_of l)) (sym (both_alone xs ys)) ∙ reduce_both o (from_cluster 0 xs) (from_cluster 0 ys)
    ∙ ap₂ (λ (a b : List Item). reduce_step o (fold (reduce_step o) (reduce_start o) (numbers_of a)) (fold (reduce_step o) (reduce_start o) (numbers_of b))) (alone xs) (alone ys)

better_is : (better : ℤ → ℤ → ℤ) (y z : Option ℤ) → better_of_two better y z ≡ better_of better y z
better_is better None None = refl
better_is better (Some y) None = refl
better_is better None (Some z) = refl
better_is better (Some y) (Some z) = refl

extreme_of_both : (better : ℤ → ℤ → ℤ) → ((s x y : ℤ) → better (better s x) y ≡ better (better s y) x) → ((x y : ℤ) → better x y ≡ better y x) → (xs ys : List Item)
    → extreme better (numbers_of (xs ++ ys)) ≡ better_of better (extreme better (numbers_of xs)) (extreme better (numbers_of ys))
extreme_of_both better swap comm xs ys =
    ap (extreme better) (flat_map-append number_of xs ys) ∙ extreme_fold better (numbers_of xs ++ numbers_of ys)
    ∙ fold-append (extremes.better_of better) None (numbers_of xs) (numbers_of ys)
    ∙ ap (λ o. fold (extremes.better_of better) o (numbers_of ys)) (sym (extreme_fold better (numbers_of xs)))
    ∙ extreme_from better swap comm (extreme better (numbers_of xs)) (numbers_of ys)
    ∙ better_is better (extreme better (numbers_of xs)) (extreme better (numbers_of ys))

-- ---- cells

-- two lists of as many cells in front of others
added-append : (ks bs cs ds : List CellSum) → length ks ≡ length bs → added_cells (ks ++ cs) (bs ++ ds) ≡ added_cells ks bs ++ added_cells cs ds
added-append [] [] cs ds h = refl
added-append [] (b ∷ bs) cs ds h = absurd (omega arith)
added-append (a ∷ ks) [] cs ds h = absurd (omega arith)
added-append (a ∷ ks) (b ∷ bs) cs ds h = ap (λ (l : List CellSum). record { sum = a.sum +ℤ b.sum; squares = a.squares +ℤ b.squares } ∷ l) (added-append ks bs cs ds (omega arith))

pub cells_long : (f : ℕ → Cell) (js : List ℕ) → length (map cell_sum (map f js)) ≡ length js
cells_long f [] = refl
cells_long f (j ∷ js) = ap suc (cells_long f js)

module _ (xs ys : List Item) where
  cell_of_both : (f : Item → List ℤ) → cell_sum (cell_of (flat_map f (xs ++ ys))) ≡ record { sum = (cell_of (flat_map f xs)).sum +ℤ (cell_of (flat_map f ys)).sum; squares = (cell_of (flat_map f xs)).squares +ℤ (cell_of (flat_map f ys)).squares }
  cell_of_both f =
      let h : ℤ → ℤ = λ w. w *ℤ w in
      let squares : integer_sum (map h (flat_map f (xs ++ ys))) ≡ integer_sum (map h (flat_map f xs)) +ℤ integer_sum (map h (flat_map f ys))
      = ap integer_sum (map-flat_map h f (xs ++ ys)) ∙ sum_of_both (λ i. map h (f i)) xs ys ∙ ap₂ (λ (a b : List ℤ). integer_sum a +ℤ integer_sum b) (sym (map-flat_map h f xs)) (sym (map-flat_map h f ys)) in
      λ i. record { sum = sum_of_both f xs ys i; squares = squares i }

  flat_of_both : (edges : List ℤ) (is : List ℕ) → added_cells (map cell_sum (map (flat_cell edges xs) is)) (map cell_sum (map (flat_cell edges ys) is)) ≡ map cell_sum (map (flat_cell edges (xs ++ ys)) is)
  flat_of_both edges [] = refl
  flat_of_both edges (i ∷ is) = ap₂ (λ (c : CellSum) cs. c ∷ cs) (sym (cell_of_both (weight_in edges i))) (flat_of_both edges is)

  row_of_both : (xe ye : List ℤ) (i : ℕ) (js : List ℕ) → added_cells (map cell_sum (map (square_cell xe ye xs i) js)) (map cell_sum (map (square_cell xe ye ys i) js)) ≡ map cell_sum (map (square_cell xe ye (xs ++ ys) i) js)
  row_of_both xe ye i [] = refl
  row_of_both xe ye i (j ∷ js) = ap₂ (λ (c : CellSum) cs. c ∷ cs) (sym (cell_of_both (weight_in2 xe ye i j))) (row_of_both xe ye i js)

  plane_of_both : (xe ye : List ℤ) (is js : List ℕ)
      → added_cells (flat_map (λ cells. map cell_sum cells) (map (λ i. map (square_cell xe ye xs i) js) is)) (flat_map (λ cells. map cell_sum cells) (map (λ i. map (square_cell xe ye ys i) js) is))
      ≡ flat_map (λ cells. map cell_sum cells) (map (λ i. map (square_cell xe ye (xs ++ ys) i) js) is)
  plane_of_both xe ye [] js = refl
  plane_of_both xe ye (i ∷ is) js =
      added-append (map cell_sum (map (square_cell xe ye xs i) js)) (map cell_sum (map (square_cell xe ye ys i) js)) (flat_map (λ cells. map cell_sum cells) (map (λ k. map (square_cell xe ye xs k) js) is)) (flat_map (λ cells. map cell_sum cells) (map (λ k. map (square_cell xe ye ys k) js) is))
      (cells_long (square_cell xe ye xs i) js ∙ sym (cells_long (square_cell xe ye ys i) js))
      ∙ ap₂ (λ (a b : List CellSum). a ++ b) (row_of_both xe ye i js) (plane_of_both xe ye is js)

-- ---- actions

action_of_both : (column : ColType) (k : ActionKind) (xs ys : List Item) → joined_line (action_shape column k) (filled_line (fold_items k xs)) (filled_line (fold_items k ys)) ≡ filled_line (fold_items k (xs ++ ys))
action_of_both column ActionKind.Count xs ys = ap ShardLine.Count (sym (length-append xs ys))
action_of_both column (ActionKind.Sum c) xs ys = ap ShardLine.Sum (sym (sum_of_both number_of xs ys))
action_of_both column (ActionKind.Min c) xs ys = ap ShardLine.Extreme (sym (extreme_of_both int_min min_swap min_comm xs ys))
action_of_both column (ActionKind.Max c) xs ys = ap ShardLine.Extreme (sym (extreme_of_both int_max max_swap max_comm xs ys))
action_of_both column (ActionKind.Take c) xs ys = ap ShardLine.Take (sym (flat_map-append scalar_of xs ys))
action_of_both column (ActionKind.Reduce o c) xs ys = ap ShardLine.Number (sym (reduce_of_both o xs ys))
action_of_both column (ActionKind.Histo1D edges x w) xs ys = ap ShardLine.Cells (flat_of_both xs ys edges (cells_on edges))
action_of_both column (ActionKind.Histo2D xe ye x y w) xs ys = ap ShardLine.Cells (plane_of_both xs ys xe ye (cells_on xe) (cells_on ye))

-- ---- reports

module _ (d : Dataset) (xs ys : List (List Value)) where
  count_of_both : (p : List Value → Bool) → count_by p (xs ++ ys) ≡ count_by p xs + count_by p ys
  count_of_both p = sum_by-append (λ row. cond (p row) 1 0) xs ys

  flow_of_both : (f : Path) → counts_of (cutflow (record d { rows = xs ++ ys }) f)
      ≡ record { all = (counts_of (cutflow (record d { rows = xs }) f)).all + (counts_of (cutflow (record d { rows = ys }) f)).all; pass = (counts_of (cutflow (record d { rows = xs }) f)).pass + (counts_of (cutflow (record d { rows = ys }) f)).pass }
  flow_of_both [] = refl
  flow_of_both (s ∷ up) = λ i. record { all = count_of_both (passes_filters d up) i; pass = count_of_both (passes_filters d (s ∷ up)) i }

  flows_of_both : (fs : List Path) → added_counts (map (λ f. counts_of (cutflow (record d { rows = xs }) f)) fs) (map (λ f. counts_of (cutflow (record d { rows = ys }) f)) fs) ≡ map (λ f. counts_of (cutflow (record d { rows = xs ++ ys }) f)) fs
  flows_of_both [] = refl
  flows_of_both (f ∷ fs) = ap₂ (λ (c : Counts) cs. c ∷ cs) (sym (flow_of_both f)) (flows_of_both fs)

  pub line_of_both : (column : ColType) (b : Booking) (p : Pass) → joined_line (booking_shape column b) (booking_line (record d { rows = xs }) b p) (booking_line (record d { rows = ys }) b p) ≡ booking_line (record d { rows = xs ++ ys }) b p
  line_of_both column (ActionAt k at) p =
      action_of_both column k (flat_map (items_of d k at p.under) xs) (flat_map (items_of d k at p.under) ys)
      ∙ ap (λ l. filled_line (fold_items k l)) (sym (flat_map-append (items_of d k at p.under) xs ys))
  line_of_both column (ReportOn fs) p = ap ShardLine.Report (flows_of_both fs)

pub joined_lines_are_of_both : JoinedLinesAreOfBoth
joined_lines_are_of_both d xs ys column p = line_of_both d xs ys column p.result.booking p
