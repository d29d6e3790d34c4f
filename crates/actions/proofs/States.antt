-- What an accumulator holds after one more entry.
use Rattle.lemmas.proofs.{ap₂, arith, ℕ, ◌≡◌, ◌≤◌, ◌+◌, map, length, All, List, [], ◌∷◌, ◌++◌, ℤ, pos, ◌+ℤ◌, refl, ap, sym, ◌∙◌, length-append, lit≤, Option, None, Result, Ok, Err, OnErr, OnOk, fold, ◌*◌, ◌^◌, ◌<◌, w64, FitsSigned, nat_abs, zero, suc, get_or, take, add-one, append_assoc, append-nil, subst, replicate, Bool, true, if◌then◌else◌, Some, flat_map, int_max, int_min, map-append, map-id, map-map, flat_map-append, fold-append, abs_add, fits_signed_from_abs, w128}
use Rattle.rdf_values.specs.{ActionKind, Extreme, extreme, Flat, Item, numbers_of, points, points2, reduce_step, ReduceOp, Scalar, spread, Square, Value, weights, as_long_as, EntryFault, feed_fault, is_weight, weight_fault, integer_sum, number_of, reduce_start, scalar_of, Taken}
use Rattle.rdf_values.specs.declared.results.Item.TheVariants.{Number, Single, Point, Point2}
use Rattle.rdf_values.specs.results.Fold.{Count, Sum}
use Rattle.histograms.specs.{flat_cells, HasFilled, HasFilled2, square_cells, Flat as FlatCells}
use Rattle.actions.specs.declared.folding.Summed.{Summed}
use Rattle.actions.specs.declared.folding.Least.{Least}
use Rattle.actions.specs.declared.folding.Greatest.{Greatest}
use Rattle.actions.specs.declared.folding.Reduction.{Reduction}
use Rattle.actions.specs.declared.taken.TakenValue.{TakenValue}
use Rattle.actions.specs.declared.state.State.{State}
use Rattle.actions.specs.declared.items.ColumnValue.{ColumnValue}
use Rattle.actions.specs.declared.items.Items.{Items}
use Rattle.actions.specs.declared.items.Items.TheVariants.{One, Pair, Weighted}
use Rattle.actions.specs.{better_of, Fed, fed_value, first_numbers, first_scalar, from_cluster, Holds, in_file_order, part_values, second_part, Suits, values_from, values_of, weight_part, part_value, better_of_two, by_cluster}
use Rattle.actions.proofs.Folds.{extreme_fold, by_cluster-feed, in_file_order-feed, numbers_of-map, scalars_of-map, both_same, flat_joined, items_of, length-in_file_order, square_joined, sum_both, extreme_from, option_swap, reduce_both}
use Rattle.histograms.proofs.Filling.{abs_of_fit}
use Rattle.rdf_values.specs.declared.results.EntryFault.TheVariants.{Lengths}
use Rattle.histograms.specs.OneAxis as one
use Rattle.histograms.specs.TwoAxes as two

-- the items of one column, of a Sum as of a Min, a Max and a Reduce
pub spread_sum : (c : List ℕ) (vs : List Value) → spread (ActionKind.Sum c) vs ≡ map Number (first_numbers vs)
spread_sum c vs = grind arith

pub spread_take : (c : List ℕ) (vs : List Value) → spread (ActionKind.Take c) vs ≡ map Single (first_scalar vs)
spread_take c vs = grind arith

values_fed : (xs : List Scalar) (cluster : ℕ) → map fed_value (values_from cluster xs) ≡ from_cluster cluster (map Single xs)
values_fed xs cluster = map-map fed_value (λ x. record { cluster = cluster; value = x }) xs ∙ sym (map-map (λ i. record { cluster = cluster; item = i }) Single xs)

values_plain : (xs : List Scalar) (cluster : ℕ) → map (λ (v : TakenValue). v.value) (values_from cluster xs) ≡ xs
values_plain xs cluster = map-map (λ (v : TakenValue). v.value) (λ x. record { cluster = cluster; value = x }) xs ∙ map-id xs

module _ (fed : List Fed) (cluster : ℕ) (below : All (λ f. f.cluster ≤ cluster) fed) where
  after : (is js : List Item) → is ≡ js → in_file_order (fed ++ from_cluster cluster is) ≡ in_file_order fed ++ js
  after is js e = ap (λ l. in_file_order (fed ++ from_cluster cluster l)) e ∙ in_file_order-feed fed cluster js below

  pub holds_counted : (n n' : ℕ) (items : List Item) → n' ≡ n + length items → Holds (State.Count n) fed → Holds (State.Count n') (fed ++ from_cluster cluster items)
  holds_counted n n' items e h = record {
    made = ap Count (e ∙ ap (λ k. k + length items) (let was : n ≡ length (in_file_order fed) = cc h.made in was) ∙ sym (ap length (in_file_order-feed fed cluster items below) ∙ length-append (in_file_order fed) items));
    kept = refl;
  }

  -- a fold of more numbers
  folded_on : {B : Type 0} (step : B → ℤ → B) (start z z' : B) (zs : List ℤ) (items : List Item) → z' ≡ fold step z zs → items ≡ map Number zs → z ≡ fold step start (numbers_of (in_file_order fed))
      → z' ≡ fold step start (numbers_of (in_file_order (fed ++ from_cluster cluster items)))
  folded_on step start z z' zs items e is was = grind (arith, after, flat_map-append, numbers_of-map, fold-append)

  extreme_on : (better : ℤ → ℤ → ℤ) (o o' : Option ℤ) (zs : List ℤ) (items : List Item) → o' ≡ fold (better_of better) o zs → items ≡ map Number zs → o ≡ extreme better (numbers_of (in_file_order fed))
      → o' ≡ extreme better (numbers_of (in_file_order (fed ++ from_cluster cluster items)))
  extreme_on better o o' zs items e is was = folded_on (better_of better) None o o' zs items e is (was ∙ extreme_fold better _) ∙ sym (extreme_fold better _)

  pub holds_summed : (c : List ℕ) (z z' : Summed) (zs : List ℤ) (items : List Item) → z'.sum ≡ fold ◌+ℤ◌ z.sum zs → items ≡ map Number zs → Holds (State.Sum c z) fed → Holds (State.Sum c z') (fed ++ from_cluster cluster items)
  holds_summed c z z' zs items e is h = record { made = ap Sum (folded_on ◌+ℤ◌ (pos 0) z.sum z'.sum zs items e is (cc h.made)); kept = refl }

  pub holds_least : (c : List ℕ) (o o' : Least) (zs : List ℤ) (items : List Item) → o'.best ≡ fold (better_of int_min) o.best zs → items ≡ map Number zs → Holds (State.Min c o) fed → Holds (State.Min c o') (fed ++ from_cluster cluster items)
  holds_least c o o' zs items e is h = record { made = ap Extreme (extreme_on int_min o.best o'.best zs items e is (cc h.made)); kept = refl }

  pub holds_greatest : (c : List ℕ) (o o' : Greatest) (zs : List ℤ) (items : List Item) → o'.best ≡ fold (better_of int_max) o.best zs → items ≡ map Number zs → Holds (State.Max c o) fed → Holds (State.Max c o') (fed ++ from_cluster cluster items)
  holds_greatest c o o' zs items e is h = record { made = ap Extreme (extreme_on int_max o.best o'.best zs items e is (cc h.made)); kept = refl }

  pub holds_reduced : (c : List ℕ) (r r' : Reduction) (zs : List ℤ) (items : List Item) → (r'.op ≡ r.op) × (r'.value ≡ fold (reduce_step r.op) r.value zs) → items ≡ map Number zs → Holds (State.Reduce c r) fed → Holds (State.Reduce c r') (fed ++ from_cluster cluster items)
  holds_reduced c r r' zs items e is h = grind (arith, after, flat_map-append, numbers_of-map, fold-append)

  pub holds_taken : (c : List ℕ) (ts ts' : List TakenValue) (xs : List Scalar) (items : List Item) → ts' ≡ ts ++ values_from cluster xs → items ≡ map Single xs → Holds (State.Take c ts) fed → Holds (State.Take c ts') (fed ++ from_cluster cluster items)
  holds_taken c ts ts' xs items e is h = grind (arith, map-append, values_plain, after, flat_map-append, scalars_of-map, values_fed, by_cluster-feed)

  pub holds_flat : (g g' : one.Flat) (x : List ℕ) (o : Option (List ℕ)) (is js : List Item) → is ≡ js → ((before : List Item) → HasFilled g before → HasFilled g' (before ++ js))
      → Holds (State.Histo1D g x o) fed → Holds (State.Histo1D g' x o) (fed ++ from_cluster cluster is)
  holds_flat g g' x o is js e fill h = record {
    made = ap Flat ((fill (in_file_order fed) (record { cells = cc h.made })).cells ∙ sym (ap (flat_cells g'.edges) (after is js e)));
    kept = refl;
  }

  pub holds_square : (g g' : two.Square) (x y : List ℕ) (o : Option (List ℕ)) (is js : List Item) → is ≡ js → ((before : List Item) → HasFilled2 g before → HasFilled2 g' (before ++ js))
      → Holds (State.Histo2D g x y o) fed → Holds (State.Histo2D g' x y o) (fed ++ from_cluster cluster is)
  holds_square g g' x y o is js e fill h = record {
    made = ap Square ((fill (in_file_order fed) (record { cells = cc h.made })).cells ∙ sym (ap (square_cells g'.x_edges g'.y_edges) (after is js e)));
    kept = refl;
  }

-- one column gives at most 4,096 numbers
pub first_short : (c : List ℕ) (items : Items) → Suits (ActionKind.Sum c) items → length (first_numbers (values_of items)) ≤ 4096
first_short c (One (ColumnValue.Int z)) h = lit≤ tt
first_short c (One (ColumnValue.Vect zs)) h = h
first_short c items h = absurd h

-- the points of an entry
pub spread_flat : (edges : List ℤ) (x : List ℕ) (o : Option (List ℕ)) (items : Items) → Suits (ActionKind.Histo1D edges x o) items
    → spread (ActionKind.Histo1D edges x o) (values_of items) ≡ points (first_numbers (values_of items)) (weights (length (first_numbers (values_of items))) (part_values (weight_part items)))
spread_flat edges x o items h = grind arith

pub spread_square : (xs ys : List ℤ) (x y : List ℕ) (o : Option (List ℕ)) (items : Items) → Suits (ActionKind.Histo2D xs ys x y o) items
    → spread (ActionKind.Histo2D xs ys x y o) (values_of items) ≡ points2 (first_numbers (values_of items)) (second_part items) (weights (length (first_numbers (values_of items))) (part_values (weight_part items)))
spread_square xs ys x y o items h = grind arith

-- what follows however a call ends
pub either_way : {T E : Type 0} (r : Result T E) (P Q R : Type 0) → OnOk r P → OnErr r Q → (P → R) → (Q → R) → R
either_way (Ok x) P Q R h k f g = f h
either_way (Err e) P Q R h k f g = g k

-- ---- what an entry feeds: sums in 128 bits, points one more at a time, and the fault

pub fits_sum : (z : ℤ) → nat_abs z < 2 ^ 127 → FitsSigned w128 z
fits_sum z h = fits_signed_from_abs w128 z h

-- one more number of 64 bits adds at most 2^63
pub sum_bound : (sum z : ℤ) (a i : ℕ) → FitsSigned w64 z → nat_abs sum ≤ a + i * 2 ^ 63 → nat_abs (sum +ℤ z) ≤ a + (i + 1) * 2 ^ 63
sum_bound sum z a i fits h = let more = abs_add sum z in let small = abs_of_fit z fits in omega arith

-- ---- The points of an entry, one more at a time.

points_next : (xs ws : List ℤ) (i : ℕ) → i < length xs → length ws ≡ length xs → points (take (suc i) xs) ws ≡ points (take i xs) ws ++ Point (get_or xs i (pos 0)) (get_or ws i (pos 0)) ∷ []
points_next (x ∷ xs) (w ∷ ws) zero l e = refl
points_next (x ∷ xs) (w ∷ ws) (suc i) l e = ap (λ ps. Point x w ∷ ps) (points_next xs ws i (omega arith) (omega arith))
points_next xs ws i l e = absurd (omega arith)

points2_next : (xs ys ws : List ℤ) (i : ℕ) → i < length xs → length ys ≡ length xs → length ws ≡ length xs
    → points2 (take (suc i) xs) ys ws ≡ points2 (take i xs) ys ws ++ Point2 (get_or xs i (pos 0)) (get_or ys i (pos 0)) (get_or ws i (pos 0)) ∷ []
points2_next (x ∷ xs) (y ∷ ys) (w ∷ ws) zero l d e = refl
points2_next (x ∷ xs) (y ∷ ys) (w ∷ ws) (suc i) l d e = ap (λ ps. Point2 x y w ∷ ps) (points2_next xs ys ws i (omega arith) (omega arith) (omega arith))
points2_next xs ys ws i l d e = absurd (omega arith)

-- what is filled with one more point
pub points_filled : (xs ws : List ℤ) (i : ℕ) (before : List Item) (x w : ℤ) → i < length xs → length ws ≡ length xs → x ≡ get_or xs i (pos 0) → w ≡ get_or ws i (pos 0)
    → (before ++ points (take i xs) ws) ++ Point x w ∷ [] ≡ before ++ points (take (i + 1) xs) ws
points_filled xs ws i before x w l e p q = rw add-one (grind (arith, append_assoc, points_next))

pub points2_filled : (xs ys ws : List ℤ) (i : ℕ) (before : List Item) (x y w : ℤ) → i < length xs → length ys ≡ length xs → length ws ≡ length xs → x ≡ get_or xs i (pos 0) → y ≡ get_or ys i (pos 0) → w ≡ get_or ws i (pos 0)
    → (before ++ points2 (take i xs) ys ws) ++ Point2 x y w ∷ [] ≡ before ++ points2 (take (i + 1) xs) ys ws
points2_filled xs ys ws i before x y w l d e p r q = rw add-one (grind (arith, append_assoc, points2_next))

-- what is filled with no number
pub none_filled : (g : FlatCells) → (g.edges ≡ g.edges) × (g.fills ≡ g.fills + length {A = ℤ} []) × ((before : List Item) → HasFilled g before → HasFilled g (before ++ map (λ z. Point z (pos 1)) []))
none_filled g = (refl, omega arith, λ before h. subst (HasFilled g) (sym (append-nil before)) h)

-- numbers that all weigh 1
pub points_of_ones : (xs : List ℤ) → points xs (replicate (length xs) (pos 1)) ≡ map (λ z. Point z (pos 1)) xs
points_of_ones [] = refl
points_of_ones (x ∷ xs) = ap (λ ps. Point x (pos 1) ∷ ps) (points_of_ones xs)

-- ---- The fault of what an entry feeds.

-- by whether the vectors have one length, and whether the weight is in range
abbrev pub fault_by : Bool → Bool → Option EntryFault
fault_by b w = if b then weight_fault w else Some Lengths

pub fault_weighted : (k : ActionKind) (x w : ColumnValue) (b : Bool) → Suits k (Weighted x w) → b ≡ as_long_as (part_value x) (part_value w) → fault_by b (is_weight (part_value w)) ≡ feed_fault k (part_value x ∷ part_value w ∷ [])
fault_weighted k x w b s e = grind arith

pub fault_pair : (k : ActionKind) (x y : ColumnValue) (b : Bool) → Suits k (Pair x y) → b ≡ as_long_as (part_value x) (part_value y) → fault_by b true ≡ feed_fault k (part_value x ∷ part_value y ∷ [])
fault_pair k x y b s e = grind arith

-- ---- what a state holds after the items of another

plain_values : (vs : List TakenValue) → map (λ (v : TakenValue). v.value) vs ≡ flat_map scalar_of (items_of (map fed_value vs))
plain_values [] = refl
plain_values (v ∷ vs) = ap (λ l. v.value ∷ l) (plain_values vs)

module _ (a b : List Fed) where
  pub merge_count : (n m : ℕ) → n ≡ length (in_file_order a) → m ≡ length (in_file_order b) → n + m ≡ length (in_file_order (a ++ b))
  merge_count n m h k = omega (arith, h, k, length-in_file_order a, length-in_file_order b, length-in_file_order (a ++ b), length-append a b)

  pub merge_sum : (x y : ℤ) → x ≡ integer_sum (numbers_of (in_file_order a)) → y ≡ integer_sum (numbers_of (in_file_order b)) → x +ℤ y ≡ integer_sum (numbers_of (in_file_order (a ++ b)))
  merge_sum x y h k = ap₂ ◌+ℤ◌ h k ∙ sym (sum_both number_of a b)

  pub merge_extremes : (better : ℤ → ℤ → ℤ) → ((s x y : ℤ) → better (better s x) y ≡ better (better s y) x) → ((x y : ℤ) → better x y ≡ better y x) → (x y : Option ℤ)
      → x ≡ extreme better (numbers_of (in_file_order a)) → y ≡ extreme better (numbers_of (in_file_order b)) → better_of_two better x y ≡ extreme better (numbers_of (in_file_order (a ++ b)))
  merge_extremes better swap comm x y h k =
      let ys = numbers_of (in_file_order b) in
      ap₂ (better_of_two better) (h ∙ extreme_fold better (numbers_of (in_file_order a))) k
      ∙ sym (extreme_fold better (numbers_of (in_file_order (a ++ b))) ∙ both_same (better_of better) (option_swap better swap comm) number_of a b None ∙ extreme_from better swap comm (fold (better_of better) None (numbers_of (in_file_order a))) ys)

  pub merge_reduce : (o : ReduceOp) (x y : ℤ) → x ≡ fold (reduce_step o) (reduce_start o) (numbers_of (in_file_order a)) → y ≡ fold (reduce_step o) (reduce_start o) (numbers_of (in_file_order b))
      → reduce_step o x y ≡ fold (reduce_step o) (reduce_start o) (numbers_of (in_file_order (a ++ b)))
  merge_reduce o x y h k = ap₂ (reduce_step o) h k ∙ sym (reduce_both o a b)

  pub merge_take : (c d : List ℕ) (vs ws all : List TakenValue) → (map fed_value vs ≡ by_cluster a → map fed_value ws ≡ by_cluster b → map fed_value all ≡ by_cluster (a ++ b)) → Holds (State.Take c vs) a → Holds (State.Take d ws) b → Holds (State.Take c all) (a ++ b)
  merge_take c d vs ws all order h k =
      let kept = order h.kept k.kept in
      record { made = ap Taken (plain_values all ∙ ap (λ l. flat_map scalar_of (items_of l)) kept); kept = kept }

  pub merge_flat : (g k g' : one.Flat) (x y : List ℕ) (o p : Option (List ℕ)) → ((points more : List Item) → HasFilled g points → HasFilled k more → HasFilled g' (points ++ more))
      → Holds (State.Histo1D g x o) a → Holds (State.Histo1D k y p) b → Holds (State.Histo1D g' x o) (a ++ b)
  merge_flat g k g' x y o p fill h l = record {
    made = ap Flat ((fill (in_file_order a) (in_file_order b) (record { cells = cc h.made }) (record { cells = cc l.made })).cells ∙ flat_joined g'.edges a b);
    kept = refl;
  }

  pub merge_square : (g k g' : two.Square) (x y z w : List ℕ) (o p : Option (List ℕ)) → ((points more : List Item) → HasFilled2 g points → HasFilled2 k more → HasFilled2 g' (points ++ more))
      → Holds (State.Histo2D g x y o) a → Holds (State.Histo2D k z w p) b → Holds (State.Histo2D g' x y o) (a ++ b)
  merge_square g k g' x y z w o p fill h l = record {
    made = ap Square ((fill (in_file_order a) (in_file_order b) (record { cells = cc h.made }) (record { cells = cc l.made })).cells ∙ square_joined g'.x_edges g'.y_edges a b);
    kept = refl;
  }
