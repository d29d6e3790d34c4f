-- Pieces of a watched result.
use Rattle.lemmas.proofs.{◌≡◌, ℕ, ◌+◌, ◌-◌, ◌*◌, ◌^◌, ◌≤◌, ℤ, pos, ◌+ℤ◌, List, [], ◌∷◌, ◌++◌, length, map, get_or, drop, Option, None, Some, refl, sym, ap, ◌∙◌, subst, arith, flat_map, fold, nat_abs, slice_get, length-flat_map, sum_by-le, abs_add, All, All-append, All-drop, All-head, All-nil, All-tail, All-take, AllByRecursion, int_max, int_min, ints, IsStrictlyIncreasing, recursion_from_All, same_some, slice_get-get_or}
use Rattle.rdf_values.specs.{ActionKind, Filled, fold_items, Has64Bits, IsUnion, Item, numbers_of, Span}
use Rattle.rdf_values.specs.results.Fold as filled
use Rattle.rdf_model.specs.{FitsAction, FitsSpread, IsLoopFacts, items_over, list_at, result_over, rows_in, span_rows}
use Rattle.rdf_model.specs.declared.loop_facts.LoopFacts.{LoopFacts}
use Rattle.actions.specs.{Fed, in_file_order}
use Rattle.actions.proofs.Folds.{max_comm, max_swap, min_comm, min_swap}
use Rattle.actions.proofs.States.{merge_count, merge_extremes, merge_sum}
use Rattle.loop_pieces.specs.{CanAdd, cluster_items, entries_over, fed_over, IsOfKind, watch_filled, WatchPiece, WatchPiecesOfOneSetAgree, WatchStandsFor}
use Rattle.loop_pieces.specs.Trails.{added}
use Rattle.loop_pieces.specs.declared.watch_piece.WatchFacts.{WatchFacts}
use Rattle.loop_pieces.specs.declared.watch_piece.WatchPiece.TheVariants.{Count, Sum, Least, Greatest}
use Rattle.loop_pieces.proofs.ByCluster.{items_in_order, order_union, entries_few, entries_union}

-- ---- two pieces of one kind

module _ (P : ActionKind → WatchPiece → WatchPiece → Type 0) (counts : (n m : ℕ) → P ActionKind.Count (Count n) (Count m)) (sums : (c : List ℕ) (y z : ℤ) → P (ActionKind.Sum c) (Sum y) (Sum z))
    (leasts : (c : List ℕ) (y z : Option ℤ) → P (ActionKind.Min c) (Least y) (Least z)) (greatests : (c : List ℕ) (y z : Option ℤ) → P (ActionKind.Max c) (Greatest y) (Greatest z)) where
  of_one_kind : (k : ActionKind) (p q : WatchPiece) → IsOfKind k p → IsOfKind k q → P k p q
  of_one_kind k p q a b = grind arith

pub watch_pieces_of_one_set_agree : WatchPiecesOfOneSetAgree
watch_pieces_of_one_set_agree = grind (arith, same_some, of_one_kind)

-- ---- items that fit

all_span : {A : Type 0} (P : A → Type 0) (rows : List A) (o : Option Span) → All P rows → All P (span_rows rows o)
all_span P rows None h = All-nil P
all_span P rows (Some s) h = All-take P (s.hi - s.lo) (drop s.lo rows) (All-drop P s.lo rows h)

all_in : {A : Type 0} (P : A → Type 0) (ranges : List Span) (rows : List A) (set : List ℕ) → All P rows → All P (rows_in ranges rows set)
all_in P ranges rows [] h = All-nil P
all_in P ranges rows (c ∷ cs) h = All-append P (span_rows rows (slice_get ranges c)) (rows_in ranges rows cs) (all_span P rows (slice_get ranges c) h) (all_in P ranges rows cs h)

module _ (k : ActionKind) (i : ℕ) where
  abbrev FitsRow : List (List Item) → Type 0
  FitsRow row = FitsSpread k (list_at row i)

  nothing_fits : FitsSpread k []
  nothing_fits = record { few = omega arith; fit = λ j d lt. absurd (omega arith) }

  rows_fit : (f : LoopFacts) → IsLoopFacts f → slice_get f.kinds i ≡ Some k → All FitsRow f.spreads
  rows_fit f facts at e d lt = let row = get_or f.spreads e d in go row (slice_get row i) refl (λ items its. facts.fit e i row items k (slice_get-get_or f.spreads e d lt) its at)
    where
      go : (row : List (List Item)) (o : Option (List Item)) → slice_get row i ≡ o → ((items : List Item) → slice_get row i ≡ Some items → FitsSpread k items) → FitsSpread k (elim o [ None ↦ [] | Some xs ↦ xs ])
      go row o is h = grind (arith, nothing_fits)

  few_of : (rows : List (List (List Item))) → All FitsRow rows → length (flat_map (λ row. list_at row i) rows) ≤ 4096 * length rows
  few_of rows h = omega (arith, length-flat_map (λ (row : List (List Item)). list_at row i) rows, sum_by-le (λ (row : List (List Item)). length (list_at row i)) 4096 rows (λ e d lt. (h e d lt).few))

  fit_of : (rows : List (List (List Item))) → All FitsRow rows → All (FitsAction k) (flat_map (λ row. list_at row i) rows)
  fit_of [] h = All-nil (FitsAction k)
  fit_of (row ∷ rows) h = All-append (FitsAction k) (list_at row i) (flat_map (λ r. list_at r i) rows) (All-head FitsRow row rows h).fit (fit_of rows (All-tail FitsRow row rows h))

pub abs_small : (z : ℤ) → Has64Bits z → nat_abs z ≤ 2 ^ 63
abs_small z h = grind (arith, ints)

sum_few : (c : List ℕ) (items : List Item) (s : ℤ) (a : ℕ) → AllByRecursion (FitsAction (ActionKind.Sum c)) items → nat_abs s ≤ a → nat_abs (fold ◌+ℤ◌ s (numbers_of items)) ≤ a + length items * 2 ^ 63
sum_few c [] s a h le = omega arith
sum_few c (Item.Number z ∷ items) s a h le =
    let more = abs_add s z in
    let small = abs_small z h.0 in
    let rest = sum_few c items (s +ℤ z) (a + 2 ^ 63) h.1 (omega arith) in
    omega arith
sum_few c (i ∷ items) s a h le = absurd h.0

-- ---- joining

module _ (f : LoopFacts) (i : ℕ) (mine theirs all : List ℕ) (facts : IsLoopFacts f) (up : IsStrictlyIncreasing mine) (down : IsStrictlyIncreasing theirs) (u : IsUnion (mine ∷ theirs ∷ []) all) where
  few_items : (k : ActionKind) (set : List ℕ) → slice_get f.kinds i ≡ Some k → length (items_over f set i) ≤ 4096 * entries_over f set
  few_items k set at = few_of k i (rows_in f.ranges f.spreads set) (all_in (FitsRow k i) f.ranges f.spreads set (rows_fit k i f facts at))

  items_fit : (k : ActionKind) (set : List ℕ) → slice_get f.kinds i ≡ Some k → AllByRecursion (FitsAction k) (items_over f set i)
  items_fit k set at = recursion_from_All (FitsAction k) (items_over f set i) (fit_of k i (rows_in f.ranges f.spreads set) (all_in (FitsRow k i) f.ranges f.spreads set (rows_fit k i f facts at)))

  -- both sets together have at most a million entries
  few_entries : entries_over f mine + entries_over f theirs ≤ 1000000
  few_entries = omega (arith, entries_union f mine theirs all u, entries_few f all facts u.rising)

  in_fed : (k : ActionKind) (x : Filled) (set : List ℕ) → IsStrictlyIncreasing set → x ≡ result_over f set i k → x ≡ fold_items k (in_file_order (fed_over f set i))
  in_fed k x set rises h = h ∙ ap (fold_items k) (sym (items_in_order f set i rises))

  of_union : (k : ActionKind) (x : Filled) → x ≡ fold_items k (in_file_order (fed_over f mine i ++ fed_over f theirs i)) → x ≡ result_over f all i k
  of_union k x h = h ∙ ap (λ l. fold_items k (map (λ (g : Fed). g.item) l)) (order_union (cluster_items f i) mine theirs all u) ∙ ap (fold_items k) (items_in_order f all i u.rising)

  abbrev Joins : ActionKind → WatchPiece → WatchPiece → Type 0
  Joins k p q = slice_get f.kinds i ≡ Some k → watch_filled p ≡ result_over f mine i k → watch_filled q ≡ result_over f theirs i k
      → CanAdd p q × IsOfKind k (added p q) × (watch_filled (added p q) ≡ result_over f all i k)

  join_counts : (n m : ℕ) → Joins ActionKind.Count (Count n) (Count m)
  join_counts n m at a b =
      let few = few_entries in
      let x = few_items ActionKind.Count mine at in
      let y = few_items ActionKind.Count theirs at in
      let n_is : n ≡ length (items_over f mine i) = cc in
      let m_is : m ≡ length (items_over f theirs i) = cc in (
        omega arith,
        tt,
        of_union ActionKind.Count _ (ap filled.Count (merge_count (fed_over f mine i) (fed_over f theirs i) n m (cc (in_fed ActionKind.Count (filled.Count n) mine up a)) (cc (in_fed ActionKind.Count (filled.Count m) theirs down b)))),
      )

  join_sums : (c : List ℕ) (y z : ℤ) → Joins (ActionKind.Sum c) (Sum y) (Sum z)
  join_sums c y z at a b =
      let few = few_entries in
      let x = few_items (ActionKind.Sum c) mine at in
      let v = few_items (ActionKind.Sum c) theirs at in
      let y_is : y ≡ filled.integer_sum (numbers_of (items_over f mine i)) = cc in
      let z_is : z ≡ filled.integer_sum (numbers_of (items_over f theirs i)) = cc in
      let low = sum_few c (items_over f mine i) (pos 0) 0 (items_fit (ActionKind.Sum c) mine at) (omega arith) in
      let high = sum_few c (items_over f theirs i) (pos 0) 0 (items_fit (ActionKind.Sum c) theirs at) (omega arith) in (
        omega (arith, ap nat_abs y_is, ap nat_abs z_is, low, high),
        tt,
        of_union (ActionKind.Sum c) _ (ap filled.Sum (merge_sum (fed_over f mine i) (fed_over f theirs i) y z (cc (in_fed (ActionKind.Sum c) (filled.Sum y) mine up a)) (cc (in_fed (ActionKind.Sum c) (filled.Sum z) theirs down b)))),
      )

  join_leasts : (c : List ℕ) (y z : Option ℤ) → Joins (ActionKind.Min c) (Least y) (Least z)
  join_leasts c y z at a b = let merged = merge_extremes (fed_over f mine i) (fed_over f theirs i) int_min min_swap min_comm y z (cc (in_fed (ActionKind.Min c) (filled.Extreme y) mine up a)) (cc (in_fed (ActionKind.Min c) (filled.Extreme z) theirs down b)) in
      (tt, tt, of_union (ActionKind.Min c) _ (ap filled.Extreme merged))

  join_greatests : (c : List ℕ) (y z : Option ℤ) → Joins (ActionKind.Max c) (Greatest y) (Greatest z)
  join_greatests c y z at a b = let merged = merge_extremes (fed_over f mine i) (fed_over f theirs i) int_max max_swap max_comm y z (cc (in_fed (ActionKind.Max c) (filled.Extreme y) mine up a)) (cc (in_fed (ActionKind.Max c) (filled.Extreme z) theirs down b)) in
      (tt, tt, of_union (ActionKind.Max c) _ (ap filled.Extreme merged))

  joins : (k : ActionKind) (p q : WatchPiece) → IsOfKind k p → IsOfKind k q → Joins k p q
  joins = of_one_kind Joins join_counts join_sums join_leasts join_greatests

module _ (w : WatchFacts) (mine theirs all : List ℕ) (p q : WatchPiece) (s : WatchStandsFor w mine p) (t : WatchStandsFor w theirs q) (u : IsUnion (mine ∷ theirs ∷ []) all) where
  both_joined : CanAdd p q × IsOfKind s.kind (added p q) × (watch_filled (added p q) ≡ result_over w.facts all w.watched s.kind)
  both_joined =
      let one : t.kind ≡ s.kind = same_some (sym t.its_kind ∙ s.its_kind) in
      joins w.facts w.watched mine theirs all s.facts s.rises t.rises u s.kind p q s.is_of_kind (subst (λ k. IsOfKind k q) one t.is_of_kind) s.its_kind s.result (t.result ∙ ap (result_over w.facts theirs w.watched) one)

  pub can_add : CanAdd p q
  can_add = both_joined.0

  pub watch_joined : (r : WatchPiece) → r ≡ added p q → WatchStandsFor w all r
  watch_joined r is = record {
    facts = s.facts;
    rises = u.rising;
    kind = s.kind;
    its_kind = s.its_kind;
    is_of_kind = subst (IsOfKind s.kind) (sym is) both_joined.1;
    result = ap watch_filled is ∙ both_joined.2;
  }
