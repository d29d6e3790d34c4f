-- Items and counts by clusters: those of a set, and of each.
use Rattle.lemmas.proofs.{◌≡◌, ℕ, ◌<◌, ◌≤◌, List, [], ◌∷◌, ◌++◌, map, refl, sym, ap, ap₂, ◌∙◌, subst, arith, zero, suc, ◌+◌, flat_map, slice_get, ◌-◌, length, take, drop, Option, Some, slice_range, cond, Bool, None, append-nil, length-drop, count_by, get_or, set, get_or-set_other, true, length-append, option_map, All, ◌⊎◌, AllByRecursion, recursion_from_All, All-permutation, common_steps, IsPermutation-remove, IsPermutation-sym, nat_tests, cases_eq, flat_map-append, IsStrictlyIncreasing, map-append, drop_plus, flat_map-map, map-map, take-add, length-flat_map, length-take, remove, sum_by, sum_by-append, sum_by-cons, sum_by-IsPermutation, sum_by-le, All-from_get_or, ext_get_or, cases_lt, get_or_default, any_passes_from_place, get_or_from_slice_get, same_some, slice_get-get_or, slice_get-map, slice_get_within, range_length, take_at_most}
use Rattle.rdf_values.specs.{ActionKind, fold_items, IsUnion, Item, times, below, Lead, Span, Booking, Pass, Path, same, Under, Value, EntryFault, Fault, first_in}
use Rattle.actions.specs.{Accumulator, by_cluster, Fed, HasFed, kept_of, put, from_cluster, in_file_order}
use Rattle.actions.proofs.Folds.{AreFrom, first_first, items_of_cluster, merged_is, order_moves, put_all, Rises as AreSorted}
use Rattle.rdf_model.specs.{items_over, list_at, span_rows, if_there, is_passed, is_reached, IsLoopFacts, Reach, reaches_over, rows_in, ◌>>=◌, action_pass, booking_outcome, Dataset, Entry, fault_in, filter_in, filter_node, FilterCounts, is_covered, kinds_in, loop_facts, Outcome, over_clusters, report_in, reports_on, result_over, fault_at, fault_or, first_fault_from, first_fault_in, first_of}
use Rattle.rdf_model.specs.declared.loop_facts.LoopFacts.{LoopFacts}
use Rattle.rdf_values.proofs.UnionLemmas.{times_cons, times_contains, times_permuted, times_self, Above, Rises, rises_from, none_is_neutral, order_does_not_matter, unite_from_either_side, slice_get-below}
use Rattle.loop_pieces.specs.{cluster_items, fed_over, counts_at, entries_over, AreMerged, both, CanMerge, Counts, HaveRoom, LoopPiece, PiecesOfOneSetAgree, StandsFor, AreCounts, nothing, IsMerged, AllClustersAreTheTable, counts_of, PieceHoldsCounts, PieceHoldsResults, WatchPieceIsPartialResult, begin_of, cluster_faults, FirstClusterHasFirstFault, LowerClustersFaultFirst}
use Rattle.std.proofs.lemmas.List.{take_all, length-map, get_or-map}
use Rattle.loop_pieces.specs.Flows.{added}
use Rattle.std.specs.List.{zip}
use Rattle.std.proofs.lemmas.Grind.{get_or-set_at}
use Rattle.std.proofs.lemmas.Slice.Zip.{get_or-zip, length-zip}
use Rattle.rdf_model.proofs.Accepted.{itself}
use Rattle.rdf_model.proofs.Faults.{first_fault_is_least, facts_give_results, facts_give_counts, first_of-assoc}
use Rattle.rdf_values.proofs.Evenly.{led_are_in_order, lead_up}
use Rattle.loop_pieces.specs.PieceLaws as law

-- ---- the order by cluster

-- a list in that order stays as it is
order_kept : (fs : List Fed) → AreSorted fs → by_cluster fs ≡ fs
order_kept [] up = refl
order_kept (f ∷ fs) up = ap (put f) (order_kept fs up.1) ∙ first_first f [] fs tt up.0

-- what stands behind others may stand there in order
behind : (a b c : List Fed) → by_cluster b ≡ by_cluster c → by_cluster (a ++ b) ≡ by_cluster (a ++ c)
behind a b c e = sym (merged_is a b) ∙ ap (put_all (by_cluster a)) e ∙ merged_is a c

-- items of two clusters are put in either order
put_swap : (f g : Fed) (l : List Fed) → (f.cluster ≡ g.cluster → ⊥) → put f (put g l) ≡ put g (put f l)
put_swap f g [] n = grind (arith, common_steps, nat_tests)
put_swap f g (h ∷ hs) n = grind (arith, common_steps, nat_tests, put_swap f g hs n)

one_past : (f : Fed) (c : ℕ) (is : List Item) (l : List Fed) → (f.cluster ≡ c → ⊥) → by_cluster (f ∷ (from_cluster c is ++ l)) ≡ by_cluster (from_cluster c is ++ f ∷ l)
one_past f c [] l n = refl
one_past f c (i ∷ is) l n =
    put_swap f (record { cluster = c; item = i }) (by_cluster (from_cluster c is ++ l)) n ∙ ap (put (record { cluster = c; item = i })) (one_past f c is l n)

run_past : (c d : ℕ) (is js : List Item) (l : List Fed) → (c ≡ d → ⊥)
    → by_cluster (from_cluster c is ++ (from_cluster d js ++ l)) ≡ by_cluster (from_cluster d js ++ (from_cluster c is ++ l))
run_past c d [] js l n = refl
run_past c d (i ∷ is) js l n = grind (arith, one_past, run_past c d is js l n)

-- ---- what holds of each item

all_same : (P : Fed → Type 0) (a b : List Fed) → by_cluster a ≡ by_cluster b → All P a → All P b
all_same P a b e h = All-permutation P (by_cluster b) b (IsPermutation-sym _ _ (order_moves b)) (subst (All P) e (All-permutation P a (by_cluster a) (order_moves a) h))

kept_same : (k : ActionKind) (a b : List Fed) → by_cluster a ≡ by_cluster b → kept_of k a ≡ kept_of k b
kept_same k a b e = grind arith

-- an accumulator knows the items by their clusters alone
pub has_fed_same : (acc : Accumulator) (a b : List Fed) → by_cluster a ≡ by_cluster b → HasFed acc a → HasFed acc b
has_fed_same acc a b e h = record {
  filled = h.filled ∙ ap (λ l. fold_items acc.kind (map (λ (f : Fed). f.item) l)) e;
  kept = h.kept ∙ kept_same acc.kind a b e;
  below = all_same (λ (f : Fed). f.cluster ≤ acc.last) a b e h.below;
}

-- ---- The items of the clusters in a set.

module _ (items : ℕ → List Item) where
  abbrev fed : List ℕ → List Fed
  fed set = flat_map (λ c. from_cluster c (items c)) set

  swapped : (c d : ℕ) (l : List Fed)
      → by_cluster (from_cluster c (items c) ++ (from_cluster d (items d) ++ l)) ≡ by_cluster (from_cluster d (items d) ++ (from_cluster c (items c) ++ l))
  swapped c d l = grind (arith, cases_eq, run_past)

  -- any cluster may come first
  to_front : (c : ℕ) (set : List ℕ) (k : ℕ) → k < length set → get_or set k c ≡ c → by_cluster (fed set) ≡ by_cluster (from_cluster c (items c) ++ fed (remove set k))
  to_front c [] k lt e = absurd (omega arith)
  to_front c (d ∷ ds) zero lt e = ap (λ n. by_cluster (fed (n ∷ ds))) e
  to_front c (d ∷ ds) (suc k) lt e = behind (from_cluster d (items d)) _ _ (to_front c ds k (omega arith) e) ∙ swapped d c (fed (remove ds k))

  -- which clusters there are tells the order
  same_order : (ys xs : List ℕ) → ((x : ℕ) → times x xs ≡ times x ys) → by_cluster (fed xs) ≡ by_cluster (fed ys)
  same_order [] [] same = refl
  same_order [] (x ∷ xs) same = absurd (omega (arith, times_self x xs, same x))
  same_order (y ∷ ys) xs same =
      let there = times_contains y xs (omega (arith, times_self y ys, same y)) in
      let moved = IsPermutation-remove xs there.0 y there.1 (sym there.2) in
      to_front y xs there.0 there.1 there.2 ∙ behind (from_cluster y (items y)) _ _ (same_order ys (remove xs there.0) (λ x.
      omega (arith, times_permuted x xs (y ∷ remove xs there.0) moved, times_cons x y (remove xs there.0), times_cons x y ys, same x)))

  all_from : (c : ℕ) (k : ℕ) (is : List Item) (rest : List Fed) → c ≤ k → AreFrom c rest → AreFrom c (from_cluster k is ++ rest)
  all_from c k [] rest le h = h
  all_from c k (i ∷ is) rest le h = (le, all_from c k is rest le h)

  all_above : (c : ℕ) (ds : List ℕ) → Above c ds → AreFrom c (fed ds)
  all_above c [] h = tt
  all_above c (d ∷ ds) h = let first = h.0 in all_from c d (items d) (fed ds) (omega arith) (all_above c ds h.1)

  run_sorted : (c : ℕ) (is : List Item) (rest : List Fed) → AreFrom c rest → AreSorted rest → AreSorted (from_cluster c is ++ rest)
  run_sorted c [] rest from up = up
  run_sorted c (i ∷ is) rest from up = (all_from c c is rest (omega arith) from, run_sorted c is rest from up)

  pub rising_sorted : (set : List ℕ) → Rises set → AreSorted (fed set)
  rising_sorted [] up = tt
  rising_sorted (c ∷ cs) up = run_sorted c (items c) (fed cs) (all_above c cs up.0) (rising_sorted cs up.1)

  -- two sets one after the other are in the order of their union
  pub order_union : (mine theirs all : List ℕ) → IsUnion (mine ∷ theirs ∷ []) all → by_cluster (fed mine ++ fed theirs) ≡ by_cluster (fed all)
  order_union mine theirs all u =
      ap by_cluster (sym (flat_map-append (λ c. from_cluster c (items c)) mine (theirs ++ []) ∙ ap (λ l. fed mine ++ fed l) (append-nil theirs)))
      ∙ same_order all (mine ++ (theirs ++ [])) (λ x. sym (times_permuted x (mine ++ (theirs ++ [])) all u.each_once))

  plain : (set : List ℕ) → map (λ (f : Fed). f.item) (fed set) ≡ flat_map items set
  plain [] = refl
  plain (c ∷ cs) = grind (arith, map-append, items_of_cluster, plain cs)

  pub in_order : (set : List ℕ) → IsStrictlyIncreasing set → in_file_order (fed set) ≡ flat_map items set
  in_order set up = ap (map (λ (f : Fed). f.item)) (order_kept _ (rising_sorted set (rises_from set up))) ∙ plain set

flat_map-flat_map : {A B C : Type 0} (g : B → List C) (h : A → List B) (xs : List A) → flat_map g (flat_map h xs) ≡ flat_map (λ x. flat_map g (h x)) xs
flat_map-flat_map g h [] = refl
flat_map-flat_map g h (x ∷ xs) = flat_map-append g (h x) (flat_map h xs) ∙ ap (λ l. flat_map g (h x) ++ l) (flat_map-flat_map g h xs)

-- the items of a set of clusters in the order of the file
pub items_in_order : (f : LoopFacts) (set : List ℕ) (i : ℕ) → IsStrictlyIncreasing set → in_file_order (fed_over f set i) ≡ items_over f set i
items_in_order f set i up = in_order (cluster_items f i) set up ∙ sym (flat_map-flat_map (λ row. list_at row i) (λ c. span_rows f.spreads (slice_get f.ranges c)) set)

-- ---- Clusters by their numbers, and clusters that lead from one entry to another.

below_front : (n : ℕ) → below (suc n) ≡ 0 ∷ map (λ k. suc k) (below n)
below_front zero = refl
below_front (suc n) = ap (λ l. l ++ suc n ∷ []) (below_front n) ∙ ap (λ l. 0 ∷ l) (sym (map-append (λ k. suc k) (below n) (n ∷ [])))

-- what is made of each cluster by its number
pub by_places : {A : Type 0} (g : Option Span → A) (spans : List Span) → map (λ c. g (slice_get spans c)) (below (length spans)) ≡ map (λ s. g (Some s)) spans
by_places g [] = refl
by_places g (s ∷ ss) = grind (arith, below_front (length ss), map-map (λ c. g (slice_get (s ∷ ss) c)) (λ k. suc k) (below (length ss)), by_places g ss)

pub joined_places : {A : Type 0} (g : Option Span → List A) (spans : List Span) → flat_map (λ c. g (slice_get spans c)) (below (length spans)) ≡ flat_map (λ s. g (Some s)) spans
joined_places g spans =
    sym (flat_map-map (λ l. l) (λ c. g (slice_get spans c)) (below (length spans)))
    ∙ ap (flat_map (λ l. l)) (by_places g spans) ∙ flat_map-map (λ l. l) (λ s. g (Some s)) spans

-- ---- ranges

-- the rows from lo to below hi, and from there to below top
pub ranges_join : {A : Type 0} (rows : List A) (lo hi top : ℕ) → lo ≤ hi → hi ≤ top → top ≤ length rows → slice_range rows lo hi ++ slice_range rows hi top ≡ slice_range rows lo top
ranges_join rows lo hi top a b c = grind (arith, drop_plus lo (hi - lo) rows, take-add (hi - lo) (top - hi) (drop lo rows))

pub range_whole : {A : Type 0} (rows : List A) → slice_range rows 0 (length rows) ≡ rows
range_whole rows = take_all (length rows - 0) rows (omega arith)

pub range_none : {A : Type 0} (rows : List A) (lo : ℕ) → slice_range rows lo lo ≡ []
range_none rows lo = let e : lo - lo ≡ 0 = omega arith in ap (λ k. take k (drop lo rows)) e

-- ---- How many rows and counts the clusters of a set have.

-- a sum over a union
pub sum_union : (g : ℕ → ℕ) (mine theirs all : List ℕ) → IsUnion (mine ∷ theirs ∷ []) all → sum_by g all ≡ sum_by g mine + sum_by g theirs
sum_union g mine theirs all u =
    sum_by-IsPermutation g (mine ++ (theirs ++ [])) all u.each_once ∙ sum_by-append g mine (theirs ++ []) ∙ ap (λ l. sum_by g mine + sum_by g l) (append-nil theirs)

sum_by-flat_map : {A B : Type 0} (g : B → ℕ) (h : A → List B) (xs : List A) → sum_by g (flat_map h xs) ≡ sum_by (λ x. sum_by g (h x)) xs
sum_by-flat_map g h [] = refl
sum_by-flat_map g h (x ∷ xs) = sum_by-append g (h x) (flat_map h xs) ∙ ap (λ n. sum_by g (h x) + n) (sum_by-flat_map g h xs) ∙ sym (sum_by-cons (λ y. sum_by g (h y)) x xs)

-- ---- rows

-- the clusters' ranges follow one another
abbrev pub AreOrdered : List Span → Type 0
AreOrdered ranges = (c d : ℕ) (s t : Span) → c < d → slice_get ranges c ≡ Some s → slice_get ranges d ≡ Some t → s.hi ≤ t.lo

module _ {A : Type 0} (ranges : List Span) (rows : List A) (ordered : AreOrdered ranges) where
  abbrev size : ℕ → ℕ
  size c = length (span_rows rows (slice_get ranges c))

  -- the clusters of the set begin at b or above
  abbrev FromOn : ℕ → List ℕ → Type 0
  FromOn b set = AllByRecursion (λ c. (s : Span) → slice_get ranges c ≡ Some s → b ≤ s.lo) set

  after_span : (c : ℕ) (s : Span) (cs : List ℕ) → slice_get ranges c ≡ Some s → Above c cs → FromOn s.hi cs
  after_span c s [] at above = tt
  after_span c s (d ∷ ds) at above = (λ t there. ordered c d s t above.0 at there, after_span c s ds at above.1)

  within : (set : List ℕ) (b : ℕ) → Rises set → FromOn b set → sum_by size set ≤ length rows - b
  within [] b up h = omega arith
  within (c ∷ cs) b up h = go (slice_get ranges c) refl (λ m on. within cs m up.1 on)
    where
      go : (o : Option Span) → slice_get ranges c ≡ o → ((m : ℕ) → FromOn m cs → sum_by size cs ≤ length rows - m) → sum_by size (c ∷ cs) ≤ length rows - b
      go None at rest = grind (arith, sum_by-cons)
      go (Some s) at rest =
          let here : size c ≡ length (span_rows rows (Some s)) = ap (λ o. length (span_rows rows o)) at in
          let from = h.0 s at in
          let others = rest b h.1 in
          let later = rest s.hi (after_span c s cs at up.0) in
          omega (arith, sum_by-cons size c cs, length-take (s.hi - s.lo) (drop s.lo rows), length-drop s.lo rows)

  pub rows_few : (set : List ℕ) → IsStrictlyIncreasing set → length (rows_in ranges rows set) ≤ length rows
  rows_few set up = let few = within set 0 (rises_from set up) (recursion_from_All (λ c. (s : Span) → slice_get ranges c ≡ Some s → 0 ≤ s.lo) set (λ k d lt s at. omega arith)) in omega (arith, length-flat_map (λ c. span_rows rows (slice_get ranges c)) set)

-- ---- counts

-- how many of the rows of a cluster pass a test at filter i
abbrev reached_in : LoopFacts → (Reach → Bool) → ℕ → ℕ → ℕ
reached_in f p i c = sum_by (λ (row : List Reach). count_by p (if_there (slice_get row i))) (span_rows f.reaches (slice_get f.ranges c))

counts_by_cluster : (f : LoopFacts) (p : Reach → Bool) (set : List ℕ) (i : ℕ) → count_by p (reaches_over f set i) ≡ sum_by (reached_in f p i) set
counts_by_cluster f p set i = grind (arith, sum_by-flat_map)

-- the counts of two sets add up to those of their union
pub counts_union : (f : LoopFacts) (mine theirs all : List ℕ) (i : ℕ) → IsUnion (mine ∷ theirs ∷ []) all
    → ((counts_at f all i).all ≡ (counts_at f mine i).all + (counts_at f theirs i).all) × ((counts_at f all i).pass ≡ (counts_at f mine i).pass + (counts_at f theirs i).pass)
counts_union f mine theirs all i u = (by_test is_reached, by_test is_passed)
  where
    by_test : (p : Reach → Bool) → count_by p (reaches_over f all i) ≡ count_by p (reaches_over f mine i) + count_by p (reaches_over f theirs i)
    by_test p = counts_by_cluster f p all i ∙ sum_union (reached_in f p i) mine theirs all u ∙ sym (ap₂ (λ a b. a + b) (counts_by_cluster f p mine i) (counts_by_cluster f p theirs i))

one_row : (p : Reach → Bool) (o : Option Reach) → count_by p (if_there o) ≤ 1
one_row p o = grind (arith, common_steps)

pub counts_few : (f : LoopFacts) (set : List ℕ) (i : ℕ) → IsLoopFacts f → IsStrictlyIncreasing set → (counts_at f set i).all ≤ 1000000
counts_few f set i facts up =
    let rows = rows_in f.ranges f.reaches set in
    let few = rows_few f.ranges f.reaches facts.ordered set up in
    let sums = sum_by-flat_map (λ r. cond (is_reached r) 1 0) (λ (row : List Reach). if_there (slice_get row i)) rows in
    let most = sum_by-le (λ (row : List Reach). count_by is_reached (if_there (slice_get row i))) 1 rows (λ k d lt. one_row is_reached (slice_get _ i)) in
    omega (arith, facts.few, facts.rows)

-- ---- entries

pub entries_union : (f : LoopFacts) (mine theirs all : List ℕ) → IsUnion (mine ∷ theirs ∷ []) all → entries_over f all ≡ entries_over f mine + entries_over f theirs
entries_union f mine theirs all u =
    let size = λ (c : ℕ). length (span_rows f.spreads (slice_get f.ranges c)) in
    let by = length-flat_map (λ c. span_rows f.spreads (slice_get f.ranges c)) in
    by all ∙ sum_union size mine theirs all u ∙ sym (ap₂ (λ a b. a + b) (by mine) (by theirs))

pub entries_few : (f : LoopFacts) (set : List ℕ) → IsLoopFacts f → IsStrictlyIncreasing set → entries_over f set ≤ 1000000
entries_few f set facts up = let few = rows_few f.ranges f.spreads facts.ordered set up in omega (arith, facts.few)

-- ---- two pieces of a loop are joined: by their sets, filter by filter, accumulator by accumulator

module _ {P : Type 0} (stands : List ℕ → P → Type 0) where
  pub no_cluster_is_neutral : law.NoClusterIsNeutral stands
  no_cluster_is_neutral set p none right left up here empty first second =
      let both = none_is_neutral set up in
      (first set [] set here empty both.0, second [] set set empty here both.1)

  pub joins_in_either_order : law.JoinsInEitherOrder stands
  joins_in_either_order mine theirs all p q pq qp here there union first second =
      (first mine theirs all here there union, second theirs mine all there here (order_does_not_matter mine theirs all union))

  pub joins_from_either_side : law.JoinsFromEitherSide stands
  joins_from_either_side a b c ab all p q r pq left qr right x y z two three first second third fourth =
      let other = unite_from_either_side a b c ab all two three in
      (second ab c all (first a b ab x y two) z three, fourth a other.0 all x (third b c other.0 y z other.1) other.2)

-- ---- Two pieces of a loop: of one set they agree, and of two sets they are joined.

abbrev pub kind_at : Accumulator → ActionKind
kind_at acc = acc.kind

-- lists that agree at each place agree when they are mapped
maps_agree : {B : Type 0} (g : Accumulator → B) (xs ys : List Accumulator) → length xs ≡ length ys
    → ((i : ℕ) (d : Accumulator) → i < length xs → g (get_or xs i d) ≡ g (get_or ys i d)) → map g xs ≡ map g ys
maps_agree g [] [] e h = refl
maps_agree g (x ∷ xs) (y ∷ ys) e h = ap₂ (λ a l. a ∷ l) (h 0 x (omega arith)) (maps_agree g xs ys (omega arith) (λ i d lt. h (suc i) d (omega arith)))
maps_agree g xs ys e h = absurd (omega arith)

module _ (f : LoopFacts) (mine theirs : List ℕ) (p q : LoopPiece) (s : StandsFor f mine p) (t : StandsFor f theirs q) where
  same_many : length q.accs.items ≡ length p.accs.items
  same_many = sym (length-map q.accs.items kind_at) ∙ ap length (t.kinds ∙ sym s.kinds) ∙ length-map p.accs.items kind_at

  kind_of_place : (i : ℕ) (d : Accumulator) → i < length p.accs.items → (get_or q.accs.items i d).kind ≡ (get_or p.accs.items i d).kind
  kind_of_place i d lt = sym (get_or-map kind_at q.accs.items i d (kind_at d) (omega (arith, same_many))) ∙ ap (λ l. get_or l i (kind_at d)) (t.kinds ∙ sym s.kinds) ∙ get_or-map kind_at p.accs.items i d (kind_at d) lt

-- what a piece shows is told by its clusters
pub pieces_of_one_set_agree : PiecesOfOneSetAgree
pieces_of_one_set_agree = grind (arith, maps_agree, same_many, kind_of_place)

module _ (f : LoopFacts) (mine theirs all : List ℕ) (p q : LoopPiece) (s : StandsFor f mine p) (t : StandsFor f theirs q) (u : IsUnion (mine ∷ theirs ∷ []) all) where
  pub can_merge : CanMerge p.accs.items q.accs.items
  can_merge = record {
    many = same_many f mine theirs p q s t;
    kinds = kind_of_place f mine theirs p q s t;
    room = λ i d lt. (let a = s.accs i d lt in let b = t.accs i d (omega (arith, same_many f mine theirs p q s t)) in
        omega (arith, a.few, b.few, entries_union f mine theirs all u, entries_few f all s.facts u.rising));
  }

  both_counts : (i : ℕ) → both (counts_at f mine i) (counts_at f theirs i) ≡ counts_at f all i
  both_counts i = let c = counts_union f mine theirs all i u in ap₂ (λ a b. record { all = a; pass = b }) (sym c.0) (sym c.1)

  flows : (ns : List ℕ) → added (map (counts_at f mine) ns) (map (counts_at f theirs) ns) ≡ map (counts_at f all) ns
  flows [] = refl
  flows (n ∷ ns) = ap₂ (λ a l. a ∷ l) (both_counts n) (flows ns)

  room : (ns : List ℕ) → HaveRoom (map (counts_at f mine) ns) (map (counts_at f theirs) ns)
  room [] i lt = absurd (omega arith)
  room (n ∷ ns) zero lt = let c = counts_union f mine theirs all n u in omega (arith, c.0, counts_few f all n s.facts u.rising)
  room (n ∷ ns) (suc i) lt = room ns i (omega arith)

  pub have_room : HaveRoom p.flow q.flow
  have_room = subst (λ (a : List Counts). HaveRoom a q.flow) (sym s.flow) (subst (λ (b : List Counts). HaveRoom (map (counts_at f mine) (below f.filters)) b) (sym t.flow) (room (below f.filters)))

  pub joined : (r : LoopPiece) → AreMerged p.accs.items q.accs.items r.accs.items → r.flow ≡ added p.flow q.flow → StandsFor f all r
  joined r merged flow = record {
    facts = s.facts;
    rises = u.rising;
    kinds = maps_agree kind_at r.accs.items p.accs.items merged.many (λ i d lt. (merged.each i d (omega (arith, merged.many))).kind) ∙ s.kinds;
    accs = λ i d lt. (
        let here : i < length p.accs.items = omega (arith, merged.many) in
        let a = s.accs i d here in
        let b = t.accs i d (omega (arith, same_many f mine theirs p q s t)) in
        let m = merged.each i d here in
        record {
          fed = has_fed_same _ (fed_over f mine i ++ fed_over f theirs i) (fed_over f all i) (order_union (cluster_items f i) mine theirs all u) (m.fed (fed_over f mine i) (fed_over f theirs i) a.fed b.fed);
          few = omega (arith, m.entries, a.few, b.few, entries_union f mine theirs all u);
        });
    flow = flow ∙ ap₂ added s.flow t.flow ∙ flows (below f.filters);
  }

-- ---- Counts that are added filter by filter.

pub length-added : (xs ys : List Counts) → length ys ≡ length xs → length (added xs ys) ≡ length xs
length-added xs ys e = omega (arith, length-map {B = Counts} (zip xs ys) (λ p. both p.0 p.1), length-zip xs ys)

pub get_or-added : (xs ys : List Counts) (k : ℕ) → length ys ≡ length xs → k < length xs → get_or (added xs ys) k nothing ≡ both (get_or xs k nothing) (get_or ys k nothing)
get_or-added xs ys k e lt =
    get_or-map (λ p. both p.0 p.1) (zip xs ys) k (nothing, nothing) nothing (omega (arith, length-zip xs ys)) ∙ ap (λ p. both p.0 p.1) (get_or-zip xs ys k (nothing, nothing) lt (omega arith))

pub sum_is : (old theirs new : List Counts) → length theirs ≡ length old → length new ≡ length old → ((k : ℕ) → k < length old → get_or new k nothing ≡ both (get_or old k nothing) (get_or theirs k nothing)) → new ≡ added old theirs
sum_is old theirs new e f h = ext_get_or nothing new (added old theirs) (omega (arith, length-added old theirs e)) (λ k lt. let here : k < length old = omega arith in rw (get_or-added old theirs k e here) (h k here))

pub are_counts : (old theirs : List Counts) → length theirs ≡ length old → HaveRoom old theirs → All AreCounts old → All AreCounts theirs → All AreCounts (added old theirs)
are_counts old theirs e room a b = All-from_get_or AreCounts (added old theirs) nothing (λ k lt.
    let here : k < length old = omega (arith, length-added old theirs e) in
    let mine = a k nothing here in
    let yours = b k nothing (omega arith) in
    rw (get_or-added old theirs k e here) record { few = room k here; pass = omega (arith, mine.pass, yours.pass) })

-- ---- One turn of merging accumulators.

module _ (old theirs mine : List Accumulator) (i : ℕ) (acc merged e : Accumulator)
    (within : i < length mine) (same : length mine ≡ length old) (enough : length theirs ≡ length old)
    (left : (k : ℕ) (d : Accumulator) → i ≤ k → get_or mine k d ≡ get_or old k d)
    (done : (k : ℕ) (d : Accumulator) → k < i → IsMerged (get_or old k d) (get_or theirs k d) (get_or mine k d))
    (acc_is : acc ≡ get_or theirs i acc) (merged_is : IsMerged (get_or mine i e) acc merged) where
  here : (d : Accumulator) → IsMerged (get_or old i d) (get_or theirs i d) merged
  here d = grind (arith, get_or_default)

  pub done_next : (k : ℕ) (d : Accumulator) → k < i + 1 → IsMerged (get_or old k d) (get_or theirs k d) (get_or (set mine i merged) k d)
  done_next k d lt = grind (arith, cases_lt k i, get_or-set_other mine i k merged d, get_or-set_at mine i k merged d, done k d, here d)

-- ---- a piece gives what separate passes give over the rows of its clusters: all rows

module _ {A : Type 0} (rows : List A) where
  between : (spans : List Span) (lo hi : ℕ) → Lead lo hi spans → hi ≤ length rows → flat_map (λ (s : Span). span_rows rows (Some s)) spans ≡ slice_range rows lo hi
  between [] lo hi h le = sym (ap (λ k. slice_range rows lo k) (sym h) ∙ range_none rows lo)
  between (s ∷ ss) lo hi h le = grind (arith, lead_up, ranges_join, between ss s.hi hi h.2 le)

  all_rows : (spans : List Span) → Lead 0 (length rows) spans → rows_in spans rows (below (length spans)) ≡ rows
  all_rows spans leads = joined_places (span_rows rows) spans ∙ between spans 0 (length rows) leads (omega arith) ∙ range_whole rows

pub all_clusters_are_the_table : AllClustersAreTheTable
all_clusters_are_the_table d spans leads = ap (λ rows. record d { rows = rows }) (all_rows d.rows spans leads)

-- ---- results

-- the kind of an action pass stands at its place
kind_there : (before after : List Pass) (name : List ℕ) (k : ActionKind) (at : Path) (u : Under) → slice_get (kinds_in (before ++ action_pass name k at u ∷ after)) (length (kinds_in before)) ≡ Some k
kind_there [] after name k at u = refl
kind_there (q ∷ before) after name k at u = grind (arith, kind_there before after name k at u)

pub piece_holds_results : PieceHoldsResults
piece_holds_results d filters spans set before after name k at u piece acc stands there =
    let f = loop_facts d filters spans (before ++ action_pass name k at u ∷ after) in
    let i = length (kinds_in before) in
    let within = slice_get_within piece.accs.items i acc there in
    let is = get_or_from_slice_get piece.accs.items i acc acc there in
    let pass = stands.accs i acc within in
    let kind : acc.kind ≡ k = same_some (sym (slice_get-map kind_at piece.accs.items i ∙ ap (λ (o : Option Accumulator). elim o [ None ↦ None | Some a ↦ Some (kind_at a) ]) there) ∙ ap (λ l. slice_get l i) stands.kinds ∙ kind_there before after name k at u) in (
      kind,
      ap (λ (a : Accumulator). a.filled) (sym is) ∙ pass.fed.filled ∙ ap (λ (a : Accumulator). fold_items a.kind (in_file_order (fed_over f set i))) is
          ∙ ap (λ j. fold_items j (in_file_order (fed_over f set i))) kind ∙ ap (fold_items k) (items_in_order f set i stands.rises)
          ∙ facts_give_results d filters spans set before after name k at u,
    )

pub watch_piece_is_partial_result : WatchPieceIsPartialResult
watch_piece_is_partial_result d filters spans set before after name k at piece stands =
    let f = loop_facts d filters spans (before ++ action_pass name k at None ∷ after) in
    let kind : stands.kind ≡ k = same_some (sym stands.its_kind ∙ kind_there before after name k at None) in
    stands.result ∙ ap (result_over f set (length (kinds_in before))) kind ∙ facts_give_results d filters spans set before after name k at None

-- ---- counts

-- a report without a fault tries each of its filters without one
first_faultless : (o : Outcome ⊥ Bool) (rest : Outcome ⊥ Entry) → fault_in (o >>= λ passed. rest) ≡ None → (fault_in o ≡ None) × (fault_in rest ≡ None)
first_faultless o rest h = grind arith

filter_faultless : (d : Dataset) (row : List Value) (filters : List Path) (i : ℕ) (f : Path) → fault_in (report_in d row filters) ≡ None → slice_get filters i ≡ Some f → fault_in (filter_in d row f) ≡ None
filter_faultless d row [] i f h at = absurd (cc)
filter_faultless d row (g ∷ gs) zero f h at = subst (λ (x : Path). fault_in (filter_in d row x) ≡ None) (same_some at) (first_faultless (filter_in d row g) (report_in d row gs) h).0
filter_faultless d row (g ∷ gs) (suc i) f h at = filter_faultless d row gs i f (first_faultless (filter_in d row g) (report_in d row gs) h).1 at

pub piece_holds_counts : PieceHoldsCounts
piece_holds_counts d before after s up spans set ps n i p filters piece its_pass booked its_filter good stands =
    let f = loop_facts d (before ++ (s ∷ up) ∷ after) spans ps in
    let over = over_clusters spans d set in
    let within : length before < length (before ++ (s ∷ up) ∷ after) = omega (arith, length-append before ((s ∷ up) ∷ after)) in
    let covered : is_covered ps (s ∷ up) ≡ true = any_passes_from_place (λ (q : Pass). reports_on (filter_node (s ∷ up)) q.result.booking) ps n p its_pass
    (ap (reports_on (filter_node (s ∷ up))) booked ∙ any_passes_from_place (λ g. same (filter_node (s ∷ up)) (filter_node g)) filters i (s ∷ up) its_filter (itself (filter_node (s ∷ up)))) in
    let faultless : All (λ row. fault_in (filter_in d row (s ∷ up)) ≡ None) over.rows = λ k x lt.
    filter_faultless d (get_or over.rows k x) filters i (s ∷ up)
    (ap (λ (b : Booking). fault_in (booking_outcome d.fns d.columns (get_or over.rows k x) b p.under)) (sym booked) ∙ (first_fault_is_least over ps).1 good k n (get_or over.rows k x) p (slice_get-get_or over.rows k x lt) its_pass)
    its_filter in
    ap (λ l. slice_get l (length before)) stands.flow
    ∙ slice_get-map (counts_at f set) (below (length (before ++ (s ∷ up) ∷ after))) (length before)
    ∙ ap (option_map (counts_at f set)) (slice_get-below (length (before ++ (s ∷ up) ∷ after)) (length before) within)
    ∙ ap (λ (c : FilterCounts). Some (counts_of c)) (facts_give_counts d before after s up spans set ps covered faultless)

-- ---- the first fault, cluster by cluster

first_in-cons : (o : Option Fault) (os : List (Option Fault)) → first_in (o ∷ os) ≡ first_of o (first_in os)
first_in-cons o os = grind arith

module _ (d : Dataset) (ps : List Pass) where
  pub fault_from-append : (xs ys : List (List Value)) (e : ℕ) → first_fault_from d e (xs ++ ys) ps ≡ first_of (first_fault_from d e xs ps) (first_fault_from d (e + length xs) ys ps)
  fault_from-append [] ys e = let same : e ≡ e + 0 = omega arith in ap (λ k. first_fault_from d k ys ps) same
  fault_from-append (x ∷ xs) ys e =
      let same : (e + 1) + length xs ≡ e + suc (length xs) = omega arith in
      ap (first_of (first_fault_in d e 0 x ps)) (fault_from-append xs ys (e + 1) ∙ ap (λ k. first_of (first_fault_from d (e + 1) xs ps) (first_fault_from d k ys ps)) same)
      ∙ sym (first_of-assoc (first_fault_in d e 0 x ps) (first_fault_from d (e + 1) xs ps) (first_fault_from d (e + suc (length xs)) ys ps))

  entry_or : (e n : ℕ) (o : Option EntryFault) (after : Option Fault) (f : Fault) → ((g : Fault) → after ≡ Some g → g.entry ≡ e) → fault_or e n o after ≡ Some f → f.entry ≡ e
  entry_or e n o after f rest h = grind (arith, same_some)

  entry_in : (qs : List Pass) (e n : ℕ) (row : List Value) (f : Fault) → first_fault_in d e n row qs ≡ Some f → f.entry ≡ e
  entry_in [] e n row f h = absurd (cc)
  entry_in (q ∷ qs) e n row f h = entry_or e n (fault_at d row q) (first_fault_in d e (n + 1) row qs) f (λ g is. entry_in qs e (n + 1) row g is) h

  entry_first : (a b : Option Fault) (f : Fault) → first_of a b ≡ Some f → (a ≡ Some f) ⊎ (b ≡ Some f)
  entry_first a b f h = grind arith

  -- the fault of some rows lies among them
  fault_within : (rows : List (List Value)) (e : ℕ) (f : Fault) → first_fault_from d e rows ps ≡ Some f → (e ≤ f.entry) × (f.entry < e + length rows)
  fault_within [] e f h = absurd (cc)
  fault_within (row ∷ rows) e f h = grind (arith, entry_first (first_fault_in d e 0 row ps) (first_fault_from d (e + 1) rows ps) f h, entry_in ps e 0 row f, fault_within rows (e + 1) f)

  -- the first fault of a cluster
  abbrev fault_of : Option Span → Option Fault
  fault_of o = first_fault_from d (begin_of o) (span_rows d.rows o) ps

  -- clusters that lead from one entry to another have the first fault of the rows between
  first_between : (spans : List Span) (lo hi : ℕ) → Lead lo hi spans → hi ≤ length d.rows → first_in (map (λ s. fault_of (Some s)) spans) ≡ first_fault_from d lo (slice_range d.rows lo hi) ps
  first_between [] lo hi h le = sym (ap (λ l. first_fault_from d lo l ps) (ap (λ k. slice_range d.rows lo k) (sym h) ∙ range_none d.rows lo))
  first_between (s ∷ ss) lo hi h le =
      let up = lead_up ss s.hi hi h.2 in
      let first = h.1 in
      let most : s.hi ≤ length d.rows = omega arith in
      let long : lo + length (slice_range d.rows lo s.hi) ≡ s.hi = omega (arith, range_length d.rows lo s.hi (omega arith) most) in
      first_in-cons (fault_of (Some s)) (map (λ t. fault_of (Some t)) ss)
      ∙ ap₂ first_of (ap (λ k. first_fault_from d k (slice_range d.rows k s.hi) ps) h.0) (first_between ss s.hi hi h.2 le ∙ ap (λ k. first_fault_from d k (slice_range d.rows s.hi hi) ps) (sym long))
      ∙ sym (fault_from-append (slice_range d.rows lo s.hi) (slice_range d.rows s.hi hi) lo)
      ∙ ap (λ l. first_fault_from d lo l ps) (ranges_join d.rows lo s.hi hi (omega arith) up le)

pub first_cluster_has_first_fault : FirstClusterHasFirstFault
first_cluster_has_first_fault d spans ps leads =
    ap first_in (by_places (fault_of d ps) spans) ∙ first_between d ps spans 0 (length d.rows) leads (omega arith) ∙ ap (λ l. first_fault_from d 0 l ps) (range_whole d.rows)

-- the cluster of a fault, and where it lies
abbrev HasSpan : Dataset → List Span → List Pass → ℕ → Fault → Type 0
HasSpan d spans ps c f = (s : Span) × (slice_get spans c ≡ Some s) × (s.lo ≤ f.entry) × (f.entry < s.hi)

its_span : (d : Dataset) (spans : List Span) (ps : List Pass) (c : ℕ) (f : Fault) → slice_get (cluster_faults d spans ps) c ≡ Some (Some f) → HasSpan d spans ps c f
its_span d spans ps c f at = go (slice_get spans c) refl (sym (slice_get-map (λ s. fault_of d ps (Some s)) spans c) ∙ ap (λ l. slice_get l c) (sym (by_places (fault_of d ps) spans)) ∙ at)
  where
    go : (o : Option Span) → slice_get spans c ≡ o → option_map (λ s. fault_of d ps (Some s)) o ≡ Some (Some f) → HasSpan d spans ps c f
    go o is h = grind (arith, fault_within, same_some, take_at_most)

pub lower_clusters_fault_first : LowerClustersFaultFirst
lower_clusters_fault_first = grind (arith, its_span, led_are_in_order)
