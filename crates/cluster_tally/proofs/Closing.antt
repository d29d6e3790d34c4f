-- The end of a cluster.
use Rattle.lemmas.proofs.{◌≡◌, ℕ, ◌+◌, ◌<◌, ◌≤◌, ◌^◌, List, [], ◌∷◌, ◌++◌, length, drop, Option, None, Some, sym, ap, ap₂, ◌∙◌, arith, append-nil, add_assoc, length-append, ◌-◌, count_by, flat_map, slice_get, zero, suc, map, set, ◌⊎◌, inl, inr, refl, replicate, subst, take, get_or, append_assoc, All, OnOk, Result, common_steps, flat_map-append, length-drop, length-take, map-append, sum_by-append, take-add, All-nil, length-map, map-id, map-map, before_or_last, kept_at, last_at, length_push, slice_get-get_or, slice_get-map, All-push, All-weaker, IsStrictlyIncreasing, same_Some}
use Rattle.rdf_values.proofs.UnionLemmas.{rises_push, length-below, map-below, none_rises}
use Rattle.rdf_values.specs.{Item, Span, ActionKind, below, fold_items}
use Rattle.rdf_model.specs.{if_there, is_reached, Reach, span_rows, list_at}
use Rattle.rdf_model.specs.declared.loop_facts.LoopFacts.{LoopFacts}
use Rattle.actions.specs.{from_cluster, Accumulator, HasFed, in_file_order}
use Rattle.loop_pieces.specs.{both, Counts, entries_over, counts_at, fed_over, HaveTrails, nothing, WatchPiece, LoopPiece, StandsFor, cluster_items, IsOfKind, IsTrail, watch_facts, watch_filled, WatchStandsFor}
use Rattle.loop_pieces.proofs.ByCluster.{counts_few, entries_few, items_in_order}
use Rattle.cluster_tally.specs.{block_items, block_reaches, BlockStage, counted, counts_by, counts_in, filter_done, first_items, HoldsIn, IsWithin, taken_in, TallyView, places_there, CanWatch, fed_by, fresh_acc, IsFedAlone, IsFedBy, at_begin, Holds, IsFresh, first_reaches, IsAtEnd, note_of, noted_all, noted_at, piece_for, renewed, Stage, times_there}
use Rattle.std.proofs.lemmas.List.{drop-drop, drop-set-lt, drop_more, length-set, map_more, take_all, take_more_set}
use Rattle.merge_core.specs.{Noted}
use Rattle.cluster_tally.specs.Laws as law

-- ---- what is taken in of a cluster, and what a block adds: how many entries are taken in

pub in_before : (e m l p : ℕ) → p < l → taken_in e m l p ≡ e + m
in_before e m l p lt = grind (arith, common_steps)

pub in_from : (e m l p : ℕ) → l ≤ p → taken_in e m l p ≡ e
in_from e m l p le = grind (arith, common_steps)

pub in_same : (e m l p : ℕ) → (p ≡ l → ⊥) → taken_in e m (l + 1) p ≡ taken_in e m l p
in_same e m l p ne = grind (arith, common_steps, ne)

-- what a block adds to the entries before it
pub items_next : (f : LoopFacts) (s : BlockStage) (i : ℕ)
    → from_cluster s.cluster (first_items f s.cluster (s.entries + s.block) i) ≡ from_cluster s.cluster (first_items f s.cluster s.entries i) ++ from_cluster s.cluster (block_items f s i)
items_next f s i = grind (arith, take-add, flat_map-append, map-append)

-- ---- counts

pub counted_both : (rs more : List Reach) → counted (rs ++ more) ≡ both (counted rs) (counted more)
counted_both rs more = grind (arith, sum_by-append)

pub both_assoc : (a b c : Counts) → both a (both b c) ≡ both (both a b) c
both_assoc a b c = ap₂ (λ x y. record { all = x; pass = y }) (sym (add_assoc a.all b.all c.all)) (sym (add_assoc a.pass b.pass c.pass))

module _ (f : LoopFacts) (s : BlockStage) where
  pub counts_next : counts_in f (filter_done s) s.filters ≡ both (counts_in f s s.filters) (counted (block_reaches f s s.filters))
  counts_next = grind (arith, in_before, take-add, flat_map-append, counted_both, both_assoc, in_from)

  pub counts_same : (i : ℕ) → (i ≡ s.filters → ⊥) → counts_in f (filter_done s) i ≡ counts_in f s i
  counts_same i ne = ap (λ n. counts_by f s.done s.cluster n i) (in_same s.entries s.block s.filters i ne)

-- ---- how many there can be

pub entries_with : (f : LoopFacts) (done : List ℕ) (c : ℕ) → entries_over f (done ++ c ∷ []) ≡ entries_over f done + length (span_rows f.spreads (slice_get f.ranges c))
entries_with f done c = grind (arith, flat_map-append, length-append, append-nil)

one_row : (o : Option Reach) → count_by is_reached (if_there o) ≤ 1
one_row o = grind (arith, common_steps)

pub few_reached : (rows : List (List Reach)) (i : ℕ) → count_by is_reached (flat_map (λ (row : List Reach). if_there (slice_get row i)) rows) ≤ length rows
few_reached [] i = omega arith
few_reached (row ∷ rows) i = grind (arith, sum_by-append, one_row, few_reached rows i)

pub span_few : {A : Type 0} (rows : List A) (o : Option Span) → length (span_rows rows o) ≤ length rows
span_few rows o = grind (arith, length-take, length-drop)

module _ (f : LoopFacts) (watched : List ℕ) (s : BlockStage) (t : TallyView) (h : HoldsIn f watched s t) where
  pub entries_room : IsWithin f s → entries_over f s.done + s.entries + s.block ≤ 1000000
  entries_room within =
      let few = entries_few f (s.done ++ s.cluster ∷ []) h.facts (rises_push s.done s.cluster h.rises h.above) in
      omega (arith, entries_with f s.done s.cluster, few, within)

  pub counts_room : (i : ℕ) → (counts_in f s i).all + (counted (block_reaches f s i)).all ≤ 2 ^ 32
  counts_room i = grind (arith, few_reached, span_few, counts_few, length-take, length-drop)

-- ---- a tally's first and last moments, and the lists that it begins clusters with

abbrev pub kind_at : Accumulator → ActionKind
kind_at acc = acc.kind

pub of_mapped : {A B : Type 0} (g : A → B) (xs : List A) (i : ℕ) (y : B) → slice_get (map g xs) i ≡ Some y → (x : A) × (slice_get xs i ≡ Some x) × (y ≡ g x)
of_mapped g xs i y e = grind (arith, slice_get-map)

-- what stands at a place after a write
pub at_set : {A : Type 0} (xs : List A) (i : ℕ) (v : A) (j : ℕ) (x : A) → slice_get (set xs i v) j ≡ Some x → ((j ≡ i) × (x ≡ v)) ⊎ ((j ≡ i → ⊥) × (slice_get xs j ≡ Some x))
at_set [] i v j x e = absurd (cc)
at_set (y ∷ ys) zero v zero x e = let same : v ≡ x = cc in inl (refl, sym same)
at_set (y ∷ ys) zero v (suc j) x e = inr ((λ k. absurd (omega arith)), e)
at_set (y ∷ ys) (suc i) v zero x e = inr ((λ k. absurd (omega arith)), e)
at_set (y ∷ ys) (suc i) v (suc j) x e = grind (arith, at_set ys i v j x e)

-- the places at which something_at is one stay where one is written over another
pub places_kept : (xs : List (Option Accumulator)) (n i : ℕ) (v x : Accumulator) → slice_get xs i ≡ Some (Some x) → places_there n (set xs i (Some v)) ≡ places_there n xs
places_kept [] n i v x at = refl
places_kept (o ∷ xs) n zero v x at = grind arith
places_kept (o ∷ xs) n (suc i) v x at = grind (arith, places_kept xs (n + 1) i v x at)

pub places_more : (xs : List (Option Accumulator)) (n : ℕ) (o : Option Accumulator) → places_there n (xs ++ o ∷ []) ≡ places_there n xs ++ places_there (n + length xs) (o ∷ [])
places_more [] n o = grind arith
places_more (x ∷ xs) n o = grind (arith, places_more xs (n + 1) o)

-- ---- The beginning of clusters: the beginning of a cluster

none_taken : (i : ℕ) → taken_in 0 1 0 i ≡ 0
none_taken i = in_from 0 1 0 i (omega arith)

module _ (f : LoopFacts) (done : List ℕ) (c : ℕ) where
  pub fed_at_begin : (i : ℕ) → fed_by f done c (taken_in 0 1 0 i) i ≡ fed_over f done i
  fed_at_begin i = ap (λ n. fed_by f done c n i) (none_taken i) ∙ append-nil (fed_over f done i)

  pub counts_at_begin : (i : ℕ) → counts_by f done c (taken_in 0 1 0 i) i ≡ counts_at f done i
  counts_at_begin i = grind (arith, none_taken)

-- ---- a fresh tally

fresh_by : (f : LoopFacts) (c i : ℕ) (k : ActionKind) → IsFedBy f [] c (taken_in 0 1 0 i) i (fresh_acc k)
fresh_by f c i k = grind (arith, fed_at_begin)

pub fresh_alone : (f : LoopFacts) (c i : ℕ) (k : ActionKind) → slice_get f.kinds i ≡ Some k → CanWatch k → IsFedAlone f c (taken_in 0 1 0 i) i (fresh_acc k)
fresh_alone f c i k at watch = record { kind = at; watch = watch; held = fresh_by f c i k }

all_nothing : (xs : List ℕ) → map (λ i. nothing) xs ≡ replicate (length xs) nothing
all_nothing [] = refl
all_nothing (x ∷ xs) = ap (λ l. nothing ∷ l) (all_nothing xs)

no_trails : (f : LoopFacts) (watched : List ℕ) (trails : List (List (Noted WatchPiece))) → trails ≡ map (λ p. []) watched → HaveTrails f watched [] trails
no_trails f watched trails is = grind (arith, length-map, of_mapped, All-nil)

pub fresh_holds : law.FreshHolds
fresh_holds f watched t c facts fresh flow = record {
  facts = facts;
  rises = none_rises;
  above = All-nil (λ d. d < c);
  kinds = ap (map kind_at) fresh.accs ∙ map-map kind_at fresh_acc f.kinds ∙ map-id f.kinds;
  accs = λ i acc at. (
      let of = of_mapped fresh_acc f.kinds i acc (ap (λ l. slice_get l i) (sym fresh.accs) ∙ at) in
      subst (IsFedBy f [] c (taken_in 0 1 0 i) i) (sym of.2) (fresh_by f c i of.0));
  flow =
      flow
      ∙ ap (λ n. replicate n nothing) (sym (length-below f.filters))
      ∙ sym (all_nothing (below f.filters))
      ∙ map-below f.filters (λ i. nothing) (λ i. counts_by f [] c (taken_in 0 1 0 i) i) (λ i lt. sym (counts_at_begin f [] c i));
  many = fresh.many ∙ sym (ap length fresh.accs ∙ length-map f.kinds fresh_acc);
  places = fresh.places;
  alone = λ i acc at. (let of = fresh.alone i acc at in subst (IsFedAlone f c (taken_in 0 1 0 i) i) (sym of.3) (fresh_alone f c i of.0 of.1 of.2));
  trails = no_trails f watched t.trails fresh.trails;
}

-- ---- A tally's first and last moments: the first

module _ (kinds : List ActionKind) (watched : List ℕ) (t : TallyView) (k : ActionKind) (h : IsFresh kinds watched t) where
  alone_now : (w : Option Accumulator) → ((acc : Accumulator) → w ≡ Some acc → CanWatch k × (acc ≡ fresh_acc k)) → (i : ℕ) (acc : Accumulator) → slice_get (t.watched ++ w ∷ []) i ≡ Some (Some acc)
      → (j : ActionKind) × (slice_get (kinds ++ k ∷ []) i ≡ Some j) × CanWatch j × (acc ≡ fresh_acc j)
  alone_now w its i acc at = grind (arith, before_or_last, kept_at, last_at)

  pub fresh_more : IsFresh (kinds ++ k ∷ []) watched (record { accs = t.accs ++ fresh_acc k ∷ []; watched = t.watched ++ None ∷ []; flow = t.flow; trails = t.trails })
  fresh_more = grind (arith, map-append, length_push, places_more, append-nil, alone_now)

  pub fresh_watched : CanWatch k → IsFresh (kinds ++ k ∷ []) (watched ++ length kinds ∷ []) (record { accs = t.accs ++ fresh_acc k ∷ []; watched = t.watched ++ Some (fresh_acc k) ∷ []; flow = t.flow; trails = t.trails ++ [] ∷ [] })
  fresh_watched can = grind (arith, map-append, length_push, places_more, alone_now)

pub stands : (f : LoopFacts) (watched done : List ℕ) (c : ℕ) (t : TallyView) (p : LoopPiece) → p.accs.items ≡ t.accs → p.flow ≡ t.flow → Holds f watched (at_begin done c) t → StandsFor f done p
stands f watched done c t p accs flow h = record {
  facts = h.facts;
  rises = h.rises;
  kinds = ap (map (λ (acc : Accumulator). acc.kind)) accs ∙ h.kinds;
  accs = λ i d lt. (
      let one = h.accs i _ (ap (λ l. slice_get l i) (sym accs) ∙ slice_get-get_or p.accs.items i d lt) in
      record { fed = subst (HasFed _) (fed_at_begin f done c i) one.fed; few = omega (arith, one.few, in_from 0 1 0 i (omega arith)) });
  flow = flow ∙ h.flow ∙ map-below f.filters (λ i. counts_by f done c (taken_in 0 1 0 i) i) (counts_at f done) (λ i lt. counts_at_begin f done c i);
}

-- ---- the loop over the watchers

places_many : (ws : List (Option Accumulator)) (n m : ℕ) → length (places_there n ws) ≡ length (places_there m ws)
places_many [] n m = refl
places_many (w ∷ ws) n m = grind (arith, places_many ws (n + 1) (m + 1))

-- the watchers before place i are begun anew, and what they held is noted in the trails before the next one
pub record AreClosedTo (c : ℕ) (old : List (Option Accumulator)) (first : List (List (Noted WatchPiece))) (i next : ℕ) (watched : List (Option Accumulator)) (trails : List (List (Noted WatchPiece))) : Type 0 where
  pub same : length watched ≡ length old
  pub front : take i watched ≡ map renewed (take i old)
  pub back : drop i watched ≡ drop i old
  pub noted : noted_all c old first ≡ take next trails ++ noted_all c (drop i old) (drop next trails)
  pub left : length trails ≡ next + length (places_there 0 (drop i old))
  pub all : length trails ≡ length first

pub begun : (c : ℕ) (old : List (Option Accumulator)) (first : List (List (Noted WatchPiece))) → length first ≡ length (places_there 0 old) → AreClosedTo c old first 0 0 old first
begun c old first many = record { same = refl; front = refl; back = refl; noted = refl; left = many ∙ (let e : (n : ℕ) → n ≡ 0 + n = λ n. omega arith in e (length (places_there 0 old))); all = refl }

module _ (c : ℕ) (old : List (Option Accumulator)) (first : List (List (Noted WatchPiece))) (i next : ℕ) (watched : List (Option Accumulator)) (trails : List (List (Noted WatchPiece)))
    (b : AreClosedTo c old first i next watched trails) (lt : i < length old) (d : Option Accumulator) where
  here : drop i old ≡ get_or watched i d ∷ drop (i + 1) old
  here =
      let x = sym b.back ∙ drop_more watched i d (omega (arith, b.same)) in
      let y = drop_more old i d lt in
      let heads : get_or watched i d ≡ get_or old i d = cc in
      y ∙ ap (λ w. w ∷ drop (i + 1) old) (sym heads)

  pub was : get_or watched i d ≡ get_or old i d
  was = let y = drop_more old i d lt in let x = here in cc

  pub there_is : slice_get old i ≡ Some (get_or watched i d)
  there_is = slice_get-get_or old i d lt ∙ ap Some (sym was)

  pub has_trail : (acc : Accumulator) → get_or watched i d ≡ Some acc → next < length trails
  has_trail acc is = grind (arith, i, here)

  by_case : (w : Option Accumulator) → drop i old ≡ w ∷ drop (i + 1) old
      → (noted_all c old first ≡ take (next + times_there w) (noted_at c w trails next) ++ noted_all c (drop (i + 1) old) (drop (next + times_there w) (noted_at c w trails next)))
      × (length (noted_at c w trails next) ≡ next + times_there w + length (places_there 0 (drop (i + 1) old)))
      × (length (noted_at c w trails next) ≡ length trails)
  by_case w e = grind (arith, i, places_many, drop_more, append_assoc, take_more_set, drop-set-lt, length-set)

  pub closed_next : AreClosedTo c old first (i + 1) (next + times_there (get_or watched i d)) (set watched i (renewed (get_or watched i d))) (noted_at c (get_or watched i d) trails next)
  closed_next =
      let w = get_or watched i d in
      let within : i < length watched = omega (arith, b.same) in
      let by = by_case w here in
      record {
        same = length-set watched i (renewed w) ∙ b.same;
        front = take_more_set watched i (renewed w) within ∙ ap₂ (λ l x. l ++ renewed x ∷ []) b.front was ∙ sym (map_more renewed old i d lt);
        back = drop-set-lt (i + 1) watched i (renewed w) (omega arith) ∙ sym (drop-drop 1 i watched) ∙ ap (drop 1) b.back ∙ drop-drop 1 i old;
        noted = by.0;
        left = by.1;
        all = by.2 ∙ b.all;
      }

-- ---- what is noted

places_renewed : (ws : List (Option Accumulator)) (n : ℕ) → places_there n (map renewed ws) ≡ places_there n ws
places_renewed [] n = refl
places_renewed (w ∷ ws) n = grind (arith, places_renewed ws (n + 1))

noted_many : (c : ℕ) (ws : List (Option Accumulator)) (ts : List (List (Noted WatchPiece))) → length (noted_all c ws ts) ≡ length ts
noted_many c [] ts = refl
noted_many c (w ∷ ws) [] = grind (arith, noted_many c ws [])
noted_many c (w ∷ ws) (t ∷ ts) = grind (arith, noted_many c ws ts, noted_many c ws (t ∷ ts))

-- the trail of a watched place, before and after
pub record IsNotedAt (c place : ℕ) (ws : List (Option Accumulator)) (n : ℕ) (ts : List (List (Noted WatchPiece))) (w : ℕ) (trail : List (Noted WatchPiece)) : Type 0 where
  pub i : ℕ
  pub its_place : place ≡ n + i
  pub acc : Accumulator
  pub its_acc : slice_get ws i ≡ Some (Some acc)
  pub before : List (Noted WatchPiece)
  pub was : slice_get ts w ≡ Some before
  pub now : trail ≡ before ++ note_of c acc ∷ []

noted_there : (c place : ℕ) (ws : List (Option Accumulator)) (n : ℕ) (ts : List (List (Noted WatchPiece))) (w : ℕ) (trail : List (Noted WatchPiece))
    → slice_get (places_there n ws) w ≡ Some place → slice_get (noted_all c ws ts) w ≡ Some trail → IsNotedAt c place ws n ts w trail
noted_there c place [] n ts w trail at is = absurd (cc)
noted_there c place (None ∷ ws) n ts w trail at is =
    let r = noted_there c place ws (n + 1) ts w trail at is in
    record { i = suc r.i; its_place = omega (arith, r.its_place); acc = r.acc; its_acc = r.its_acc; before = r.before; was = r.was; now = r.now }
noted_there c place (Some a ∷ ws) n [] w trail at is = absurd (cc)
noted_there c place (Some a ∷ ws) n (t ∷ ts) zero trail at is =
    record { i = 0; its_place = omega (arith, same_Some n place at); acc = a; its_acc = refl; before = t; was = refl; now = sym (same_Some _ trail is) }
noted_there c place (Some a ∷ ws) n (t ∷ ts) (suc w) trail at is =
    let r = noted_there c place ws (n + 1) ts w trail at is in
    record { i = suc r.i; its_place = omega (arith, r.its_place); acc = r.acc; its_acc = r.its_acc; before = r.before; was = r.was; now = r.now }

piece_is : (k : ActionKind) (items : List Item) → CanWatch k → IsOfKind k (piece_for k (fold_items k items)) × (watch_filled (piece_for k (fold_items k items)) ≡ fold_items k items)
piece_is k items w = grind arith

-- ---- the whole tally

module _ (f : LoopFacts) (watched : List ℕ) (s : Stage) (t : TallyView) (cluster next : ℕ) (h : Holds f watched s t) (end : IsAtEnd f s cluster) (later : cluster < next) where
  abbrev after : Stage
  after = at_begin (s.done ++ s.cluster ∷ []) next

  all_taken : s.entries ≡ length (span_rows f.spreads (slice_get f.ranges s.cluster))
  all_taken = end.entries ∙ ap (λ c. length (span_rows f.spreads (slice_get f.ranges c))) (sym end.at_cluster)

  taken : (i : ℕ) → taken_in s.entries 1 s.passes i ≡ s.entries
  taken i = in_from s.entries 1 s.passes i (omega (arith, end.passes))

  items_all : (i : ℕ) → first_items f s.cluster (taken_in s.entries 1 s.passes i) i ≡ cluster_items f i s.cluster
  items_all i = ap (λ n. first_items f s.cluster n i) (taken i) ∙ ap (flat_map (λ (r : List (List Item)). list_at r i)) (take_all s.entries (span_rows f.spreads (slice_get f.ranges s.cluster)) (omega (arith, all_taken)))

  alone_all : (i : ℕ) → fed_by f [] s.cluster (taken_in s.entries 1 s.passes i) i ≡ from_cluster s.cluster (cluster_items f i s.cluster)
  alone_all i = ap (from_cluster s.cluster) (items_all i)

  fed_all : (i : ℕ) → fed_by f s.done s.cluster (taken_in s.entries 1 s.passes i) i ≡ fed_by f (s.done ++ s.cluster ∷ []) next (taken_in 0 1 0 i) i
  fed_all i = grind (arith, alone_all, flat_map-append, fed_at_begin, append-nil)

  -- ---- counts

  span_same : (o : Option Span) → length (span_rows f.reaches o) ≡ length (span_rows f.spreads o)
  span_same o = grind (arith, length-take, length-drop)

  reaches_all : (i : ℕ) → first_reaches f s.cluster (taken_in s.entries 1 s.filters i) i ≡ flat_map (λ (row : List Reach). if_there (slice_get row i)) (span_rows f.reaches (slice_get f.ranges s.cluster))
  reaches_all i = grind (arith, in_from, take_all, all_taken, span_same)

  counts_all : (i : ℕ) → counts_by f s.done s.cluster (taken_in s.entries 1 s.filters i) i ≡ counts_by f (s.done ++ s.cluster ∷ []) next (taken_in 0 1 0 i) i
  counts_all i = grind (arith, here, reaches_all, counted_both, flat_map-append, counts_at_begin)

  -- ---- trails

  one_rises : IsStrictlyIncreasing (s.cluster ∷ [])
  one_rises k lt = absurd (omega arith)

  watched_stands : (i : ℕ) (acc : Accumulator) → slice_get t.watched i ≡ Some (Some acc) → WatchStandsFor (watch_facts f i) (s.cluster ∷ []) (piece_for acc.kind acc.filled)
  watched_stands i acc at =
      let a = h.alone i acc at in
      let items = in_file_order (fed_by f [] s.cluster (taken_in s.entries 1 s.passes i) i) in
      let is = piece_is acc.kind items a.watch in
      let filled : acc.filled ≡ fold_items acc.kind items = a.held.fed.filled in
      let order : items ≡ _ = ap in_file_order (alone_all i ∙ sym (append-nil (from_cluster s.cluster (cluster_items f i s.cluster)))) ∙ items_in_order f (s.cluster ∷ []) i one_rises in
      record {
        facts = h.facts;
        rises = one_rises;
        kind = acc.kind;
        its_kind = a.kind;
        is_of_kind = subst (λ x. IsOfKind acc.kind (piece_for acc.kind x)) (sym filled) is.0;
        result = ap (λ x. watch_filled (piece_for acc.kind x)) filled ∙ is.1 ∙ ap (fold_items acc.kind) order;
      }

  trail_after : (w place : ℕ) (trail : List (Noted WatchPiece)) → slice_get watched w ≡ Some place → slice_get (noted_all s.cluster t.watched t.trails) w ≡ Some trail → IsTrail f place (s.done ++ s.cluster ∷ []) trail
  trail_after w place trail at is =
      let r = noted_there s.cluster place t.watched 0 t.trails w trail (ap (λ l. slice_get l w) h.places ∙ at) is in
      let old = h.trails.each w place r.before at r.was in
      let same : r.i ≡ place = omega (arith, r.its_place) in
      let one = subst (λ k. WatchStandsFor (watch_facts f k) (s.cluster ∷ []) (piece_for r.acc.kind r.acc.filled)) same (watched_stands r.i r.acc r.its_acc) in
      record {
        clusters = ap (map (λ (n : Noted WatchPiece). n.cluster)) r.now ∙ map-append (λ (n : Noted WatchPiece). n.cluster) r.before (note_of s.cluster r.acc ∷ []) ∙ ap (λ l. l ++ s.cluster ∷ []) old.clusters;
        alone = subst (All (λ (n : Noted WatchPiece). WatchStandsFor (watch_facts f place) (n.cluster ∷ []) n.piece)) (sym r.now)
            (All-push (λ (n : Noted WatchPiece). WatchStandsFor (watch_facts f place) (n.cluster ∷ []) n.piece) r.before (note_of s.cluster r.acc) old.alone one);
      }

  alone_after : (i : ℕ) (acc : Accumulator) → slice_get (map renewed t.watched) i ≡ Some (Some acc) → IsFedAlone f next (taken_in 0 1 0 i) i acc
  alone_after i acc at = let of = of_mapped renewed t.watched i (Some acc) at in go of.0 of.1 of.2
    where
      go : (o : Option Accumulator) → slice_get t.watched i ≡ Some o → Some acc ≡ renewed o → IsFedAlone f next (taken_in 0 1 0 i) i acc
      go None there e = absurd (cc)
      go (Some old) there e =
          let a = h.alone i old there in
          subst (IsFedAlone f next (taken_in 0 1 0 i) i) (sym (same_Some acc (fresh_acc old.kind) e)) (fresh_alone f next i old.kind a.kind a.watch)

  at_own : Holds f watched after (record { accs = t.accs; watched = map renewed t.watched; flow = t.flow; trails = noted_all s.cluster t.watched t.trails })
  at_own =
      let below_next : s.cluster < next = omega (arith, end.at_cluster) in
      record {
        facts = h.facts;
        rises = rises_push s.done s.cluster h.rises h.above;
        above = All-push (λ c. c < next) s.done s.cluster (All-weaker (λ c. c < s.cluster) (λ c. c < next) (λ c lt. omega arith) s.done h.above) below_next;
        kinds = h.kinds;
        accs = λ i acc at. (
            let one = h.accs i acc at in
            record { fed = subst (HasFed acc) (fed_all i) one.fed; few = omega (arith, one.few, taken i, all_taken, entries_with f s.done s.cluster); last = omega (arith, one.last) });
        flow = h.flow ∙ map-below f.filters _ (λ i. counts_by f (s.done ++ s.cluster ∷ []) next (taken_in 0 1 0 i) i) (λ i lt. counts_all i);
        many = length-map t.watched renewed ∙ h.many;
        places = places_renewed t.watched 0 ∙ h.places;
        alone = alone_after;
        trails = record { many = noted_many s.cluster t.watched t.trails ∙ h.trails.many; each = trail_after };
      }

  pub holds_closed : Holds f watched (at_begin (s.done ++ cluster ∷ []) next) (record { accs = t.accs; watched = map renewed t.watched; flow = t.flow; trails = noted_all cluster t.watched t.trails })
  holds_closed = subst (λ c. Holds f watched (at_begin (s.done ++ c ∷ []) next) (record { accs = t.accs; watched = map renewed t.watched; flow = t.flow; trails = noted_all c t.watched t.trails })) end.at_cluster at_own

pub on_both_ok : {A E : Type 0} (r : Result A E) {P Q R : Type 0} → (P → Q → R) → OnOk r P → OnOk r Q → OnOk r R
on_both_ok r h p q = grind arith
