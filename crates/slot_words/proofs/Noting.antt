-- The clusters that were noted first, by their numbers, and the chain of their sets.
use Rattle.lemmas.proofs.{◌≡◌, ℕ, ◌≤◌, List, [], ◌∷◌, map, refl, sym, ap, ◌∙◌, subst, arith, IsPermutation, zero, suc, ◌+◌, ◌++◌, length, min, Bool, not, cond, ap₂, flat_map, ◌<◌, get_or, nat_lt, Contains, ◌-◌, ◌*◌, ◌/◌, Some, mul-le-mul_right, slice_get, option_map, All-head, All-map, All-tail, common_steps, IsNonDecreasing, IsStrictlyIncreasing, All, All-append, All-filter, All-nil, count_by, filter, filter-append, firsts-zip, length-filter, length-map, map-append, map-map, seconds-zip, sum_by, sum_by-cons, sum_by-filter_both, sum_by-IsPermutation, sum_by_push, zip, concat_is, flat_map-map, IsStrictlyIncreasing-filter, length_permutation, nil_from_length, slice_get-get_or, same_some, slice_get-map, slice_get_within}
use Rattle.std.specs.List.{concat, All as Every}
use Rattle.std.proofs.lemmas.List.Concat.{flat_map_single}
use Rattle.std.proofs.lemmas.List.Sums.{sum_by_more, sum_by_more_le}
use Rattle.merge_core.specs.{Noted, Stand}
use Rattle.rdf_values.specs.{IsUnion, times, below, once_below}
use Rattle.rdf_values.proofs.UnionLemmas.{times_permuted, one_if, sum_by-map, times_below, times_contains, permuted_by_counts, inside_once, below_rises, all_below, times_filter, rises_from, same_rising, by_counts, both_rise, two, length-below, slice_get-below}
use Rattle.slot_words.specs.{AreAlone, AreLinesSoFar, AreOf, cluster_in, piece_in, added, AsManyAsTheBound, chosen, HaveNumbers, HigherBoundKeeps, is_between, kept, numbered, AreNoted, AreTrails, noted_before, set_before, WatchedPlace, chain_of}
use Rattle.rdf_model.specs.declared.loop_facts.LoopFacts.{LoopFacts}
use Rattle.loop_pieces.specs.{watch_facts, WatchPiece, WatchStandsFor, ArePartialLines, IsPartialLine, PartialLine}
use Rattle.slot_words.proofs.Hands.{all_seen}
use Rattle.slot_words.proofs.Joining.{stands_there}
use Rattle.rdf_model.specs.{IsChain}

module _ {P : Type 0} where
  abbrev pub single : Noted P → List ℕ
  single n = n.cluster ∷ []

  alone : (stands : List ℕ → P → Type 0) (ns : List (Noted P)) → AreAlone stands ns → Stand stands (map single ns) (map piece_in ns)
  alone stands [] h = tt
  alone stands (n ∷ ns) h = let P = λ (m : Noted P). stands (single m) m.piece in (All-head P n ns h, alone stands ns (All-tail P n ns h))

  module _ (clusters : List ℕ) (pieces : List P) (ns : List (Noted P)) (of : AreOf clusters pieces ns) where
    pub stand_alone : (stands : List ℕ → P → Type 0) (own : List P) → own ≡ pieces → AreAlone stands ns → Stand stands (map single ns) own
    stand_alone stands own same h = subst (Stand stands (map single ns)) (sym (same ∙ of.pieces_are)) (alone stands ns h)

    -- the clusters in order
    pub unite : (sorted : List ℕ) → IsNonDecreasing sorted → IsPermutation clusters sorted → ((x : ℕ) → times x (map cluster_in ns) ≤ 1) → IsUnion (map single ns) sorted
    unite sorted up p once = record {
      sets_rise = All-map IsStrictlyIncreasing single ns (λ k d lt j within. absurd (omega arith));
      rising = λ k lt.
          (let x = get_or sorted k 0 in
          let few : times x sorted ≤ 1 = omega (arith, once x, times_permuted x clusters sorted p, ap (times x) of.clusters_are) in
          grind (arith, common_steps, up k (k + 1) 0, sum_by_more (one_if x) sorted k 0, sum_by_more_le (one_if x) sorted (k + 1) 0 lt));
      each_once = rw (concat_is (map single ns), flat_map-map (λ x. x) single ns, flat_map_single cluster_in ns, ← of.clusters_are) p;
    }

-- ---- The entries with a number between two bounds, and how many there are.

-- how many numbers are less than the bound
abbrev less_in : ℕ → List ℕ → ℕ
less_in b ns = count_by (is_between 0 b) ns

less_below : (b m : ℕ) → less_in b (below m) ≡ min b m
less_below b zero = omega arith
less_below b (suc m) = grind (arith, common_steps, sum_by_push (λ n. cond (is_between 0 b n) 1 0) (below m) m, less_below b m)

module _ {A : Type 0} where
  pub kept_both : (low high : ℕ) (xs ys : List (ℕ × A)) → kept low high (xs ++ ys) ≡ kept low high xs ++ kept low high ys
  kept_both low high xs ys = ap (map (λ (e : ℕ × A). e.1)) (filter-append _ xs ys) ∙ map-append _ (filter _ xs) (filter _ ys)

  -- the numbers and the entries, one trail after another
  parts_are : (os : List (List ℕ)) (ts : List (List A)) → HaveNumbers os ts → (map (λ (e : ℕ × A). e.0) (numbered os ts) ≡ concat os) × (map (λ (e : ℕ × A). e.1) (numbered os ts) ≡ flat_map (λ t. t) ts)
  parts_are [] [] have = (refl, refl)
  parts_are (o ∷ os) (t ∷ ts) have =
      let same : length o ≡ length t = cc in
      grind (arith, map-append, firsts-zip o t (sym same), seconds-zip o t (sym same), parts_are os ts)
  parts_are os ts have = absurd (cc)

  -- what is kept is among the entries
  pub kept_among : (f : A → ℕ) (os : List (List ℕ)) (ts : List (List A)) (low high : ℕ) → HaveNumbers os ts → sum_by f (added os low high ts) ≤ sum_by f (flat_map (λ t. t) ts)
  kept_among f os ts low high have =
      let es = numbered os ts in
      let among = λ (e : ℕ × A). is_between low high e.0 in
      omega (arith, sum_by-filter_both among (λ e. not (among e)) (λ e. refl) (λ e. f e.1) es, sum_by-map f (λ (e : ℕ × A). e.1) (filter among es), sum_by-map f (λ (e : ℕ × A). e.1) es, ap (sum_by f) (parts_are os ts have).1)

  all_of : (P : A → Type 0) (ts : List (List A)) → All (All P) ts → All P (flat_map (λ t. t) ts)
  all_of P [] h = All-nil P
  all_of P (t ∷ ts) h = All-append P t (flat_map (λ t. t) ts) (All-head (All P) t ts h) (all_of P ts (All-tail (All P) t ts h))

  -- what holds of all entries
  pub all_added : (P : A → Type 0) (os : List (List ℕ)) (ts : List (List A)) (low high : ℕ) → HaveNumbers os ts → All (All P) ts → All P (added os low high ts)
  all_added P os ts low high have h =
      let each = all_seen (λ (e : ℕ × A). e.1) P (numbered os ts) (subst (All P) (sym (parts_are os ts have).1) (all_of P ts h)) in
      let among = λ (e : ℕ × A). is_between low high e.0 in
      All-map P (λ (e : ℕ × A). e.1) (filter among (numbered os ts)) (All-filter among (λ e. P e.1) (numbered os ts) each)

  module _ (f : A → ℕ) (low high : ℕ) (le : low ≤ high) where
    one_kept : (b : Bool) (e : ℕ × A) (es : List (ℕ × A)) → sum_by f (map (λ e. e.1) (cond b (e ∷ es) es)) ≡ cond b (f e.1) 0 + sum_by f (map (λ e. e.1) es)
    one_kept b e es = grind (arith, sum_by-cons f e.1 (map (λ e. e.1) es))

    parts : (n x : ℕ) → cond (is_between 0 high n) x 0 ≡ cond (is_between 0 low n) x 0 + cond (is_between low high n) x 0
    parts n x = grind (arith, common_steps)

    -- what is kept by a bound is what a lower one keeps, and what is between them
    pub sum_kept : (es : List (ℕ × A)) → sum_by f (kept 0 high es) ≡ sum_by f (kept 0 low es) + sum_by f (kept low high es)
    sum_kept [] = omega arith
    sum_kept (e ∷ es) = omega (arith, sum_kept es, parts e.0 (f e.1), here 0 high, here 0 low, here low high)
      where
        here : (a b : ℕ) → sum_by f (kept a b (e ∷ es)) ≡ cond (is_between a b e.0) (f e.1) 0 + sum_by f (kept a b es)
        here a b = one_kept (is_between a b e.0) e (filter (λ e. is_between a b e.0) es)

  ones : (xs : List A) → sum_by (λ _. 1) xs ≡ length xs
  ones [] = refl
  ones (x ∷ xs) = omega (arith, sum_by-cons (λ (_ : A). 1) x xs, ones xs)

  pub length_added : (low high : ℕ) → low ≤ high → (os : List (List ℕ)) (ts : List (List A)) → length (chosen os high ts) ≡ length (chosen os low ts) + length (added os low high ts)
  length_added low high le os ts = omega (arith, sum_kept (λ _. 1) low high le (numbered os ts), ones (chosen os high ts), ones (chosen os low ts), ones (added os low high ts))

pub as_many_as_the_bound : (A : Type 0) → AsManyAsTheBound A
as_many_as_the_bound A orders trails m bound drawn have le =
    let entries = numbered orders trails in
    length-map (filter (λ (e : ℕ × A). is_between 0 bound e.0) entries) _ ∙ length-filter (λ (e : ℕ × A). is_between 0 bound e.0) entries
    ∙ sym (sum_by-map (λ n. cond (is_between 0 bound n) 1 0) (λ (e : ℕ × A). e.0) entries) ∙ ap (less_in bound) (parts_are orders trails have).0
    ∙ sym (sum_by-IsPermutation (λ n. cond (is_between 0 bound n) 1 0) (concat orders) (below m) drawn.each_once) ∙ less_below bound m ∙ omega arith

pub higher_bound_keeps : (P : Type 0) → HigherBoundKeeps P
higher_bound_keeps P orders trails low high c le =
    omega (arith, sum_kept (λ n. one_if c n.cluster) low high le (numbered orders trails), sum_by-map (one_if c) cluster_in (chosen orders low trails), sum_by-map (one_if c) cluster_in (chosen orders high trails))

-- ---- entries in place of others

module _ {A B : Type 0} (f : A → B) (low high : ℕ) where
  kept_mapped : (ns : List ℕ) (ts : List A) → map f (kept low high (zip ns ts)) ≡ kept low high (zip ns (map f ts))
  kept_mapped (n ∷ ns) (t ∷ ts) = grind (arith, kept_mapped ns ts)
  kept_mapped ns ts = refl

  pub added_mapped : (os : List (List ℕ)) (ts : List (List A)) → map f (added os low high ts) ≡ added os low high (map (map f) ts)
  added_mapped (o ∷ os) (t ∷ ts) = grind (arith, kept_both, map-append, kept_mapped, added_mapped os ts)
  added_mapped os ts = refl

-- The clusters that were noted first
once_at_most : (x m : ℕ) → once_below x m ≤ 1
once_at_most x m = grind (arith, common_steps)

-- ---- the sets

module _ {os ds : List (List ℕ)} {clusters : ℕ} (noted : AreNoted os ds clusters) where
  within : (x b : ℕ) → times x (noted_before os ds b) ≤ once_below x clusters
  within x b = omega (arith, kept_among (one_if x) os ds 0 b noted.many, ap (times x) (concat_is ds), times_permuted x (concat ds) (below clusters) noted.unite.each_once, times_below x clusters)

  -- as many as the bound says
  chosen_many : (b : ℕ) → b ≤ clusters → length (noted_before os ds b) ≡ b
  chosen_many b le = as_many_as_the_bound ℕ os ds clusters b noted.drawn noted.many le

  abbrev IsChosenBefore : ℕ → ℕ → Bool
  IsChosenBefore b c = nat_lt 0 (times c (noted_before os ds b))

  set_times : (b x : ℕ) → times x (set_before os ds clusters b) ≡ times x (noted_before os ds b)
  set_times b x = grind (arith, common_steps, times_filter (IsChosenBefore b) x (below clusters), within x b, times_below x clusters, once_at_most x clusters)

  pub set_rises : (b : ℕ) → IsStrictlyIncreasing (set_before os ds clusters b)
  set_rises b = IsStrictlyIncreasing-filter (IsChosenBefore b) (below clusters) (below_rises clusters)

  pub set_within : (b : ℕ) → Every (λ x. x < clusters) (set_before os ds clusters b)
  set_within b = All-filter (IsChosenBefore b) (λ x. x < clusters) (below clusters) (all_below clusters)

  pub set_many : (b : ℕ) → b ≤ clusters → length (set_before os ds clusters b) ≡ b
  set_many b le =
      length_permutation (noted_before os ds b) (set_before os ds clusters b) (permuted_by_counts (set_before os ds clusters b) (noted_before os ds b) (λ x. sym (set_times b x))) ∙ chosen_many b le

  set_adds : (x low high : ℕ) → low ≤ high → times x (set_before os ds clusters high) ≡ times x (set_before os ds clusters low) + times x (added os low high ds)
  set_adds x low high le = omega (arith, set_times high x, set_times low x, sum_kept (one_if x) low high le (numbered os ds))

  -- a higher bound leaves none out
  pub set_grows : (low high : ℕ) → low ≤ high → Every (Contains (set_before os ds clusters high)) (set_before os ds clusters low)
  set_grows low high le = λ k d lt.
      let xs = set_before os ds clusters low in
      times_contains (get_or xs k d) (set_before os ds clusters high) (omega (arith, set_adds (get_or xs k d) low high le, stands_there xs k d lt))

-- ---- a watched place

module _ (facts : LoopFacts) (place : ℕ) where
  trails_told : (ds : List (List ℕ)) (ts : List (List (Noted WatchPiece))) → AreTrails facts place ds ts → map (map cluster_in) ts ≡ ds
  trails_told [] [] h = refl
  trails_told (d ∷ ds) (t ∷ ts) h =
      ap₂ (λ x y. x ∷ y) (h.each 0 d t refl refl).clusters (trails_told ds ts record { many = (let m = h.many in omega arith); each = λ k e s a b. h.each (suc k) e s a b })
  trails_told ds ts h = (let m = h.many in absurd (omega arith))

-- ---- lines

module _ (facts : LoopFacts) (place : ℕ) where
  lines_push : (sets : List (List ℕ)) (ls : List PartialLine) (set : List ℕ) (l : PartialLine) → ArePartialLines facts place sets ls → IsPartialLine facts place set l → ArePartialLines facts place (sets ++ set ∷ []) (ls ++ l ∷ [])
  lines_push [] [] set l h k = (k, tt)
  lines_push (s ∷ ss) (m ∷ ms) set l h k = (h.0, lines_push ss ms set l h.1 k)
  lines_push ss ms set l h k = elim h [ ]

  pub lines_next : (f : ℕ → List ℕ) (j : ℕ) (ls now : List PartialLine) (l : PartialLine)
      → ArePartialLines facts place (map f (below j)) ls → IsPartialLine facts place (f j) l → now ≡ ls ++ l ∷ [] → ArePartialLines facts place (map f (below (j + 1))) now
  lines_next f j ls now l h one is = grind (arith, map-append, lines_push)

  line_in : (sets : List (List ℕ)) (ls : List PartialLine) (j : ℕ) (set : List ℕ) (l : PartialLine) → ArePartialLines facts place sets ls → slice_get sets j ≡ Some set → slice_get ls j ≡ Some l → IsPartialLine facts place set l
  line_in [] ls j set l h at there = absurd (cc)
  line_in (s ∷ ss) [] j set l h at there = elim h [ ]
  line_in (s ∷ ss) (m ∷ ms) zero set l h at there = grind arith
  line_in (s ∷ ss) (m ∷ ms) (suc j) set l h at there = line_in ss ms j set l h.1 at there

-- ---- the next line of a watched place

module _ {os : List (List ℕ)} {clusters : ℕ} {ts : List (List (Noted WatchPiece))} (w : WatchedPlace os clusters ts) where
  abbrev pub set_at : ℕ → List ℕ
  set_at b = set_before os w.dones clusters b

  abbrev pub StandsAt : List ℕ → WatchPiece → Type 0
  StandsAt = WatchStandsFor (watch_facts w.facts w.place)

  told : map (map cluster_in) ts ≡ w.dones
  told = trails_told w.facts w.place w.dones ts w.are

  pub have_numbers : HaveNumbers os ts
  have_numbers = w.noted.many ∙ ap (map length) (sym told) ∙ map-map length (map cluster_in) ts ∙ (λ i. map (λ (t : List (Noted WatchPiece)). length-map t cluster_in i) ts)

  -- each entry between two bounds stands for its cluster alone
  pub alone_added : (low high : ℕ) → AreAlone StandsAt (added os low high ts)
  alone_added low high = all_added (λ (n : Noted WatchPiece). StandsAt (n.cluster ∷ []) n.piece) os ts low high have_numbers
      (λ k d lt. (let many = w.are.many in (w.are.each k (get_or w.dones k []) (get_or ts k d) (slice_get-get_or w.dones k [] (omega arith)) (slice_get-get_or ts k d lt)).alone))

  module _ (step : ℕ) (ls : List PartialLine) (some : 0 < step) (so_far : AreLinesSoFar os clusters w.facts w.place w.dones step ls) where
    abbrev low : ℕ
    low = length ls * step

    bound : low + step ≤ clusters
    bound = omega (arith, so_far.within)

    -- the clusters that the last line has, and those that the next one has
    abbrev pub olds : List ℕ
    olds = set_at low

    abbrev pub grown : List ℕ
    grown = set_at ((length ls + 1) * step)

    abbrev pub news : List ℕ
    news = map cluster_in (added os low (low + step) ts)

    news_are : news ≡ added os low (low + step) w.dones
    news_are = added_mapped cluster_in low (low + step) os ts ∙ ap (added os low (low + step)) told

    grows : (x : ℕ) → times x grown ≡ times x olds + times x news
    grows x = let next : (length ls + 1) * step ≡ low + step = omega arith in ap (λ b. times x (set_at b)) next ∙ omega (arith, set_adds w.noted x low (low + step) (omega arith), ap (times x) news_are)

    -- each of the next line is a cluster, and stands there once
    once_in : (x : ℕ) → times x grown ≤ once_below x clusters
    once_in x = omega (arith, set_times w.noted ((length ls + 1) * step) x, within w.noted x ((length ls + 1) * step))

    pub added_once : (x : ℕ) → times x news ≤ 1
    added_once x = omega (arith, grows x, once_in x, once_at_most x clusters)

    pub added_some : 0 < length (added os low (low + step) ts)
    added_some = omega (
      arith,
      length-map (added os low (low + step) ts) cluster_in,
      ap length news_are,
      length_added low (low + step) (omega arith) os w.dones,
      chosen_many w.noted low (omega (arith, bound)),
      chosen_many w.noted (low + step) bound,
    )

    module _ (cs : List ℕ) (named : IsStrictlyIncreasing cs × IsPermutation news cs) where
      -- the first line has these alone
      pub first_set : length ls ≡ 0 → cs ≡ grown
      first_set first =
          let none : olds ≡ [] = nil_from_length olds (set_many w.noted low (omega (arith, bound)) ∙ ap (λ n. n * step) first ∙ omega arith) in
          same_rising cs grown (rises_from cs named.0) (rises_from grown (set_rises w.noted ((length ls + 1) * step))) (λ x. omega (arith, grows x, times_permuted x news cs named.1, ap (times x) none))

      -- the next one has those of the one before, and those that were added
      pub set_grown : IsUnion (olds ∷ cs ∷ []) grown
      set_grown =
          by_counts (olds ∷ cs ∷ []) grown (both_rise olds cs (set_rises w.noted low) named.0) (set_rises w.noted ((length ls + 1) * step)) (λ x. omega (arith, grows x, times_permuted x news cs named.1, two x olds cs))

      pub few_added : Every (λ x. x < 4294967295) cs
      few_added = λ k d lt.
          let x = get_or cs k d in
          let inside = inside_once x clusters (omega (arith, stands_there cs k d lt, times_permuted x news cs named.1, grows x, once_in x)) in
          omega (arith, so_far.few)

    -- the last of the lines so far
    pub line_before : (l : PartialLine) → (length ls ≡ 0 → ⊥) → l ≡ get_or ls (length ls - 1) l → IsPartialLine w.facts w.place olds l
    line_before l any is =
        let n = length ls in
        let f = λ (j : ℕ). set_at ((j + 1) * step) in
        let same : n - 1 + 1 ≡ n = omega arith in
        subst (λ (k : ℕ). IsPartialLine w.facts w.place (set_at (k * step)) l) same (line_in w.facts w.place (map f (below n)) ls (n - 1) (f (n - 1)) l so_far.are
        (slice_get-map f (below n) (n - 1) ∙ ap (option_map f) (slice_get-below n (n - 1) (omega arith))) (slice_get-get_or ls (n - 1) l (omega arith) ∙ ap Some (sym is)))

-- ---- The sets after every so many clusters are a chain.

-- a multiple that is counted is no greater than the number
pub multiple_below : (c g j : ℕ) → j < c / g → (j + 1) * g ≤ c
multiple_below c g j lt = grind arith

-- an item of a list by numbers
pub at_below : {A : Type 0} (f : ℕ → A) (n j : ℕ) (x : A) → slice_get (map f (below n)) j ≡ Some x → (j < n) × (f j ≡ x)
at_below f n j x h = grind (arith, slice_get_within, length-map, length-below, same_some, slice_get-map, slice_get-below)

module _ (os ds : List (List ℕ)) (clusters step : ℕ) (noted : AreNoted os ds clusters) where
  abbrev set_after : ℕ → List ℕ
  set_after j = set_before os ds clusters ((j + 1) * step)

  pub is_chain : IsChain clusters step (chain_of os ds clusters step)
  is_chain = record {
    count = length-map (below (clusters / step)) set_after ∙ length-below (clusters / step);
    sizes = λ j set at. (let b = at_below set_after (clusters / step) j set at in ap length (sym b.1) ∙ set_many noted ((j + 1) * step) (multiple_below clusters step j b.0));
    rising = λ j set at. (let b = at_below set_after (clusters / step) j set at in subst IsStrictlyIncreasing b.1 (set_rises noted ((j + 1) * step)));
    clusters = λ j set at. (let b = at_below set_after (clusters / step) j set at in subst (All (λ x. x < clusters)) b.1 (set_within noted ((j + 1) * step)));
    nested = λ j set next at after.
        (let b = at_below set_after (clusters / step) j set at in
        let a = at_below set_after (clusters / step) (j + 1) next after in
        let more : (j + 1) * step ≤ (j + 1 + 1) * step = mul-le-mul_right step (omega arith) in
        subst (λ (l : List ℕ). All (Contains l) set) a.1 (subst (All (Contains (set_after (j + 1)))) b.1 (set_grows noted ((j + 1) * step) ((j + 1 + 1) * step) more)));
  }
