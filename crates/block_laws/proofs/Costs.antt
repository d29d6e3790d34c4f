-- What blocks demand, one after another.
use Rattle.rdf_model.proofs.Faults.{first_of-assoc}
use Rattle.lemmas.proofs.{add-one, ◌≡◌, ◌⊎◌, inl, inr, ℕ, zero, suc, ◌+◌, ◌<◌, ◌≤◌, Bool, true, false, List, [], ◌∷◌, length, map, take, drop, refl, ap, arith, if◌then◌else◌, min, sum, ◌++◌, Option, ◌∙◌, ◌-◌, slice_range, Some, sym, None, is_some, slice_get, All, count_by, map_length, sum_by-cons, drop_plus, range_length, take-add, drop-append_seam, drop-map, sum_by, AllByRecursion, recursion_from_All, slice_index_or}
use Rattle.rdf_values.specs.{Span, Value, Fault, Pass}
use Rattle.block_laws.specs.{blocks_from, blocks_of, first_length, IsFirst, more_fit, one_more_fits, row_elements, blocks_demand, cluster_blocks, cluster_demands, CountGoesOn, rows_demand, up_to_fault, marked_at, marked_in}
use Rattle.rdf_model.specs.{Dataset, first_fault_from, first_of, first_fault_in}

-- ---- the first block and those behind it, each as long as it may be

sum_more : (c : ℕ) (cs : List ℕ) → sum (c ∷ cs) ≡ c + sum cs
sum_more c cs = sum_by-cons (λ n. n) c cs

module _ (size most : ℕ) where
  abbrev FirstThenRest : ℕ → ℕ → List ℕ → List Span
  FirstThenRest lo m cs = record { lo = lo; hi = lo + m } ∷ blocks_of size most (lo + m) cs

  first_from : (cs : List ℕ) (lo n s : ℕ) → blocks_from size most lo n s cs ≡ FirstThenRest lo (n + more_fit size most n s cs) (drop (more_fit size most n s cs) cs)
  first_from [] lo n s = let e : n ≡ n + 0 = omega arith in ap (λ m. FirstThenRest lo m []) e
  first_from (c ∷ cs) lo n s = grind (arith, first_from cs lo (suc n) (s + c))

  pub blocks_go_on : (lo : ℕ) (costs : List ℕ) → 1 ≤ length costs
      → blocks_of size most lo costs ≡ record { lo = lo; hi = lo + first_length size most costs } ∷ blocks_of size most (lo + first_length size most costs) (drop (first_length size most costs) costs)
  blocks_go_on lo costs h = grind (arith, first_from)

  -- ---- it is as long as it may be

  record Ends (n s m : ℕ) (cs : List ℕ) : Type 0 where
    pub within : m ≤ length cs
    pub small : n + m ≤ size
    pub few : (m ≡ 0) ⊎ (s + sum (take m cs) ≤ most)
    pub full : m < length cs → (n + m ≡ size) ⊎ (most < s + sum (take (suc m) cs))

  fits : (n s c : ℕ) → one_more_fits size most n s c ≡ true → (n < size) × (s + c ≤ most)
  fits n s c h = grind (arith, h)

  none_more : (n s c : ℕ) (cs : List ℕ) → n ≤ size → (size ≤ n) ⊎ (most < s + c) → (n + 0 ≡ size) ⊎ (most < s + sum (c ∷ []))
  none_more n s c cs h k = grind (arith, sum_more)

  ends : (cs : List ℕ) (n s : ℕ) → n ≤ size → Ends n s (more_fit size most n s cs) cs
  ends [] n s h = record { within = omega arith; small = omega (arith, h); few = inl refl; full = λ k. absurd (omega (arith, k)) }
  ends (c ∷ cs) n s h = go (one_more_fits size most n s c) refl (ends cs (suc n) (s + c))
    where
      go : (b : Bool) → one_more_fits size most n s c ≡ b → (suc n ≤ size → Ends (suc n) (s + c) (more_fit size most (suc n) (s + c) cs) cs)
          → Ends n s (if b then suc (more_fit size most (suc n) (s + c) cs) else 0) (c ∷ cs)
      go true e next = grind (arith, sum_more)
      go false e next = grind (arith, none_more)

  pub first_is : (costs : List ℕ) → 1 ≤ size → 1 ≤ length costs → IsFirst size most costs (first_length size most costs)
  first_is [] one h = absurd (omega (arith, h))
  first_is (c ∷ cs) one h =
      let r = ends cs 1 c one in
      record {
        some = omega arith;
        within = omega (arith, r.within);
        small = omega (arith, r.small);
        few = (let few = r.few in grind (arith, sum_more));
        full = λ k. last_sum (r.full (omega (arith, k)));
      }
    where
      last_sum : (1 + more_fit size most 1 c cs ≡ size) ⊎ (most < c + sum (take (suc (more_fit size most 1 c cs)) cs))
          → (suc (more_fit size most 1 c cs) ≡ size) ⊎ (most < sum (take (suc (more_fit size most 1 c cs) + 1) (c ∷ cs)))
      last_sum (inl e) = inl (omega (arith, e))
      last_sum (inr k) = inr (rw add-one (omega (arith, k, sum_more c (take (suc (more_fit size most 1 c cs)) cs))))

-- ---- without elements

none_of_them : (rows : List (List Value)) (n : ℕ) → sum (take n (map (row_elements 0) rows)) ≡ 0
none_of_them rows zero = refl
none_of_them [] (suc n) = refl
none_of_them (row ∷ rows) (suc n) = grind (arith, sum_more, none_of_them rows n)

pub plain_first : (size most : ℕ) (rows : List (List Value)) → 1 ≤ size → first_length size most (map (row_elements 0) rows) ≡ min size (length rows)
plain_first size most rows one = grind (arith, first_is, map_length, none_of_them)

-- ---- the first fault of rows in two parts

first_fault-append : (d : Dataset) (xs ys : List (List Value)) (e : ℕ) (ps : List Pass) → first_fault_from d e (xs ++ ys) ps ≡ first_of (first_fault_from d e xs ps) (first_fault_from d (e + length xs) ys ps)
first_fault-append d [] ys e ps = let same : e ≡ e + 0 = omega arith in ap (λ k. first_fault_from d k ys ps) same
first_fault-append d (x ∷ xs) ys e ps = grind (arith, first_of-assoc, first_fault-append d xs ys (e + 1) ps)

-- ---- rows in two parts

pub range_split : {A : Type 0} (xs : List A) (lo mid hi : ℕ) → lo ≤ mid → mid ≤ hi → slice_range xs lo hi ≡ slice_range xs lo mid ++ slice_range xs mid hi
range_split xs lo mid hi h k =
    let at : lo + (mid - lo) ≡ mid = omega (arith, h) in
    let all : hi - lo ≡ (mid - lo) + (hi - mid) = omega (arith, h, k) in
    ap (λ n. take n (drop lo xs)) all ∙ take-add (mid - lo) (hi - mid) (drop lo xs)
    ∙ ap (λ l. take (mid - lo) (drop lo xs) ++ take (hi - mid) l) (drop_plus lo (mid - lo) xs ∙ ap (λ n. drop n xs) at)

pub block_then_rest : (d : Dataset) (rows : List (List Value)) (ps : List Pass) (lo mid hi : ℕ) → lo ≤ mid → mid ≤ hi → hi ≤ length rows
    → first_fault_from d lo (slice_range rows lo hi) ps ≡ first_of (first_fault_from d lo (slice_range rows lo mid) ps) (first_fault_from d mid (slice_range rows mid hi) ps)
block_then_rest d rows ps lo mid hi h k l =
    let len = range_length rows lo mid h (omega (arith, k, l)) in
    let same : lo + length (slice_range rows lo mid) ≡ mid = omega (arith, len, h) in
    ap (λ x. first_fault_from d lo x ps) (range_split rows lo mid hi h k)
    ∙ first_fault-append d (slice_range rows lo mid) (slice_range rows mid hi) lo ps
    ∙ ap (λ e. first_of (first_fault_from d lo (slice_range rows lo mid) ps) (first_fault_from d e (slice_range rows mid hi) ps)) same

module _ (d : Dataset) (ps : List Pass) where
  row_fault_anywhere : (qs : List Pass) (e k n : ℕ) (row : List Value) → is_some (first_fault_in d e n row qs) ≡ is_some (first_fault_in d k n row qs)
  row_fault_anywhere [] e k n row = refl
  row_fault_anywhere (p ∷ qs) e k n row = grind (arith, row_fault_anywhere qs e k (n + 1) row)

  pub fault_anywhere : (rows : List (List Value)) (e k : ℕ) → is_some (first_fault_from d e rows ps) ≡ is_some (first_fault_from d k rows ps)
  fault_anywhere [] e k = refl
  fault_anywhere (row ∷ rows) e k = grind (arith, row_fault_anywhere, fault_anywhere rows (e + 1) (k + 1))

  -- those behind a block count where no pass faults in it
  faulted_behind : (x : List (List Value)) (bs : List (List (List Value))) (e : ℕ) (o : Option Fault) → first_fault_from d e x ps ≡ o
      → blocks_demand d ps (x ∷ bs) ≡ rows_demand d ps x + sum_by (rows_demand d ps) (if is_some o then [] else up_to_fault d ps bs)
  faulted_behind x bs e o h = ap (λ b. sum_by (rows_demand d ps) (x ∷ (if b then [] else up_to_fault d ps bs))) (fault_anywhere x 0 e ∙ ap is_some h) ∙ sum_by-cons (rows_demand d ps) x (if is_some o then [] else up_to_fault d ps bs)

  -- ---- the blocks of a cluster

  -- the elements of the entries behind the first so many
  costs_behind : (keys lo mid hi : ℕ) → lo ≤ mid → mid ≤ hi → hi ≤ length d.rows
      → drop (mid - lo) (map (row_elements keys) (slice_range d.rows lo hi)) ≡ map (row_elements keys) (slice_range d.rows mid hi)
  costs_behind keys lo mid hi h k l =
      let first = slice_range d.rows lo mid in
      let len : length first ≡ mid - lo = range_length d.rows lo mid h (omega (arith, k, l)) in
      drop-map (row_elements keys) (mid - lo) (slice_range d.rows lo hi)
      ∙ ap (λ xs. map (row_elements keys) (drop (mid - lo) xs)) (range_split d.rows lo mid hi h k)
      ∙ ap (λ n. map (row_elements keys) (drop n (first ++ slice_range d.rows mid hi))) (sym len)
      ∙ ap (map (row_elements keys)) (drop-append_seam first (slice_range d.rows mid hi))

  cluster_goes_on : (size keys lo mid hi : ℕ) → lo < hi → hi ≤ length d.rows → mid ≡ lo + first_length size 4194304 (map (row_elements keys) (slice_range d.rows lo hi)) → mid ≤ hi
      → cluster_demands d ps size keys lo hi ≡ blocks_demand d ps (slice_range d.rows lo mid ∷ map (λ (s : Span). slice_range d.rows s.lo s.hi) (cluster_blocks size keys d.rows mid hi))
  cluster_goes_on size keys lo mid hi h l e k =
      let costs = map (row_elements keys) (slice_range d.rows lo hi) in
      let n = first_length size 4194304 costs in
      let len = map_length (row_elements keys) (slice_range d.rows lo hi) in
      let all = range_length d.rows lo hi (omega (arith, h)) l in
      let less : mid - lo ≡ n = omega (arith, e) in
      let whole = blocks_go_on size 4194304 lo costs (omega (arith, len, all, h)) in
      let behind_it = costs_behind keys lo mid hi (omega (arith, e)) k l in
      ap (λ (ss : List Span). blocks_demand d ps (map (λ (s : Span). slice_range d.rows s.lo s.hi) ss)) whole
      ∙ ap (λ m. blocks_demand d ps (slice_range d.rows lo m ∷ map (λ (s : Span). slice_range d.rows s.lo s.hi) (blocks_of size 4194304 m (drop n costs)))) (sym e)
      ∙ ap (λ m. blocks_demand d ps (slice_range d.rows lo mid ∷ map (λ (s : Span). slice_range d.rows s.lo s.hi) (blocks_of size 4194304 mid (drop m costs)))) (sym less)
      ∙ ap (λ cs. blocks_demand d ps (slice_range d.rows lo mid ∷ map (λ (s : Span). slice_range d.rows s.lo s.hi) (blocks_of size 4194304 mid cs))) behind_it

pub count_goes_on : CountGoesOn
count_goes_on d ps size keys lo mid hi h l e k =
    let same = cluster_goes_on d ps size keys lo mid hi h l e k in
    let b = slice_range d.rows lo mid in
    let bs = map (λ (s : Span). slice_range d.rows s.lo s.hi) (cluster_blocks size keys d.rows mid hi) in (
      λ at f q. same ∙ faulted_behind d ps b bs at (Some f) q ∙ omega arith,
      λ at q. same ∙ faulted_behind d ps b bs at None q,
      omega (arith, same, faulted_behind d ps b bs 0 _ refl),
      grind arith,
    )

-- ---- marked places, counted by lanes and by rows

abbrev mark : Bool → ℕ
mark b = if b then 1 else 0

-- the lanes without their first place
abbrev behind : List (List Bool) → List (List Bool)
behind lanes = map (drop 1) lanes

-- how many places of a lane are marked
abbrev own : List Bool → ℕ
own l = count_by (λ b. b) l

lane_more : (l : List Bool) (ls : List (List Bool)) → marked_in (l ∷ ls) ≡ own l + marked_in ls
lane_more l ls = sum_by-cons own l ls

at_more : (l : List Bool) (ls : List (List Bool)) (i : ℕ) → marked_at (l ∷ ls) i ≡ mark (slice_index_or l i false) + marked_at ls i
at_more l ls i = sum_by-cons (λ (x : List Bool). mark (slice_index_or x i false)) l ls

own_first : (l : List Bool) → own l ≡ mark (slice_index_or l 0 false) + own (drop 1 l)
own_first [] = refl
own_first (b ∷ bs) = sum_by-cons mark b bs

first_place : (lanes : List (List Bool)) → marked_in lanes ≡ marked_at lanes 0 + marked_in (behind lanes)
first_place [] = refl
first_place (l ∷ ls) = omega (arith, lane_more l ls, at_more l ls 0, lane_more (drop 1 l) (behind ls), own_first l, first_place ls)

later_place : (lanes : List (List Bool)) (i : ℕ) → marked_at (behind lanes) i ≡ marked_at lanes (suc i)
later_place [] i = refl
later_place (l ∷ ls) i = grind (arith, at_more (drop 1 l) (behind ls) i, at_more l ls (suc i), later_place ls i)

none_marked : (lanes : List (List Bool)) → AllByRecursion (λ (l : List Bool). length l ≤ 0) lanes → marked_in lanes ≡ 0
none_marked [] h = refl
none_marked ([] ∷ ls) h = let a = lane_more [] ls in let b = none_marked ls h.1 in omega (arith, a, b)
none_marked ((b ∷ bs) ∷ ls) h = let l = h.0 in absurd (omega (arith, l))

shorter : (n : ℕ) (lanes : List (List Bool)) → AllByRecursion (λ (l : List Bool). length l ≤ suc n) lanes → AllByRecursion (λ (l : List Bool). length l ≤ n) (behind lanes)
shorter n [] h = tt
shorter n ([] ∷ ls) h = (omega arith, shorter n ls h.1)
shorter n ((b ∷ bs) ∷ ls) h = let l = h.0 in (omega (arith, l), shorter n ls h.1)

within : {R : Type 0} (rows : List R) (lanes : List (List Bool)) (f : R → ℕ) → AllByRecursion (λ (l : List Bool). length l ≤ length rows) lanes
    → ((i : ℕ) (row : R) → slice_get rows i ≡ Some row → marked_at lanes i ≤ f row) → marked_in lanes ≤ sum_by f rows
within [] lanes f h k = let e = none_marked lanes h in omega (arith, e)
within (r ∷ rs) lanes f h k =
    let rest = within rs (behind lanes) f (shorter (length rs) lanes h) (λ i row q. omega (arith, later_place lanes i, k (suc i) row q)) in
    omega (arith, first_place lanes, k 0 r refl, rest, sum_by-cons f r rs)

pub marked_within : {R : Type 0} (lanes : List (List Bool)) (rows : List R) (f : R → ℕ) → All (λ (l : List Bool). length l ≤ length rows) lanes
    → ((i : ℕ) (row : R) → slice_get rows i ≡ Some row → marked_at lanes i ≤ f row) → marked_in lanes ≤ sum_by f rows
marked_within lanes rows f h k = within rows lanes f (recursion_from_All (λ (l : List Bool). length l ≤ length rows) lanes h) k
