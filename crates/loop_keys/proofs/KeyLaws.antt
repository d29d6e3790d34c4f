-- The keys of sites: they differ, one after another, and where what is read of an entry stands under each.
use Rattle.lemmas.proofs.{◌≡◌, ℕ, zero, suc, ◌+◌, ◌<◌, ◌≤◌, Bool, true, false, cond, List, [], ◌∷◌, length, take, Option, Some, None, refl, sym, ◌∙◌, ap, arith, slice_get, if◌then◌else◌, count_by, add-one, ◌++◌, subst, get_or, ◌||◌, nat_eq, All, unwrap_or, flat_map, get_or-set_same, get_or-set_other, slice_set, cases_order, something_at, sum_by-cons, take_all, take-take, cases_lt, get_or_from_slice_get, get_or_past, slice_get_past, Decides-eqb, list_any, recursion_from_All, All-from_recursion, cases_eq, sum_by-set}
use Rattle.std.proofs.lemmas.List.Sums.{sum_by-take-le}
use Rattle.rdf_values.specs.{Column, Function, Statement, Under, Value, Variation, variations, fn_names, history}
use Rattle.rdf_model.specs.{Outcome, Demand, projected, demanded, distinct, pass_demands, same_demand}
use Rattle.rdf_model.proofs.Analyses.{unvaried_site}
use Rattle.graph_numbers.specs.{depends_on, graph_sites, graph_variations, GraphView, holds_at, site_outcome, SiteAt, under_at, site_depends_at, graph_sources, Source, source_in, graph_under, HasSourceIn, IsSiteExpr}
use Rattle.graph_numbers.proofs.Placing.{by_test, AreExplained}
use Rattle.loop_keys.specs.{key, key_count, keys_before, own_keys, slot, slot_at, slot_in, AreEach, AreKeys, AreUnder, IsRow, key_or_count, key_under, ValuePlace, place_of, Row, row_under, demand_key, HasAllKeys, IsClosed, IsJob, IsSourceIn, job_graph, JobView, keys_in, row_of, source_at, under_number, entry_demands, HasAllDemands, passes_in, CanLook, Grows, Held, held_count, held_in, is_held, IsFilled, IsRight, IsSiteOf, IsSound, OnlyIn, site_in}
use Rattle.graph.specs.{has, members_below, VarSet}
use Rattle.loop_keys.proofs.EvaluateLaws.{more_each, read_each, any_in, at_in, in_any, each_in, in_flat, of_option, accepted_of}
use Rattle.graph_numbers.proofs.Closing.{IsDemanded, closed}
use Rattle.rdf_values.proofs.KeptLemmas.{In, here, there}
use Rattle.graph_numbers.proofs.Apart.{site_number, variation_number}
use Rattle.rdf_model.proofs.Demands.{demand_is}
use Rattle.expr_check.specs.{CheckedExpr}
use Rattle.loop_keys.specs.declared.reading.Held.TheVariants.{Nothing}

-- ---- counts

pub counted : {A : Type 0} (p : A → Bool) (x : A) (xs : List A) → count_by p (x ∷ xs) ≡ cond (p x) 1 0 + count_by p xs
counted p x xs = sum_by-cons (λ y. cond (p y) 1 0) x xs

one_more : {A : Type 0} (p : A → Bool) (n : ℕ) (xs : List A) → count_by p (take (suc n) xs) ≡ count_by p (take n xs) + (if holds_at p (slice_get xs n) then 1 else 0)
one_more p zero (x ∷ xs) = grind (arith, counted)
one_more p (suc n) (x ∷ xs) = let a = counted p x (take (suc n) xs) in let b = counted p x (take n xs) in let c = one_more p n xs in omega (arith, a, b, c)
one_more p n xs = refl

-- before a place whose element counts there are fewer than in all
taken_fewer : {A : Type 0} (p : A → Bool) (v : ℕ) (xs : List A) → holds_at p (slice_get xs v) ≡ true → count_by p (take v xs) < count_by p xs
taken_fewer p v xs h = omega (arith, one_more p v xs, ap {B = ℕ} (λ q. if q then 1 else 0) h, sum_by-take-le (λ y. cond (p y) 1 0) xs (suc v))

-- and fewer than before a later place
taken_apart : {A : Type 0} (p : A → Bool) (v w : ℕ) (xs : List A) → v < w → holds_at p (slice_get xs v) ≡ true → count_by p (take v xs) < count_by p (take w xs)
taken_apart p v w xs lt h =
    let front = ap (count_by p) (take-take (suc v) w xs (omega arith)) in
    omega (arith, one_more p v xs, ap {B = ℕ} (λ q. if q then 1 else 0) h, front, sum_by-take-le (λ y. cond (p y) 1 0) (take w xs) (suc v))

-- ---- slots

module _ (vs : List Variation) (x : SiteAt) where
  pub slot_small : (u : Option ℕ) → slot vs x u < own_keys vs x
  slot_small u = grind (arith, by_test, taken_fewer)

module _ (script : List Statement) where
  abbrev vs : List Variation
  vs = variations script

  module _ {M : Type 0} (fns : List Function) (columns : List Column) (row : List Value) (x : SiteAt) where
    abbrev at : Under → Outcome M Value
    at u = site_outcome fns columns row x u

    as_nominal : (o : Option Variation) → holds_at (depends_on x) o ≡ false → at o ≡ at None
    as_nominal o h = grind (arith, unvaried_site)

    same_varied : (v w : ℕ) (a b : Bool) → holds_at (depends_on x) (slice_get vs v) ≡ a → holds_at (depends_on x) (slice_get vs w) ≡ b
        → (if a then suc (count_by (depends_on x) (take v vs)) else 0) ≡ (if b then suc (count_by (depends_on x) (take w vs)) else 0)
        → at (slice_get vs v) ≡ at (slice_get vs w)
    same_varied v w true true h k e = grind (arith, cases_order v w, taken_apart (depends_on x) v w vs, taken_apart (depends_on x) w v vs)
    same_varied v w false false h k e = as_nominal (slice_get vs v) h ∙ sym (as_nominal (slice_get vs w) k)
    same_varied v w a b h k e = cc e

    nominal_varied : (w : ℕ) (b : Bool) → holds_at (depends_on x) (slice_get vs w) ≡ b → 0 ≡ (if b then suc (count_by (depends_on x) (take w vs)) else 0) → at None ≡ at (slice_get vs w)
    nominal_varied w b k e = grind (arith, as_nominal)

    -- one slot, one outcome
    pub same_slot : (u w : Option ℕ) → slot vs x u ≡ slot vs x w → at (under_at script u) ≡ at (under_at script w)
    same_slot u w e = grind (arith, nominal_varied, same_varied)

-- ---- sites

module _ (vs : List Variation) where
  pub keys_none : (xs : List SiteAt) → keys_before vs xs 0 ≡ 0
  keys_none [] = refl
  keys_none (x ∷ xs) = refl

  pub keys_next : (xs : List SiteAt) (s : ℕ) (x : SiteAt) → slice_get xs s ≡ Some x → keys_before vs xs (suc s) ≡ keys_before vs xs s + own_keys vs x
  keys_next [] s x h = cc h
  keys_next (y ∷ xs) zero x h = let e : y ≡ x = cc h in let z = keys_none xs in let a : own_keys vs y ≡ own_keys vs x = ap (own_keys vs) e in omega (arith, z, a)
  keys_next (y ∷ xs) (suc s) x h = let e = keys_next xs s x h in omega (arith, e)

  pub keys_rise : (xs : List SiteAt) (s t : ℕ) → s ≤ t → keys_before vs xs s ≤ keys_before vs xs t
  keys_rise (y ∷ xs) (suc s) zero h = absurd (omega (arith, h))
  keys_rise (y ∷ xs) (suc s) (suc t) h = let e = keys_rise xs s t (omega (arith, h)) in omega (arith, e)
  keys_rise xs s t h = omega arith

  module _ (xs : List SiteAt) where
    abbrev at_key : ℕ → SiteAt → Option ℕ → ℕ
    at_key s x u = keys_before vs xs s + slot vs x u

    -- a site's keys end where those of the next one begin
    pub key_below : (s t : ℕ) (x : SiteAt) (u : Option ℕ) → slice_get xs s ≡ Some x → s < t → at_key s x u < keys_before vs xs t
    key_below s t x u h lt = grind (arith, keys_next, by_test, taken_fewer, keys_rise)

    -- the keys of two sites differ
    pub key_site : (s t : ℕ) (x y : SiteAt) (u w : Option ℕ) → slice_get xs s ≡ Some x → slice_get xs t ≡ Some y → at_key s x u ≡ at_key t y w → s ≡ t
    key_site s t x y u w h k e = grind (arith, cases_order s t, key_below s t x u h, key_below t s y w k)

pub key_is : (g : GraphView) (s : ℕ) (x : SiteAt) (u : Option ℕ) → slice_get (graph_sites g) s ≡ Some x → key g s u ≡ keys_before (graph_variations g) (graph_sites g) s + slot (graph_variations g) x u
key_is g s x u q = ap (λ o. keys_before (graph_variations g) (graph_sites g) s + slot_at (graph_variations g) o u) q

pub key_small : (g : GraphView) (s : ℕ) (u : Option ℕ) → s < length (graph_sites g) → key g s u < key_count g
key_small g s u inside =
    let x = something_at (graph_sites g) s inside in
    let b = key_below (graph_variations g) (graph_sites g) s (length (graph_sites g)) x.0 u x.1 inside in let c = key_is g s x.0 u x.1 in omega (arith, b, c)

-- ---- The keys of sites, one site after another: members and places

module _ {A : Type 0} (p : A → Bool) (xs : List A) (s : VarSet) (all : (v : ℕ) → has s v ≡ holds_at p (slice_get xs v)) where
  -- as many members are below a number as elements before that place pass the test
  pub members_counted : (n : ℕ) → members_below s n ≡ count_by p (take n xs)
  unfolding members_below
  members_counted zero = refl
  members_counted (suc n) =
      let a = members_counted n in let b = one_more p n xs in
      let c : ◌≡◌ {A = ℕ} (if has s n then 1 else 0) (if holds_at p (slice_get xs n) then 1 else 0) = ap (λ b. if b then 1 else 0) (all n) in omega (arith, a, b, c)

  -- none from a number on
  members_end : ((v : ℕ) → 128 ≤ v → has s v ≡ false) → (n : ℕ) → members_below s (n + 128) ≡ members_below s 128
  unfolding members_below
  members_end none zero = let e : 0 + 128 ≡ 128 = refl in ap (members_below s) e
  members_end none (suc n) =
      let e : suc n + 128 ≡ suc (n + 128) = omega arith in
      let a = members_end none n in
      let b : ◌≡◌ {A = ℕ} (if has s (n + 128) then 1 else 0) 0 = ap (λ b. if b then 1 else 0) (none (n + 128) (omega arith)) in
      ap (members_below s) e ∙ omega (arith, a, b)

  pub members_all : ((v : ℕ) → 128 ≤ v → has s v ≡ false) → members_below s 128 ≡ count_by p xs
  members_all none = sym (members_end none (length xs)) ∙ members_counted (length xs + 128) ∙ ap (count_by p) (take_all (length xs + 128) xs (omega arith))

-- ---- the keys of a site

module _ (g : GraphView) (s : ℕ) (inside : s < length (graph_sites g)) (depends : VarSet) (its : (v : ℕ) → has depends v ≡ site_depends_at g s v)
    (first : ℕ) (next : first ≡ keys_before (graph_variations g) (graph_sites g) s) where
  abbrev x : SiteAt
  x = (something_at (graph_sites g) s inside).0

  stands_there : slice_get (graph_sites g) s ≡ Some x
  stands_there = (something_at (graph_sites g) s inside).1

  depends_is : (v : ℕ) → has depends v ≡ holds_at (depends_on x) (slice_get (graph_variations g) v)
  depends_is v = its v ∙ ap (holds_at (λ y. holds_at (depends_on y) (slice_get (graph_variations g) v))) stands_there

  slot_is : (u : Option ℕ) → slot_in depends u ≡ slot (graph_variations g) x u
  slot_is u = grind (arith, depends_is, members_counted)

  pub here_key : (u : Option ℕ) → first + slot_in depends u ≡ key g s u
  here_key u = let a = slot_is u in let b = key_is g s x u stands_there in omega (arith, next, a, b)

  -- where the keys of the next site begin
  pub next_first : (count : ℕ) → count ≡ members_below depends 128 → ((v : ℕ) → 128 ≤ v → has depends v ≡ false) → first + (1 + count) ≡ keys_before (graph_variations g) (graph_sites g) (s + 1)
  next_first count e none =
      let a = members_all (depends_on x) (graph_variations g) depends depends_is none in
      let b = keys_next (graph_variations g) (graph_sites g) s x stands_there in
      rw add-one (omega (arith, next, a, b, e))

-- no sites
pub no_keys : (g : GraphView) → 0 ≡ keys_before (graph_variations g) (graph_sites g) 0
no_keys g = sym (keys_none (graph_variations g) (graph_sites g))

-- ---- Where what is read of an entry stands, and how it is found there: keys

pub key_read : (g : GraphView) (u : Option ℕ) (r : Row) → IsRow g u r → (s : ℕ) → s < length (graph_sites g) → (d : ℕ) → get_or r.keys s d < key_count g
key_read g u r row s inside d = grind (arith, read_each (λ s k. k ≡ key g s u) (length (graph_sites g)) r.keys row.keys s d inside, key_small g s u inside)

-- where there is no such site
key_past : (g : GraphView) (s : ℕ) (u : Option ℕ) → length (graph_sites g) ≤ s → key g s u ≡ key_count g
key_past g s u past = go (graph_sites g) s past
  where
    go : (xs : List SiteAt) (s : ℕ) → length xs ≤ s → keys_before (graph_variations g) xs s + slot_at (graph_variations g) (slice_get xs s) u ≡ keys_before (graph_variations g) xs (length xs)
    go [] s le = refl
    go (x ∷ xs) zero le = absurd (omega (arith, le))
    go (x ∷ xs) (suc s) le = let e = go xs s (omega (arith, le)) in omega (arith, e)

module _ (g : GraphView) (u : Option ℕ) (keys : List ℕ) (all : AreUnder g u keys) (count : ℕ) (is : count ≡ key_count g) where
  pub key_found : (s : ℕ) → key_or_count keys count s ≡ key g s u
  key_found s = grind (arith, cases_lt s (length (graph_sites g)), read_each (λ s k. k ≡ key g s u) (length (graph_sites g)) keys all s count, get_or_past keys s count, key_past g s u)

  pub place_found : (x : Source) → place_of (key_or_count keys count) x ≡ place_of (key_under g u) x
  place_found x = grind (arith, key_found)

  -- one more version
  pub more_places : (n : ℕ) (ps : List ValuePlace) → AreEach (λ c p. p ≡ place_of (key_under g u) (source_in (graph_sources g u) c)) n ps → (x : Source) → slice_get (graph_sources g u) n ≡ Some x
      → (p : ValuePlace) → p ≡ place_of (key_or_count keys count) x → (qs : List ValuePlace) → qs ≡ ps ++ p ∷ [] → AreEach (λ c q. q ≡ place_of (key_under g u) (source_in (graph_sources g u) c)) (n + 1) qs
  more_places n ps each x at p e qs q =
      let h : p ≡ place_of (key_under g u) (source_in (graph_sources g u) n) = e ∙ place_found x ∙ ap (place_of (key_under g u)) (sym (get_or_from_slice_get (graph_sources g u) n x (Source.Cell 0) at)) in
      more_each (λ c r. r ≡ place_of (key_under g u) (source_in (graph_sources g u) c)) n ps each p qs h q

-- one more variation
pub more_rows : (g : GraphView) (v : ℕ) (rs : List Row) → AreEach (λ i r. IsRow g (row_under i) r) (suc v) rs → (r : Row) → IsRow g (Some v) r → (qs : List Row) → qs ≡ rs ++ r ∷ [] → AreEach (λ i q. IsRow g (row_under i) q) (suc (v + 1)) qs
more_rows g v rs each r h qs q =
    let n : suc v + 1 ≡ suc (v + 1) = omega arith in
    subst (λ (m : ℕ). AreEach (λ i x. IsRow g (row_under i) x) m qs) n (more_each (λ i x. IsRow g (row_under i) x) (suc v) rs each r qs h q)

-- ---- a variation that isn't there

module _ (g : GraphView) (v : ℕ) (past : length (graph_variations g) ≤ v) where
  nominal_key : (s : ℕ) → key g s None ≡ key g s (Some v)
  nominal_key s = grind (arith, slice_get_past)

  pub as_nominal_row : (r : Row) → IsRow g None r → IsRow g (Some v) r
  as_nominal_row r h = grind (arith, nominal_key, slice_get_past)

-- ---- the row of nominal or a variation

module _ (g : GraphView) (rows : List Row) (all : AreKeys g rows) (u : Option ℕ) (r : Row) where
  nominal_row : r ≡ get_or rows 0 r → IsRow g None r
  nominal_row is = subst (λ (x : Row). IsRow g None x) (sym is) (read_each (λ i x. IsRow g (row_under i) x) (suc (length (graph_variations g))) rows all 0 r (omega arith))

  pub row_of_nominal : u ≡ None → r ≡ get_or rows 0 r → IsRow g u r
  row_of_nominal e is = subst (λ (w : Option ℕ). IsRow g w r) (sym e) (nominal_row is)

  module _ (v : ℕ) (e : u ≡ Some v) where
    pub row_of_none : length rows ≤ v + 1 → r ≡ get_or rows 0 r → IsRow g u r
    row_of_none past is = subst (λ (w : Option ℕ). IsRow g w r) (sym e) (as_nominal_row g v (let m = all.many in omega (arith, past, m)) r (nominal_row is))

    pub row_of_some : v + 1 < length rows → r ≡ get_or rows (v + 1) r → IsRow g u r
    row_of_some inside is = grind (arith, all.many, read_each (λ i x. IsRow g (row_under i) x) (suc (length (graph_variations g))) rows all (suc v) r)

-- ---- what a pass demands, as a set of sites by their keys; and how many keys that is: how many keys a list has

keys_of_two : (P Q : ℕ → Bool) (k n : ℕ) → keys_in (λ i. P i || Q i) k n ≤ keys_in P k n + keys_in Q k n
keys_of_two P Q k zero = omega arith
keys_of_two P Q k (suc n) = grind (arith, keys_of_two P Q (suc k) n)

-- none of the keys after a key
keys_past : (m k n : ℕ) → m < k → keys_in (λ i. nat_eq i m) k n ≡ 0
keys_past m k zero lt = refl
keys_past m k (suc n) lt = grind (arith, Decides-eqb k m, keys_past m (suc k) n)

keys_of_one : (m k n : ℕ) → keys_in (λ i. nat_eq i m) k n ≤ 1
keys_of_one m k zero = omega arith
keys_of_one m k (suc n) = grind (arith, Decides-eqb k m, keys_past m (suc k) n, keys_of_one m (suc k) n)

-- the keys of a list of demands are at most as many as these
pub keys_few : {A : Type 0} (f : A → ℕ) (ds : List A) (k n : ℕ) → keys_in (λ i. list_any (λ d. nat_eq i (f d)) ds) k n ≤ length ds
keys_few f [] k n = none k n
  where
    none : (k n : ℕ) → keys_in (λ i. false) k n ≤ 0
    none k zero = omega arith
    none k (suc n) = let z = none (suc k) n in omega (arith, z)
keys_few f (d ∷ ds) k n =
    let a = keys_of_two (λ i. nat_eq i (f d)) (λ i. list_any (λ x. nat_eq i (f x)) ds) k n in
    let b = keys_of_one (f d) k n in let c = keys_few f ds k n in omega (arith, a, b, c)

-- ---- the key of what an entry calls for is that of the site's number and the variation's

module _ (j : JobView) (job : IsJob j) where
  its_slot : (x : SiteAt) (u : Option ℕ) → slot (graph_variations (job_graph j)) x (under_number (job_graph j) (projected x.at x.expr (graph_under (job_graph j) u))) ≡ slot (graph_variations (job_graph j)) x u
  its_slot x u = grind (arith, by_test, variation_number, accepted_of)

  -- of a site under nominal or a variation
  pub demand_key_is : (s : ℕ) (x : SiteAt) (u : Option ℕ) → slice_get (graph_sites (job_graph j)) s ≡ Some x
      → demand_key (job_graph j) (record { site = x.site; under = projected x.at x.expr (graph_under (job_graph j) u) }) ≡ key (job_graph j) s u
  demand_key_is s x u q = grind (arith, site_number j.dataset.columns (fn_names j.dataset.fns) (history j.script) (accepted_of j job) s x q, its_slot x u)

-- ---- sites

module _ (j : JobView) (job : IsJob j) (entry : ℕ) (u : Option ℕ) (ds : List Demand)
    (explained : AreExplained j.dataset.fns j.dataset.columns (row_of j entry) (graph_under (job_graph j) u) (history j.script) ds) where
  -- the sites whose keys are those of demands
  abbrev pub in_demands : ℕ → Bool
  in_demands s = list_any (λ d. nat_eq (key (job_graph j) s u) (demand_key (job_graph j) d)) ds

  abbrev Demanded : ℕ → Type 0
  Demanded = IsDemanded j.dataset.fns j.dataset.columns (row_of j entry) (graph_under (job_graph j) u) (history j.script) (accepted_of j job) ds

  -- a demanded site is one of them
  pub demanded_in : (s : ℕ) → Demanded s → in_demands s ≡ true
  demanded_in s h = grind (arith, in_any, Decides-eqb, demand_key_is)

  -- and each of them is demanded
  pub in_demanded : (s : ℕ) (x : SiteAt) → slice_get (graph_sites (job_graph j)) s ≡ Some x → in_demands s ≡ true → Demanded s
  in_demanded s x q h = grind (arith, any_in, Decides-eqb, demand_key_is, key_site, key_is, In)

  source_by : (x : Source) → HasSourceIn Demanded x → IsSourceIn in_demands x
  source_by x h = grind (arith, demanded_in)

  -- the set has with each site those of the versions that its evaluation meets
  pub demands_closed : IsClosed j entry u in_demands
  demands_closed = record {
    each = λ s c h m. source_by (source_at j u c) (closed j.dataset.fns j.dataset.columns (row_of j entry) (graph_under (job_graph j) u) (history j.script) (accepted_of j job) ds explained s c m.0 m.1 (in_demanded s m.0 m.1 h) m.2);
  }

  -- a set of keys that has those of the demands has those of the sites
  pub demands_keys : (T : ℕ → Bool) → All (λ (d : Demand). T (demand_key (job_graph j) d) ≡ true) ds → HasAllKeys j u in_demands T
  demands_keys T all s h =
      let d = any_in (λ d. nat_eq (key (job_graph j) s u) (demand_key (job_graph j) d)) ds h in
      ap T ((Decides-eqb (key (job_graph j) s u) (demand_key (job_graph j) d.0)).0 d.2) ∙ at_in (λ (d : Demand). T (demand_key (job_graph j) d) ≡ true) d.0 ds (recursion_from_All (λ (d : Demand). T (demand_key (job_graph j) d) ≡ true) ds all) d.1

-- each demand is among those that are kept once
kept_once : (d : Demand) (ds : List Demand) → In d ds → In d (distinct ds)
kept_once d ds (here {xs = ps}) =
    by_test (list_any (same_demand d) (distinct ps)) (λ e. let w = any_in (same_demand d) (distinct ps) e in rw e (subst (λ (x : Demand). In x (distinct ps)) (sym (demand_is d w.0 w.2)) w.1)) (λ e. rw e here)
kept_once d ds (there {y = p} {xs = ps} h) = by_test (list_any (same_demand p) (distinct ps)) (λ e. rw e (kept_once d ps h)) (λ e. rw e (there (kept_once d ps h)))

-- ---- the keys of an entry's demands

module _ (j : JobView) (entry : ℕ) where
  abbrev all_demands : List Demand
  all_demands = demanded j.dataset.fns j.dataset.columns (row_of j entry) (passes_in j)

  abbrev pub keys_of_all : ℕ → Bool
  keys_of_all k = list_any (λ d. nat_eq k (demand_key (job_graph j) d)) all_demands

  pub has_all : HasAllDemands j entry keys_of_all
  has_all pass row p its_row its =
      let same_row : row_of j entry ≡ row = ap (λ o. unwrap_or o []) its_row in
      All-from_recursion (λ (d : Demand). keys_of_all (demand_key (job_graph j) d) ≡ true) (pass_demands j.dataset.fns j.dataset.columns row p)
      (each_in (λ (d : Demand). keys_of_all (demand_key (job_graph j) d) ≡ true) (pass_demands j.dataset.fns j.dataset.columns row p) (λ d k.
      in_any (λ e. nat_eq (demand_key (job_graph j) d) (demand_key (job_graph j) e)) d all_demands
      (kept_once d (flat_map (pass_demands j.dataset.fns j.dataset.columns (row_of j entry)) (passes_in j))
      (in_flat (pass_demands j.dataset.fns j.dataset.columns (row_of j entry)) (passes_in j) pass p d its
      (subst (λ (r : List Value). In d (pass_demands j.dataset.fns j.dataset.columns r p)) (sym same_row) k)))
      ((Decides-eqb (demand_key (job_graph j) d) (demand_key (job_graph j) d)).1 refl)))

  -- at most as many keys as demands
  pub few_keys : (n : ℕ) → keys_in keys_of_all 0 n ≤ entry_demands j entry
  few_keys n = keys_few (demand_key (job_graph j)) all_demands 0 n

-- ---- writing an outcome, and filling one site after another: an expression of a site

module _ (j : JobView) (job : IsJob j) (entry : ℕ) (u : Option ℕ) (cells : List Held) (sound : IsSound j entry cells) (s : ℕ) (e : CheckedExpr) (its : IsSiteExpr (job_graph j) s e) where
  abbrev pub HasTree : Type 0
  HasTree = (x : SiteAt) × (slice_get (graph_sites (job_graph j)) s ≡ Some x) × (x.tree ≡ e.tree)

  pub has_tree : HasTree
  has_tree = of_option (λ (x : SiteAt). x.tree) (slice_get (graph_sites (job_graph j)) s) e.tree its.tree

-- ---- writing

module _ (j : JobView) (entry : ℕ) (u : Option ℕ) (cells : List Held) (can : CanLook j entry cells) (sound : IsSound j entry cells) (s : ℕ) (inside : s < length (graph_sites (job_graph j)))
    (place : ℕ) (is : place ≡ key (job_graph j) s u) (small : place < key_count (job_graph j))
    (h : Held) (right : IsRight (site_in j entry u s) h) (held : is_held h ≡ true) (empty : held_in cells (key (job_graph j) s u) ≡ Nothing) where
  place_inside : key (job_graph j) s u < length cells
  place_inside = let k = can.sized in omega (arith, k, is, small)

  at_same : held_in (slice_set cells (key (job_graph j) s u) h) (key (job_graph j) s u) ≡ h
  at_same = get_or-set_same cells (key (job_graph j) s u) h Nothing place_inside

  at_other : (k : ℕ) → (k ≡ key (job_graph j) s u → ⊥) → held_in (slice_set cells (key (job_graph j) s u) h) k ≡ held_in cells k
  at_other k n = get_or-set_other cells (key (job_graph j) s u) k h Nothing n

  right_at : (w : Option ℕ) (t : ℕ) → t < length (graph_sites (job_graph j)) → key (job_graph j) t w ≡ key (job_graph j) s u → IsRight (site_in j entry w t) h
  right_at w t lt e =
      let x = something_at (graph_sites (job_graph j)) s inside in
      let y = something_at (graph_sites (job_graph j)) t lt in
      grind (arith, key_site (graph_variations (job_graph j)) (graph_sites (job_graph j)) t s y.0 x.0 w u y.1 x.1, key_is, same_slot)

  sound_after : IsSound j entry (slice_set cells (key (job_graph j) s u) h)
  sound_after = record { each = λ w t lt. (let h = cases_eq (key (job_graph j) t w) (key (job_graph j) s u) in grind (arith, at_same, right_at w t, at_other)) }

  not_here : (k : ℕ) → is_held (held_in cells k) ≡ true → k ≡ key (job_graph j) s u → ⊥
  not_here k p e = absurd (cc (sym p ∙ ap (λ x. is_held (held_in cells x)) e ∙ ap is_held empty))

  count_after : held_count (slice_set cells (key (job_graph j) s u) h) ≡ held_count cells + 1
  count_after = grind (arith, sum_by-set, place_inside)

  -- a key of a later site is another one
  later : (t : ℕ) (w : Option ℕ) → s < t → t < length (graph_sites (job_graph j)) → key (job_graph j) t w ≡ key (job_graph j) s u → ⊥
  later t w l lt e = let x = something_at (graph_sites (job_graph j)) s inside in grind (arith, key_below (graph_variations (job_graph j)) (graph_sites (job_graph j)) s t x.0 u x.1 l, key_is (job_graph j) s x.0 u x.1)

  only_after : (D : ℕ → Bool) → D s ≡ true → OnlyIn j u D s cells (slice_set cells (key (job_graph j) s u) h)
  only_after D d = grind (arith, cases_eq, at_other)

  filled_at : IsFilled j entry u s cells (slice_set cells (key (job_graph j) s u) h) × (held_count (slice_set cells (key (job_graph j) s u) h) ≡ held_count cells + 1)
  filled_at = (
    record {
      sound = sound_after;
      grows = λ k p. at_other k (not_here k p);
      filled = ap is_held at_same ∙ held;
      more = let c = count_after in omega (arith, c);
      rest = λ t w l lt. at_other (key (job_graph j) t w) (later t w l lt);
      only = λ D c d. only_after D d;
    },
    count_after,
  )

  -- the outcome is written at the site's key
  pub written : (after : List Held) → after ≡ slice_set cells place h → IsFilled j entry u s cells after × (held_count after ≡ held_count cells + 1)
  written after e = grind (arith, filled_at)

-- ---- one site after another

pub grows_on : (a b c : List Held) → Grows a b → Grows b c → Grows a c
grows_on a b c p q k h = q k (ap is_held (p k h) ∙ h) ∙ p k h

pub in_source : (D : ℕ → Bool) (t : ℕ) (x : Source) → IsSiteOf t x → IsSourceIn D x → D t ≡ true
in_source D t x i h = grind arith
