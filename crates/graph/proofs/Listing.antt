-- Tests over lists, places in lists, lists paired with lists, and lists of sets of variations.
use Rattle.lemmas.proofs.{◌≡◌, ◌+◌, add-one, get_or, replicate, ℕ, zero, suc, Bool, true, false, ◌||◌, List, [], ◌∷◌, ◌++◌, map, length, Some, None, refl, sym, ◌∙◌, ap, subst, arith, slice_get, take, drop, if◌then◌else◌, not, nat_eq, ◌<◌, ◌-◌, ◌*◌, ◌%◌, ◌^◌, ◌≤◌, max, count_ones, bit_or, bit_and, AllZip, any_passes_from_place, eqb-true, filter, kept_at, list_any, mapped_at, something_at, and_mask, bit_at, bit_at-lt, bit_at-zero, bit_at_above, bit_at_or, bit_at_set_other, bit_at_set_same, Decides-eqb, mod-eq_of_lt, mod-pow-add, mod_below, one_shl, ones-ones, ones_cat, pow_pos, w128}
use Rattle.rdf_values.specs.{among, place, same, Booked, ColType, Column, columns_in, FunctionNames, Statement}
use Rattle.rdf_model.proofs.Accepted.{names_equal}
use Rattle.expr_check.specs.{CheckedExpr, distinct}
use Rattle.graph_numbers.specs.{holds_at, SiteAt, Version}
use Rattle.graph.specs.{any_depends, any_has, AreRows, cell_rows, AreSets, AreSites, depends_at, has, has_at, IsSet, Numbers, read_sets, site_set, VarSet, version_sets, members_below}
use Rattle.graph.specs.declared.tables.ResultRow.{ResultRow}

pub any_map : {A B : Type 0} (f : A → B) (p : B → Bool) (xs : List A) → list_any p (map f xs) ≡ list_any (λ x. p (f x)) xs
any_map f p [] = refl
any_map f p (x ∷ xs) = ap (λ b. p (f x) || b) (any_map f p xs)

pub any_none : {A : Type 0} (p : A → Bool) (xs : List A) → ((x : A) → p x ≡ false) → list_any p xs ≡ false
any_none p [] h = refl
any_none p (x ∷ xs) h = (λ i. h x i || any_none p xs h i)

pub any_same : {A : Type 0} (p q : A → Bool) (xs : List A) → ((x : A) → p x ≡ q x) → list_any p xs ≡ list_any q xs
any_same p q [] h = refl
any_same p q (x ∷ xs) h = (λ i. h x i || any_same p q xs h i)

pub got_first : {A : Type 0} (xs ys : List A) (k : ℕ) → k < length xs → slice_get (xs ++ ys) k ≡ slice_get xs k
got_first xs ys k lt = let t = something_at xs k lt in kept_at xs ys k t.0 t.1 ∙ sym t.1

-- ---- places

pub place_end : {A : Type 0} (t : A → Bool) (xs : List A) (y : A) → place t xs ≡ None → place t (xs ++ y ∷ []) ≡ (if t y then Some (length xs) else None)
place_end t [] y h = refl
place_end t (x ∷ xs) y h = grind (arith, place_end t xs y)

-- the element at the first place passes the test
pub place_at : {A : Type 0} (t : A → Bool) (xs : List A) (n : ℕ) → place t xs ≡ Some n → (x : A) × (slice_get xs n ≡ Some x) × (t x ≡ true)
place_at t [] n h = cc h
place_at t (x ∷ xs) n h = grind (arith, place_at t xs)

-- no first place, no element that passes
pub no_place : {A : Type 0} (t : A → Bool) (xs : List A) → place t xs ≡ None → list_any t xs ≡ false
no_place t [] h = refl
no_place t (x ∷ xs) h = grind (arith, no_place t xs)

-- a name stands at its place, and is among them
pub named_at : (xs : List (List ℕ)) (x : List ℕ) (j : ℕ) → place (same x) xs ≡ Some j → (slice_get xs j ≡ Some x) × (among x xs ≡ true)
named_at xs x j h = let p = place_at (same x) xs j h in (p.1 ∙ ap Some (sym (names_equal x p.0 p.2)), any_passes_from_place (same x) xs j p.0 p.1 p.2)

-- ---- pairs

module _ {A B : Type 0} (R : A → B → Type 0) where
  pub zip_both : (xs us : List A) (ys vs : List B) → AllZip R xs ys → AllZip R us vs → AllZip R (xs ++ us) (ys ++ vs)
  zip_both [] us [] vs h k = k
  zip_both [] us (y ∷ ys) vs h k = absurd h
  zip_both (x ∷ xs) us [] vs h k = absurd h
  zip_both (x ∷ xs) us (y ∷ ys) vs h k = (h.0, zip_both xs us ys vs h.1 k)

  pub zip_at : (xs : List A) (ys : List B) (n : ℕ) (y : B) → AllZip R xs ys → slice_get ys n ≡ Some y → (x : A) × (slice_get xs n ≡ Some x) × R x y
  zip_at [] [] n y h q = cc q
  zip_at [] (z ∷ ys) n y h q = absurd h
  zip_at (x ∷ xs) [] n y h q = absurd h
  zip_at (x ∷ xs) (z ∷ ys) zero y h q = (x, refl, (let e : z ≡ y = cc q in subst (R x) e h.0))
  zip_at (x ∷ xs) (z ∷ ys) (suc n) y h q = zip_at xs ys n y h.1 q

  pub zip_first : (k : ℕ) (xs : List A) (ys : List B) → AllZip R xs ys → AllZip R (take k xs) (take k ys)
  zip_first zero xs ys h = tt
  zip_first (suc k) [] [] h = tt
  zip_first (suc k) [] (y ∷ ys) h = absurd h
  zip_first (suc k) (x ∷ xs) [] h = absurd h
  zip_first (suc k) (x ∷ xs) (y ∷ ys) h = (h.0, zip_first k xs ys h.1)

  pub zip_last : (k : ℕ) (xs : List A) (ys : List B) → AllZip R xs ys → AllZip R (drop k xs) (drop k ys)
  zip_last zero xs ys h = h
  zip_last (suc k) [] [] h = tt
  zip_last (suc k) [] (y ∷ ys) h = absurd h
  zip_last (suc k) (x ∷ xs) [] h = absurd h
  zip_last (suc k) (x ∷ xs) (y ∷ ys) h = zip_last k xs ys h.1

  -- another relation, by the places
  pub zip_by : (S : A → B → Type 0) (xs : List A) (ys : List B) → ((n : ℕ) (x : A) (y : B) → slice_get xs n ≡ Some x → slice_get ys n ≡ Some y → R x y → S x y) → AllZip R xs ys → AllZip S xs ys
  zip_by S [] [] f h = tt
  zip_by S [] (y ∷ ys) f h = absurd h
  zip_by S (x ∷ xs) [] f h = absurd h
  zip_by S (x ∷ xs) (y ∷ ys) f h = (f 0 x y refl refl h.0, zip_by S xs ys (λ n. f (suc n)) h.1)

  -- tests that agree on each pair agree at each place
  pub zip_holds : (p : A → Bool) (q : B → Bool) → ((x : A) (y : B) → R x y → q y ≡ p x) → (xs : List A) (ys : List B) → AllZip R xs ys → (n : ℕ) → holds_at q (slice_get ys n) ≡ holds_at p (slice_get xs n)
  zip_holds p q e [] [] h n = refl
  zip_holds p q e [] (y ∷ ys) h n = absurd h
  zip_holds p q e (x ∷ xs) [] h n = absurd h
  zip_holds p q e (x ∷ xs) (y ∷ ys) h zero = e x y h.0
  zip_holds p q e (x ∷ xs) (y ∷ ys) h (suc n) = zip_holds p q e xs ys h.1 n

  pub zip_mapped : (f : A → B) (xs : List A) → ((n : ℕ) (x : A) → slice_get xs n ≡ Some x → R x (f x)) → AllZip R xs (map f xs)
  zip_mapped f [] h = tt
  zip_mapped f (x ∷ xs) h = (h 0 x refl, zip_mapped f xs (λ n. h (suc n)))

-- a test of what was mapped
pub holds_mapped : {A B : Type 0} (f : A → B) (test : B → Bool) (xs : List A) (n : ℕ) → holds_at test (slice_get (map f xs) n) ≡ holds_at (λ x. test (f x)) (slice_get xs n)
holds_mapped f test [] n = refl
holds_mapped f test (x ∷ xs) zero = refl
holds_mapped f test (x ∷ xs) (suc n) = holds_mapped f test xs n

-- a test of distinct numbers
any_filtered : (p : ℕ → Bool) (x : ℕ) (ys : List ℕ) → p x ≡ false → list_any p (filter (λ y. not (nat_eq x y)) ys) ≡ list_any p ys
any_filtered p x [] h = refl
any_filtered p x (y ∷ ys) h = grind (arith, eqb-true, any_filtered p x ys h)

any_distinct_by : (p : ℕ → Bool) (xs : List ℕ) → list_any p (distinct xs) ≡ list_any p xs
any_distinct_by p [] = refl
any_distinct_by p (x ∷ xs) = grind (arith, any_filtered p x (distinct xs), any_distinct_by p xs)

pub any_distinct : (sets : List VarSet) (xs : List ℕ) (v : ℕ) → any_has sets (distinct xs) v ≡ any_has sets xs v
any_distinct sets xs v = any_distinct_by (λ c. has_at sets c v) xs

-- one set more
set_next : {A : Type 0} (f : A → Numbers) (xs : List A) (k : ℕ) (x : A) (ss : List VarSet) (s : VarSet) → k < length xs → x ≡ get_or xs k x → IsSet (f x) s → AreSets (map f (take k xs)) ss → AreSets (map f (take (suc k) xs)) (ss ++ s ∷ [])
set_next f [] k x ss s lt is h a = absurd (omega (arith, lt))
set_next f (y ∷ xs) zero x [] s lt is h a = (subst (λ z. IsSet (f z) s) is h, tt)
set_next f (y ∷ xs) zero x (r ∷ ss) s lt is h a = absurd a
set_next f (y ∷ xs) (suc k) x [] s lt is h a = absurd a
set_next f (y ∷ xs) (suc k) x (r ∷ ss) s lt is h a = (a.0, set_next f xs k x ss s (omega (arith, lt)) is h a.1)

pub set_more : {A : Type 0} (f : A → Numbers) (xs : List A) (k : ℕ) (x : A) (ss : List VarSet) (s : VarSet) → k < length xs → x ≡ get_or xs k x → IsSet (f x) s → AreSets (map f (take k xs)) ss → AreSets (map f (take (k + 1) xs)) (ss ++ s ∷ [])
set_more f xs k x ss s lt is h a = rw add-one (set_next f xs k x ss s lt is h a)

-- one of the table's columns more
cells_next : (n k : ℕ) (cs : List Column) → k < length cs → cell_rows n (take (suc k) cs) ≡ cell_rows n (take k cs) ++ Version.Cell (n + k) ∷ []
cells_next n k [] h = absurd (omega (arith, h))
cells_next n zero (c ∷ cs) h = let e : n ≡ n + 0 = omega arith in ap (λ m. Version.Cell m ∷ []) e
cells_next n (suc k) (c ∷ cs) h =
    let e : suc n + k ≡ n + suc k = omega arith in
    ap (λ vs. Version.Cell n ∷ vs) (cells_next (suc n) k cs (omega (arith, h)) ∙ ap (λ m. cell_rows (suc n) (take k cs) ++ Version.Cell m ∷ []) e)

pub cells_more : (k : ℕ) (cs : List Column) → k < length cs → cell_rows 0 (take (k + 1) cs) ≡ cell_rows 0 (take k cs) ++ Version.Cell k ∷ []
cells_more k cs h = let e : 0 + k ≡ k = omega arith in rw add-one (cells_next 0 k cs h ∙ ap (λ m. cell_rows 0 (take k cs) ++ Version.Cell m ∷ []) e)

-- no variations at each place
pub no_sets : {A : Type 0} (xs : List A) (s : VarSet) → IsSet (λ v. false) s → AreSets (map (λ _ v. false) xs) (replicate (length xs) s)
no_sets [] s h = tt
no_sets (x ∷ xs) s h = (h, no_sets xs s h)

pub sets_at : (ds : List Numbers) (ss : List VarSet) → AreSets ds ss → (c v : ℕ) → has_at ss c v ≡ depends_at ds c v
sets_at ds ss h c v = zip_holds IsSet (λ (d : Numbers). d v) (λ s. has s v) (λ d s e. e v) ds ss h c

-- the set in a list, and that of a result's row
pub set_at : (ds : List Numbers) (ss : List VarSet) → AreSets ds ss → (n : ℕ) (s : VarSet) → slice_get ss n ≡ Some s → IsSet (depends_at ds n) s
set_at ds ss h n s q v = sym (ap (holds_at (λ (x : VarSet). has x v)) q) ∙ sets_at ds ss h n v

pub row_set : (bs : List Booked) (ds : List Numbers) (rs : List ResultRow) → AreRows bs ds rs → (n : ℕ) (r : ResultRow) → slice_get rs n ≡ Some r → IsSet (depends_at ds n) r.set
row_set bs ds rs h n r q = set_at ds _ h.1 n r.set (mapped_at (λ (x : ResultRow). x.set) rs n r q)

pub sets_any : (ds : List Numbers) (ss : List VarSet) → AreSets ds ss → (cs : List ℕ) (v : ℕ) → any_has ss cs v ≡ any_depends ds cs v
sets_any ds ss h cs v = any_same (λ c. has_at ss c v) (λ c. depends_at ds c v) cs (λ c. sets_at ds ss h c v)

-- sets that are the same numbers
pub sets_same : {A : Type 0} (f : A → Numbers) (xs : List A) (g : A → Numbers) (ss : List VarSet) → ((x : A) (v : ℕ) → f x v ≡ g x v) → AreSets (map f xs) ss → AreSets (map g xs) ss
sets_same f [] g [] e h = tt
sets_same f [] g (s ∷ ss) e h = elim h [ ]
sets_same f (x ∷ xs) g [] e h = elim h [ ]
sets_same f (x ∷ xs) g (s ∷ ss) e h = (λ v. h.0 v ∙ e x v, sets_same f xs g ss e h.1)

module _ (header : List Column) (names : FunctionNames) (before : List Statement) (ss : List VarSet) (h : AreSets (version_sets header names before) ss) where
  -- what was read of the sets of versions is what the sites depend on
  pub sites_read : (kinds : List ColType) (xs : List SiteAt) (cs : List CheckedExpr) (out : List VarSet) → AreSites kinds names xs cs → AreSets (read_sets ss cs) out → AreSets (map (site_set header names before) xs) out
  sites_read kinds [] [] out k o = o
  sites_read kinds [] (c ∷ cs) out k o = elim k [ ]
  sites_read kinds (x ∷ xs) [] out k o = elim k [ ]
  sites_read kinds (x ∷ xs) (c ∷ cs) [] k o = elim o [ ]
  sites_read kinds (x ∷ xs) (c ∷ cs) (s ∷ out) k o = (
    λ v. o.0 v ∙ sets_any (version_sets header names before) ss h (columns_in c.tree) v ∙ ap (λ t. any_depends (version_sets header names before) (columns_in t) v) (sym k.0.tree),
    sites_read kinds xs cs out k.1 o.1,
  )

-- ---- members of sets, by the bits of a number

pub none_in : (v : ℕ) → nat_eq (bit_at 0 v) 1 ≡ false
none_in v = ap (λ n. nat_eq n 1) (bit_at-zero v)

either : (a b : ℕ) → a < 2 → b < 2 → nat_eq (max a b) 1 ≡ (nat_eq a 1 || nat_eq b 1)
either a b p q = grind arith

pub either_in : (a b v : ℕ) → nat_eq (bit_at (bit_or a b) v) 1 ≡ (nat_eq (bit_at a v) 1 || nat_eq (bit_at b v) 1)
either_in a b v = ap (λ n. nat_eq n 1) (bit_at_or a b v) ∙ either (bit_at a v) (bit_at b v) (bit_at-lt a v) (bit_at-lt b v)

-- one number more
pub more_in : (a v : ℕ) → v < 128 → (u : ℕ) → nat_eq (bit_at (bit_or a (1 * 2 ^ v % 2 ^ 128)) u) 1 ≡ (nat_eq u v || nat_eq (bit_at a u) 1)
more_in a v h u = go (nat_eq u v) refl
  where
    go : (b : Bool) → nat_eq u v ≡ b → nat_eq (bit_at (bit_or a (1 * 2 ^ v % 2 ^ 128)) u) 1 ≡ (b || nat_eq (bit_at a u) 1)
    go true e = let same : u ≡ v = (Decides-eqb u v).0 e in subst (λ n. nat_eq (bit_at (bit_or a (1 * 2 ^ v % 2 ^ 128)) n) 1 ≡ true) (sym same) (ap (λ n. nat_eq n 1) (bit_at_set_same w128 a v h))
    go false e = ap (λ n. nat_eq n 1) (bit_at_set_other w128 a v h u (λ q. cc (sym e ∙ (Decides-eqb u v).1 q)))

-- there is no member from 128 on
pub none_above : (n v : ℕ) → n < 2 ^ 128 → 128 ≤ v → (u : ℕ) → v ≤ u → nat_eq (bit_at n u) 1 ≡ false
none_above n v h p u q = ap (λ b. nat_eq b 1) (bit_at_above n 128 u h (omega arith))

-- a bit that is counted
bit_ones : (d : ℕ) → d < 2 → count_ones d ≡ (if nat_eq d 1 then 1 else 0)
bit_ones zero lt = ones-ones 0
bit_ones (suc zero) lt = ones-ones 1
bit_ones (suc (suc d)) lt = absurd (omega (arith, lt))

-- the low bits with one more
low_step : (n v : ℕ) → n % 2 ^ suc v ≡ bit_at n v * 2 ^ v + n % 2 ^ v
low_step n v = let e : suc v ≡ 1 + v = omega arith in ap (λ k. n % 2 ^ k) e ∙ mod-pow-add n 1 v

-- members below a number are the bits that stand below it
low_ones : (s : VarSet) (v : ℕ) → count_ones (s.bits % 2 ^ v) ≡ members_below s v
unfolding members_below
low_ones s zero = let z : s.bits % 1 ≡ 0 = omega arith in ap count_ones z ∙ ones-ones 0
low_ones s (suc v) =
    let a : count_ones (s.bits % 2 ^ suc v) ≡ count_ones (bit_at s.bits v) + count_ones (s.bits % 2 ^ v) = ap count_ones (low_step s.bits v) ∙ ones_cat v (bit_at s.bits v) (s.bits % 2 ^ v) (mod_below s.bits (2 ^ v) (pow_pos v)) in
    let b = bit_ones (bit_at s.bits v) (bit_at-lt s.bits v) in
    let c = low_ones s v in omega (arith, a, b, c)

pub counted_below : (s : VarSet) (v : ℕ) → count_ones (bit_and s.bits (2 ^ v - 1)) ≡ members_below s v
counted_below s v = ap count_ones (and_mask s.bits v) ∙ low_ones s v

pub counted : (s : VarSet) (v : ℕ) → v < 128 → count_ones (bit_and s.bits (1 * 2 ^ v % 2 ^ 128 - 1)) ≡ members_below s v
counted s v lt = ap (λ m. count_ones (bit_and s.bits (m - 1))) (one_shl v 128 lt) ∙ counted_below s v

pub one_at_least : (v : ℕ) → v < 128 → 1 ≤ 1 * 2 ^ v % 2 ^ 128
one_at_least v lt = let e = one_shl v 128 lt in let p = pow_pos v in omega (arith, e, p)

pub counted_all : (s : VarSet) → s.bits < 2 ^ 128 → count_ones s.bits ≡ members_below s 128
counted_all s lt = ap count_ones (sym (mod-eq_of_lt lt)) ∙ low_ones s 128

one_more : (b : Bool) → (if b then 1 else 0) ≤ ◌+◌ 0 1
one_more true = omega arith
one_more false = omega arith

pub below_few : (s : VarSet) (v : ℕ) → members_below s v ≤ v
unfolding members_below
below_few s zero = omega arith
below_few s (suc v) = let a = below_few s v in let b = one_more (has s v) in omega (arith, a, b)
