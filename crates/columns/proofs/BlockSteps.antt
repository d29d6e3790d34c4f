-- Blocks give their numbers back, one more block, and all blocks give the column.
use Rattle.lemmas.proofs.{◌≡◌, ◌≤◌, ◌<◌, ◌*◌, ◌%◌, ◌^◌, ℕ, zero, suc, ℤ, pos, ◌+ℤ◌, ◌-ℤ◌, ◌≤ℤ◌, List, [], ◌∷◌, ◌++◌, length, drop, take, Some, refl, sym, ap, ap₂, ◌∙◌, arith, append_assoc, length-append, unsigned_abs, slice_get, All, ◌+◌, ◌-◌, get_or, map, subst, append-nil, Bool, ◌⊎◌, inl, inr, Contains, cond, if◌then◌else◌, nat_eq, nat_lt, All-from_recursion, All-head, All-tail, AllByRecursion, clamps, drop-append_seam, drop_plus, FitsSigned, from_le_bytes-to_le_bytes_2, from_le_bytes-to_le_bytes_4, from_le_bytes-to_le_bytes_8, int_max, int_min, ints, nat_tests, to_le_bytes, All-append, All-cons, take-add}
use mir.Syntax.{w64}
use native.Mathlib.Nat.{add-mul}
use Rattle.columns.specs.{greatest_from, IsWidth, least_from, low_bytes, number_in, packed_by, packing_of, values_in, width_of, AreBlocks, block_values, IsBlock, packed_of, cluster_values, joined, IsTight}
use Rattle.columns.specs.declared.packing.Packing.{Packing}
use Rattle.std.proofs.lemmas.List.{drop-append-le, length-drop, take-append-drop, take-append-le, take_all, take_more}
use Rattle.columns.specs.declared.packed_ints.PackedCluster.{PackedCluster}
use Rattle.rdf_values.specs.{cut, Lead, Span}
use Rattle.rdf_values.proofs.Evenly.{cuts_lead, lead_up}

-- ---- packed bytes give their numbers back: widths

pub width_is : (n : ℕ) → IsWidth (width_of n)
width_is n = grind arith

-- a number below 2 ^ 64 fits its width
pub fits_width : (n : ℕ) → n < 2 ^ 64 → n < 256 ^ width_of n
fits_width n h = grind (arith, nat_tests)

-- what holds of each width
by_width : (P : ℕ → Type 0) → P 0 → P 1 → P 2 → P 4 → P 8 → (w : ℕ) → IsWidth w → P w
by_width P a b c d e w h = grind arith

-- ---- one number

pub length-low_bytes : (w n : ℕ) → IsWidth w → length (low_bytes w n) ≡ w
length-low_bytes w n h = by_width (λ v. length (low_bytes v n) ≡ v) refl refl refl refl refl w h

-- the lowest bytes of a number, one after another
pub first_bytes : (w n : ℕ) → IsWidth w → take w (to_le_bytes w64 n) ≡ low_bytes w n
first_bytes w n h = by_width (λ v. take v (to_le_bytes w64 n) ≡ low_bytes v n) refl refl refl refl refl w h

one_back : (n : ℕ) → n < 256 → n % 256 ≡ n
one_back n h = omega arith

pub number_back : (w n : ℕ) (more : List ℕ) → IsWidth w → n < 256 ^ w → number_in w (low_bytes w n ++ more) ≡ n
number_back w n more h k = grind (arith, by_width, one_back, from_le_bytes-to_le_bytes_2, from_le_bytes-to_le_bytes_4, from_le_bytes-to_le_bytes_8)

-- ---- many numbers

-- a number that fits above the least
abbrev pub FitsAbove : Packing → ℤ → Type 0
FitsAbove p z = (p.least ≤ℤ z) × (unsigned_abs (z -ℤ p.least) < 256 ^ p.width)

above_least : (l z : ℤ) → l ≤ℤ z → l +ℤ pos (unsigned_abs (z -ℤ l)) ≡ z
above_least l z h = omega (arith, ints)

pub values_back : (p : Packing) (zs : List ℤ) (more : List ℕ) → IsWidth p.width → All (FitsAbove p) zs → values_in p.least p.width (length zs) (packed_by p zs ++ more) ≡ zs
values_back p [] more w h = refl
values_back p (z ∷ zs) more w h =
    let fit = All-head (FitsAbove p) z zs h in
    let d = unsigned_abs (z -ℤ p.least) in
    let split : (low_bytes p.width d ++ packed_by p zs) ++ more ≡ low_bytes p.width d ++ (packed_by p zs ++ more) = append_assoc (low_bytes p.width d) (packed_by p zs) more in
    let first : p.least +ℤ pos (number_in p.width (low_bytes p.width d ++ (packed_by p zs ++ more))) ≡ z = ap (λ n. p.least +ℤ pos n) (number_back p.width d (packed_by p zs ++ more) w fit.1) ∙ above_least p.least z fit.0 in
    let rest : drop p.width (low_bytes p.width d ++ (packed_by p zs ++ more)) ≡ packed_by p zs ++ more =
    ap (λ (k : ℕ). drop k (low_bytes p.width d ++ (packed_by p zs ++ more))) (sym (length-low_bytes p.width d w)) ∙ drop-append_seam (low_bytes p.width d) (packed_by p zs ++ more) in
    let others = values_back p zs more w (All-tail (FitsAbove p) z zs h) in
    rw split (ap₂ (λ a b. a ∷ b) first (ap (values_in p.least p.width (length zs)) rest ∙ others))

-- ---- what a packing is

least_below : (z : ℤ) (xs : List ℤ) → least_from z xs ≤ℤ z
least_below z [] = omega (arith, ints)
least_below z (x ∷ xs) = let more = least_below (int_min z x) xs in omega (arith, ints, clamps)

greatest_above : (z : ℤ) (xs : List ℤ) → z ≤ℤ greatest_from z xs
greatest_above z [] = omega (arith, ints)
greatest_above z (x ∷ xs) = let more = greatest_above (int_max z x) xs in omega (arith, ints, clamps)

-- each number stands between the least and the greatest
abbrev pub Between : ℤ → ℤ → ℤ → Type 0
Between a b z = (a ≤ℤ z) × (z ≤ℤ b)

all_between : (xs : List ℤ) (a b : ℤ) → AllByRecursion (Between (least_from a xs) (greatest_from b xs)) xs
all_between [] a b = tt
all_between (x ∷ xs) a b =
    let low = least_below (int_min a x) xs in
    let high = greatest_above (int_max b x) xs in
    ((omega (arith, ints, clamps), omega (arith, ints, clamps)), all_between xs (int_min a x) (int_max b x))

-- the least and the greatest are among the numbers
cond_is : (b : Bool) (x y : ℤ) → (cond b x y ≡ x) ⊎ (cond b x y ≡ y)
cond_is b x y = grind arith

either : (A B : Type 0) → A ⊎ B → B ⊎ A
either A B h = grind arith

further : (z m x l : ℤ) (xs : List ℤ) → ((m ≡ x) ⊎ (m ≡ z)) → Contains (m ∷ xs) l → Contains (z ∷ x ∷ xs) l
further z m x l xs (inl e) (zero, h, q) = (1, omega arith, sym e ∙ q)
further z m x l xs (inr e) (zero, h, q) = (0, omega arith, sym e ∙ q)
further z m x l xs e (suc k, h, q) = (suc (suc k), omega (arith, h), q)

least_reached : (xs : List ℤ) (z : ℤ) → Contains (z ∷ xs) (least_from z xs)
least_reached [] z = (0, omega arith, refl)
least_reached (x ∷ xs) z = further z (int_min z x) x (least_from (int_min z x) xs) xs (cond_is _ x z) (least_reached xs (int_min z x))

greatest_reached : (xs : List ℤ) (z : ℤ) → Contains (z ∷ xs) (greatest_from z xs)
greatest_reached [] z = (0, omega arith, refl)
greatest_reached (x ∷ xs) z = further z (int_max z x) x (greatest_from (int_max z x) xs) xs (either _ _ (cond_is _ z x)) (greatest_reached xs (int_max z x))

far : (a b : ℤ) → FitsSigned w64 a → FitsSigned w64 b → unsigned_abs (b -ℤ a) < 2 ^ 64
far a b f g = omega (arith, ints)

nearer : (a b z : ℤ) → a ≤ℤ z → z ≤ℤ b → unsigned_abs (z -ℤ a) ≤ unsigned_abs (b -ℤ a)
nearer a b z l h = omega (arith, ints)

-- each number fits the packing of all
abbrev pub AreWords : List ℤ → Type 0
AreWords zs = All (FitsSigned w64) zs

each_fits : (a b : ℤ) (xs : List ℤ) → FitsSigned w64 a → FitsSigned w64 b → AllByRecursion (Between a b) xs → AllByRecursion (FitsAbove (record { least = a; width = width_of (unsigned_abs (b -ℤ a)) })) xs
each_fits a b [] f g h = tt
each_fits a b (x ∷ xs) f g h = grind (arith, nearer, fits_width, far, each_fits a b xs f g h.1)

pub packing_fits : (zs : List ℤ) → AreWords zs → All (FitsAbove (packing_of zs)) zs
packing_fits [] h = λ k d l. absurd (omega (arith, l))
packing_fits (z ∷ zs) h =
    let a = least_from z zs in
    let b = greatest_from z zs in
    let low = least_reached zs z in
    let high = greatest_reached zs z in
    let f : FitsSigned w64 a = subst (FitsSigned w64) low.2 (h low.0 a low.1) in
    let g : FitsSigned w64 b = subst (FitsSigned w64) high.2 (h high.0 b high.1) in
    All-from_recursion (FitsAbove (packing_of (z ∷ zs))) (z ∷ zs) (each_fits a b (z ∷ zs) f g ((least_below z zs, greatest_above z zs), all_between zs z z))

pub packing_width : (zs : List ℤ) → IsWidth (packing_of zs).width
packing_width zs = grind (arith, width_is)

-- ---- how many bytes, and which stand where

pub length-packed : (p : Packing) (zs : List ℤ) → IsWidth p.width → length (packed_by p zs) ≡ length zs * p.width
length-packed p [] w = omega arith
length-packed p (z ∷ zs) w =
    let first = low_bytes p.width (unsigned_abs (z -ℤ p.least)) in
    omega (arith, add-mul (length zs) 1 p.width, length-append first (packed_by p zs), length-low_bytes p.width (unsigned_abs (z -ℤ p.least)) w, length-packed p zs w)

-- the value at a place of those that the bytes spell
pub value_at : (least : ℤ) (w n : ℕ) (bs : List ℕ) (i : ℕ) → i < n → slice_get (values_in least w n bs) i ≡ Some (least +ℤ pos (number_in w (drop (i * w) bs)))
value_at least w zero bs i h = absurd (omega (arith, h))
value_at least w (suc n) bs zero h = let none : 0 ≡ 0 * w = omega arith in ap (λ (k : ℕ). Some (least +ℤ pos (number_in w (drop k bs)))) none
value_at least w (suc n) bs (suc i) h = grind (arith, add-mul i 1 w, value_at least w n (drop w bs) i, drop_plus)

pub block_back : (bytes : List ℕ) (b : PackedCluster) (values : List ℤ) → IsBlock bytes b values → block_values bytes b ≡ values
block_back bytes b values h =
    let split : packed_of values ++ drop (length (packed_of values)) (drop b.begin bytes) ≡ drop b.begin bytes = subst (λ (l : List ℕ). l ++ drop (length (packed_of values)) (drop b.begin bytes) ≡ drop b.begin bytes) h.kept (take-append-drop (length (packed_of values)) (drop b.begin bytes)) in
    let back = values_back (packing_of values) values (drop (length (packed_of values)) (drop b.begin bytes)) (packing_width values) (packing_fits values h.words) in
    rw (h.packing, h.entries, ← split) back

pub blocks_back : (bytes : List ℕ) (bs : List PackedCluster) (vs : List (List ℤ)) → AreBlocks bytes bs vs → map (block_values bytes) bs ≡ vs
blocks_back bytes [] [] h = refl
blocks_back bytes (b ∷ bs) (v ∷ vs) h = ap₂ (λ x xs. x ∷ xs) (block_back bytes b v h.0) (blocks_back bytes bs vs h.1)
blocks_back bytes bs vs h = absurd h

pub blocks_hold : (bytes : List ℕ) (bs : List PackedCluster) (vs : List (List ℤ)) → AreBlocks bytes bs vs → AreBlocks bytes bs (map (block_values bytes) bs)
blocks_hold bytes bs vs h = rw (blocks_back bytes bs vs h) h

-- ---- one more

still : (bytes more : List ℕ) (b : PackedCluster) (values : List ℤ) → IsBlock bytes b values → IsBlock (bytes ++ more) b values
still bytes more b values h =
    let inside = h.inside in
    let begins : b.begin ≤ length bytes = omega (arith, inside) in
    let wide : length (packed_of values) ≤ length (drop b.begin bytes) = omega (arith, inside, length-drop b.begin bytes) in
    record {
      entries = h.entries;
      packing = h.packing;
      inside = omega (arith, inside, length-append bytes more);
      kept = rw (drop-append-le b.begin bytes more begins, take-append-le (length (packed_of values)) (drop b.begin bytes) more wide) h.kept;
      words = h.words;
    }

grown : (bytes more : List ℕ) (bs : List PackedCluster) (vs : List (List ℤ)) → AreBlocks bytes bs vs → AreBlocks (bytes ++ more) bs vs
grown bytes more (b ∷ bs) (v ∷ vs) h = (still bytes more b v h.0, grown bytes more bs vs h.1)
grown bytes more [] [] h = h
grown bytes more bs vs h = absurd h

one_more : (bytes : List ℕ) (bs : List PackedCluster) (vs : List (List ℤ)) (b : PackedCluster) (v : List ℤ) → AreBlocks bytes bs vs → IsBlock bytes b v → AreBlocks bytes (bs ++ b ∷ []) (vs ++ v ∷ [])
one_more bytes [] [] b v h k = (k, tt)
one_more bytes (c ∷ cs) (w ∷ ws) b v h k = (h.0, one_more bytes cs ws b v h.1 k)
one_more bytes bs vs b v h k = absurd h

pub block_more : (bytes new : List ℕ) (bs : List PackedCluster) (vs : List (List ℤ)) (b : PackedCluster) (v : List ℤ) → AreBlocks bytes bs vs → new ≡ bytes ++ packed_of v → IsBlock new b v → AreBlocks new (bs ++ b ∷ []) (vs ++ v ∷ [])
block_more bytes new bs vs b v h e k = one_more new bs vs b v (rw e (grown bytes (packed_of v) bs vs h)) k

-- a block whose bytes were just appended
pub block_made : (bytes new : List ℕ) (b : PackedCluster) (values : List ℤ) → new ≡ bytes ++ packed_of values → b.begin ≡ length bytes → b.entries ≡ length values → b.packing ≡ packing_of values
    → All (FitsSigned w64) values → IsBlock new b values
block_made bytes new b values e at many p words = record {
  entries = many;
  packing = p;
  inside = rw e (omega (arith, at, length-append bytes (packed_of values)));
  kept = rw (e, at) (ap (take (length (packed_of values))) (drop-append_seam bytes (packed_of values)) ∙ take_all (length (packed_of values)) (packed_of values) (omega arith));
  words = words;
}

-- ---- one block

pub block_at : (bytes : List ℕ) (bs : List PackedCluster) (vs : List (List ℤ)) (c : ℕ) (d : PackedCluster) → AreBlocks bytes bs vs → c < length vs → IsBlock bytes (get_or bs c d) (get_or vs c [])
block_at bytes [] [] c d h l = absurd (omega (arith, l))
block_at bytes [] (v ∷ vs) c d h l = absurd h
block_at bytes (b ∷ bs) [] c d h l = absurd h
block_at bytes (b ∷ bs) (v ∷ vs) zero d h l = h.0
block_at bytes (b ∷ bs) (v ∷ vs) (suc c) d h l = block_at bytes bs vs c d h.1 (omega (arith, l))

pub block_width : (bytes : List ℕ) (b : PackedCluster) (values : List ℤ) → IsBlock bytes b values → IsWidth b.packing.width
block_width bytes b values h = rw h.packing (packing_width values)

-- ---- what the functions ask

pub block_of : (bytes : List ℕ) (bs : List PackedCluster) (c : ℕ) (b : PackedCluster) → AreBlocks bytes bs (map (block_values bytes) bs) → c < length (map (block_values bytes) bs) → b ≡ get_or bs c b → IsBlock bytes b (get_or (map (block_values bytes) bs) c [])
block_of bytes bs c b h l e = subst (λ (x : PackedCluster). IsBlock bytes x (get_or (map (block_values bytes) bs) c [])) (sym e) (block_at bytes bs (map (block_values bytes) bs) c b h l)

pub block_size : (bytes : List ℕ) (b : PackedCluster) (values : List ℤ) → IsBlock bytes b values → b.entries * b.packing.width ≡ length (packed_of values)
block_size bytes b values h = grind (arith, length-packed, packing_width)

pub block_bytes : (bytes : List ℕ) (b : PackedCluster) (values : List ℤ) → IsBlock bytes b values → take (b.begin + b.entries * b.packing.width - b.begin) (drop b.begin bytes) ≡ packed_of values
block_bytes bytes b values h = grind (arith, block_size)

-- ---- bytes that are appended

packed_more : (p : Packing) (zs : List ℤ) (z : ℤ) → packed_by p (zs ++ z ∷ []) ≡ packed_by p zs ++ low_bytes p.width (unsigned_abs (z -ℤ p.least))
packed_more p [] z = append-nil (low_bytes p.width (unsigned_abs (z -ℤ p.least)))
packed_more p (x ∷ xs) z = ap (λ l. low_bytes p.width (unsigned_abs (x -ℤ p.least)) ++ l) (packed_more p xs z) ∙ sym (append_assoc (low_bytes p.width (unsigned_abs (x -ℤ p.least))) (packed_by p xs) (low_bytes p.width (unsigned_abs (z -ℤ p.least))))

pub pack_step : (begin old new : List ℕ) (p : Packing) (values : List ℤ) (i d : ℕ) → i < length values → old ≡ begin ++ packed_by p (take i values) → new ≡ old ++ low_bytes p.width d
    → d ≡ unsigned_abs (get_or values i (pos 0) -ℤ p.least) → new ≡ begin ++ packed_by p (take (i + 1) values)
pack_step begin old new p values i d h o e q =
    let z = get_or values i (pos 0) in
    let next : take (i + 1) values ≡ take i values ++ z ∷ [] = take_more values i (pos 0) h in
    e ∙ ap₂ (λ a b. a ++ b) o (ap (low_bytes p.width) q) ∙ append_assoc begin (packed_by p (take i values)) (low_bytes p.width (unsigned_abs (z -ℤ p.least))) ∙ ap (λ b. begin ++ b) (sym (packed_more p (take i values) z) ∙ ap (packed_by p) (sym next))

pub words_step : (values : List ℤ) (i : ℕ) → i < length values → All (FitsSigned w64) (take i values) → FitsSigned w64 (get_or values i (pos 0)) → All (FitsSigned w64) (take (i + 1) values)
words_step values i h all one =
    rw (take_more values i (pos 0) h) (All-append (FitsSigned w64) (take i values) (get_or values i (pos 0) ∷ []) all (All-cons (FitsSigned w64) (get_or values i (pos 0)) [] one (λ k d l. absurd (omega (arith, l)))))

-- ---- The numbers of the clusters are those of the column.

pub span_within : (spans : List Span) (lo hi c : ℕ) (s : Span) → Lead lo hi spans → slice_get spans c ≡ Some s → (lo ≤ s.lo) × (s.lo < s.hi) × (s.hi ≤ hi)
span_within [] lo hi c s h e = cc e
span_within (x ∷ xs) lo hi zero s h e = grind (arith, lead_up)
span_within (x ∷ xs) lo hi (suc c) s h e =
    let more = span_within xs x.hi hi c s h.2 e in
    let some = h.1 in
    let low = more.0 in
    (omega (arith, some, low), more.1, more.2)

-- a cluster has entries, and lies within all
pub cluster_within : (n size : ℕ) (marks : List ℕ) (c : ℕ) (s : Span) → slice_get (cut n size marks) c ≡ Some s → (s.lo < s.hi) × (s.hi ≤ n)
cluster_within n size marks c s e = let h = span_within (cut n size marks) 0 n c s (cuts_lead n size marks) e in (h.1, h.2)

-- a range and the one behind it
pub ranges_joined : (xs : List ℤ) (lo from to : ℕ) → lo ≤ from → from ≤ to → take (from - lo) (drop lo xs) ++ take (to - from) (drop from xs) ≡ take (to - lo) (drop lo xs)
ranges_joined xs lo from to h l =
    let on : lo + (from - lo) ≡ from = omega (arith, h) in
    let size : from - lo + (to - from) ≡ to - lo = omega (arith, h, l) in
    sym (ap (λ (k : ℕ). take k (drop lo xs)) (sym size) ∙ take-add (from - lo) (to - from) (drop lo xs) ∙ ap (λ ys. take (from - lo) (drop lo xs) ++ take (to - from) ys) (drop_plus lo (from - lo) xs ∙ ap (λ (k : ℕ). drop k xs) on))

joined_from : (spans : List Span) (numbers : List ℤ) (lo hi : ℕ) → Lead lo hi spans → joined (cluster_values spans numbers) ≡ take (hi - lo) (drop lo numbers)
joined_from [] numbers lo hi h = let none : 0 ≡ hi - lo = omega (arith, h) in ap (λ (k : ℕ). take k (drop lo numbers)) none
joined_from (s ∷ ss) numbers lo hi h =
    let some = h.1 in
    ap (λ (a : ℕ). take (s.hi - a) (drop a numbers) ++ joined (cluster_values ss numbers)) h.0 ∙ ap (λ l. take (s.hi - lo) (drop lo numbers) ++ l) (joined_from ss numbers s.hi hi h.2)
    ∙ ranges_joined numbers lo s.hi hi (omega (arith, some)) (lead_up ss s.hi hi h.2)

pub joined_back : (n size : ℕ) (marks : List ℕ) (numbers : List ℤ) → length numbers ≡ n → joined (cluster_values (cut n size marks) numbers) ≡ numbers
joined_back n size marks numbers l = joined_from (cut n size marks) numbers 0 n (cuts_lead n size marks) ∙ take_all (n - 0) numbers (omega (arith, l))

-- so numbers that were packed are kept by cluster
pub packed_is_by : (n size : ℕ) (marks : List ℕ) (numbers : List ℤ) (values : List (List ℤ)) → length numbers ≡ n → values ≡ cluster_values (cut n size marks) numbers
    → (joined values ≡ numbers) × (values ≡ cluster_values (cut n size marks) (joined values))
packed_is_by n size marks numbers values l e = grind (arith, joined_back)

-- one cluster, one number
pub values_of_cluster : (spans : List Span) (numbers : List ℤ) (c : ℕ) (s : Span) → slice_get spans c ≡ Some s → slice_get (cluster_values spans numbers) c ≡ Some (take (s.hi - s.lo) (drop s.lo numbers))
values_of_cluster [] numbers c s e = cc e
values_of_cluster (x ∷ xs) numbers zero s e = let same : x ≡ s = cc e in rw same refl
values_of_cluster (x ∷ xs) numbers (suc c) s e = values_of_cluster xs numbers c s e

-- ---- a packing is tight

-- the width is the least that holds the number
width_by : (n w : ℕ) (a b c d : Bool) → nat_eq n 0 ≡ a → nat_lt n 256 ≡ b → nat_lt n 65536 ≡ c → nat_lt n 4294967296 ≡ d → (w ≡ 0) ⊎ (w ≡ 1) ⊎ (w ≡ 2) ⊎ (w ≡ 4) ⊎ (w ≡ 8) → n < 256 ^ w
    → (if a then 0 else if b then 1 else if c then 2 else if d then 4 else 8) ≤ w
width_by n w a b c d p q r s one h = grind (arith, nat_tests)

width_least : (n w : ℕ) → IsWidth w → n < 256 ^ w → width_of n ≤ w
width_least n w i h = width_by n w (nat_eq n 0) (nat_lt n 256) (nat_lt n 65536) (nat_lt n 4294967296) refl refl refl refl i.one_of h

pub packings_are_tight : (values : List ℤ) → 0 < length values → All (FitsSigned w64) values → IsTight values (packing_of values)
packings_are_tight [] some words = absurd (omega (arith, some))
packings_are_tight (z ∷ zs) some words =
    let fit = packing_fits (z ∷ zs) words in
    let top = greatest_reached zs z in
    record {
      below = λ k d h. (fit k d h).0;
      reached = least_reached zs z;
      width = packing_width (z ∷ zs);
      enough = λ k d h. (fit k d h).1;
      fewest = λ w i all. width_least (unsigned_abs (greatest_from z zs -ℤ least_from z zs)) w i (subst (λ (g : ℤ). unsigned_abs (g -ℤ least_from z zs) < 256 ^ w) top.2 (all top.0 (greatest_from z zs) top.1));
    }
