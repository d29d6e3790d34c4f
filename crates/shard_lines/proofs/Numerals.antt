-- A number of 128 bits has one canonical text, which reads as that number.
use Rattle.lemmas.proofs.{◌≡◌, ◌≤◌, ◌<◌, ◌+◌, ◌*◌, ◌/◌, ◌%◌, ◌^◌, ℕ, zero, suc, Bool, true, false, ◌&&◌, cond, None, Some, List, [], ◌∷◌, ◌++◌, length, refl, ap, ap₂, ◌∙◌, sym, subst, arith, decimal, leb, not, ◌==◌, if◌then◌else◌, all_ascii_digits, both_true, decimal_by_steps_wide, decimal_digit, decimal_is_IsNumeral_wide, decimal_step_wide, digit_value, digit_value_digit, digits_value, digits_value_push, is_ascii_digit, lt-ltb, nat_tests}
use Rattle.std.specs.Fmt.{digit_glyph, digits, digits_onto}
use Rattle.rdf_values.proofs.Fronts.{grows}
use Rattle.rdf_values.specs.{begins_badly, digits_up_to, is_empty, magnitude_of}

-- each byte is a digit
abbrev pub Digits : List ℕ → Type 0
Digits [] = Unit {0}
Digits (b ∷ bs) = (47 < b) × (b < 58) × Digits bs

glyph_is : (d : ℕ) → d < 10 → digit_glyph false d ≡ 48 + d
glyph_is d h = ap (λ b. cond b (48 + d) (cond false (55 + d) (87 + d))) (lt-ltb d 10 h)

digit_of : (n : ℕ) → (47 < digit_glyph false (n % 10)) × (digit_glyph false (n % 10) < 58)
digit_of n =
    let small : n % 10 < 10 = omega arith in
    let is = glyph_is (n % 10) small in
    (omega (arith, is, small), omega (arith, is, small))

onto_digits : (k n : ℕ) (acc : List ℕ) → Digits acc → Digits (digits_onto k 10 false n acc)
onto_digits zero n acc p = p
onto_digits (suc k) n acc p =
    let d = digit_of n in
    go (n / 10 == 0) d (onto_digits k (n / 10) (digit_glyph false (n % 10) ∷ acc) (d.0, d.1, p))
  where
    go : (b : Bool) → (47 < digit_glyph false (n % 10)) × (digit_glyph false (n % 10) < 58) → Digits (digits_onto k 10 false (n / 10) (digit_glyph false (n % 10) ∷ acc))
        → Digits (cond b (digit_glyph false (n % 10) ∷ acc) (digits_onto k 10 false (n / 10) (digit_glyph false (n % 10) ∷ acc)))
    go true d q = (d.0, d.1, p)
    go false d q = q

pub decimal_digits : (n : ℕ) → Digits (decimal n)
unfolding digits
decimal_digits n = onto_digits 64 n [] tt

-- ---- the first digit

-- the first digit isn't 0
abbrev Leads : List ℕ → Type 0
Leads [] = ⊥
Leads (d ∷ ds) = 48 < d

leads_more : (ds : List ℕ) (x : ℕ) → Leads ds → Leads (ds ++ x ∷ [])
leads_more [] x h = absurd h
leads_more (d ∷ ds) x h = h

abbrev Begun : ℕ → List ℕ → Type 0
Begun n ds = (n ≡ 0 → ds ≡ 48 ∷ []) × (0 < n → Leads ds)

decimal_begun : (n : ℕ) → n < 10 ^ 64 → Begun n (decimal n)
decimal_begun = decimal_by_steps_wide Begun (λ n h. (λ z. ap (λ m. (48 + m) ∷ []) z, λ p. omega arith)) (λ n ds l p. (λ z. absurd (omega arith), λ q. leads_more ds (48 + n % 10) (p.1 (omega arith))))

not_zero : (d : ℕ) → 48 < d → (d == 48) ≡ false
not_zero d h = grind (arith, nat_tests)

not_badly : (n : ℕ) (ds : List ℕ) → Begun n ds → begins_badly ds ≡ false
not_badly zero ds b = ap begins_badly (b.0 refl)
not_badly (suc n) [] b = absurd (b.1 (omega arith))
not_badly (suc n) (d ∷ ds) b = ap (λ t. t && not (is_empty ds)) (not_zero d (b.1 (omega arith)))

-- ---- the text of a number reads as the number

is_digit : (d : ℕ) → 47 < d → d < 58 → is_ascii_digit d ≡ true
is_digit d low high = grind (arith, nat_tests)

all_digits : (ds : List ℕ) → Digits ds → all_ascii_digits ds ≡ true
all_digits [] h = refl
all_digits (d ∷ ds) h = ap (λ b. b && all_ascii_digits ds) (is_digit d h.0 h.1) ∙ all_digits ds h.2

pub magnitude_reads : (most n : ℕ) → n ≤ most → n < 10 ^ 64 → magnitude_of most (decimal n) ≡ Some n
unfolding magnitude_of
magnitude_reads most n l h =
    let all = all_digits (decimal n) (decimal_digits n) in
    let value = (decimal_is_IsNumeral_wide n h).1 in
    let within : leb n most ≡ true = grind (arith, nat_tests) in
    rw (not_badly n (decimal n) (decimal_begun n h), all, value, within) refl

-- ---- what reads as a number is its text

-- the front and the last item
apart : (d : ℕ) (ds : List ℕ) → (xs : List ℕ) × (e : ℕ) × (d ∷ ds ≡ xs ++ e ∷ [])
apart d [] = ([], d, refl)
apart d (x ∷ ds) = let q = apart x ds in (d ∷ q.0, q.1, ap (λ t. d ∷ t) q.2)

digits_apart : (xs : List ℕ) (e : ℕ) → Digits (xs ++ e ∷ []) → Digits xs × (47 < e) × (e < 58)
digits_apart [] e h = (tt, h.0, h.1)
digits_apart (x ∷ xs) e h = let q = digits_apart xs e h.2 in ((h.0, h.1, q.0), q.1, q.2)

digit_is : (e : ℕ) → 47 < e → e < 58 → digit_value e + 48 ≡ e
digit_is e low high = digit_value_digit e (omega arith, omega arith)

value_leads : (xs : List ℕ) → Digits xs → Leads xs → 0 < digits_value 10 xs
value_leads [] p h = absurd h
value_leads (d ∷ ds) p h = let is = digit_is d p.0 p.1 in omega (arith, h, is, grows (0 * 10 + digit_value d) ds)

push_digit : (xs : List ℕ) (e : ℕ) → Digits xs → 47 < e → e < 58 → Leads xs → digits_value 10 (xs ++ e ∷ []) < 10 ^ 64 → decimal (digits_value 10 xs) ≡ xs → decimal (digits_value 10 (xs ++ e ∷ [])) ≡ xs ++ e ∷ []
push_digit xs e p low high leads h ih =
    let is = digit_is e low high in
    let more = digits_value_push 10 xs e in
    let some = value_leads xs p leads in
    let front : digits_value 10 (xs ++ e ∷ []) / 10 ≡ digits_value 10 xs = omega (arith, is, more, some) in
    let last : 48 + digits_value 10 (xs ++ e ∷ []) % 10 ≡ e = omega (arith, is, more, some) in
    decimal_step_wide (digits_value 10 (xs ++ e ∷ [])) (omega (arith, is, more, some)) h ∙ ap₂ (λ a b. decimal a ++ b ∷ []) front last ∙ ap (λ t. t ++ e ∷ []) ih

leads_by : (d : ℕ) (b : Bool) → (d == 48) ≡ b → 47 < d → (b && true) ≡ false → 48 < d
leads_by d true e low h = cc h
leads_by d false e low h = grind (arith, nat_tests)

below : (xs : List ℕ) (e : ℕ) → digits_value 10 (xs ++ e ∷ []) < 10 ^ 64 → digits_value 10 xs < 10 ^ 64
below xs e h = let more = digits_value_push 10 xs e in omega (arith, more, h)

size_apart : (xs : List ℕ) (e : ℕ) → length (xs ++ e ∷ []) ≡ suc (length xs)
size_apart [] e = refl
size_apart (x ∷ xs) e = ap suc (size_apart xs e)

canonical : (k : ℕ) (ds : List ℕ) → length ds ≡ suc k → Digits ds → begins_badly ds ≡ false → digits_value 10 ds < 10 ^ 64 → decimal (digits_value 10 ds) ≡ ds
canonical k [] l p b h = absurd (omega arith)
canonical k (d ∷ []) l p b h =
    let is = digit_is d p.0 p.1 in
    let top = p.1 in
    let one : 48 + (0 * 10 + digit_value d) ≡ d = omega (arith, is) in
    decimal_digit (0 * 10 + digit_value d) (omega (arith, is, top)) ∙ ap (λ x. x ∷ []) one
canonical zero (d ∷ e ∷ ds) l p b h = absurd (omega arith)
canonical (suc k) (d ∷ e ∷ ds) l p b h =
    let q = apart e ds in
    let whole : d ∷ e ∷ ds ≡ (d ∷ q.0) ++ q.1 ∷ [] = ap (λ t. d ∷ t) q.2 in
    let leads : 48 < d = leads_by d (d == 48) refl p.0 b in
    let parts = digits_apart (d ∷ q.0) q.1 (subst Digits whole p) in
    let bound : digits_value 10 ((d ∷ q.0) ++ q.1 ∷ []) < 10 ^ 64 = subst (λ t. digits_value 10 t < 10 ^ 64) whole h in
    let size : length (d ∷ q.0) ≡ suc k = omega (arith, l, ap length whole, size_apart (d ∷ q.0) q.1) in
    let front = canonical k (d ∷ q.0) size parts.0 (ap (λ t. t && not (is_empty q.0)) (not_zero d leads)) (below (d ∷ q.0) q.1 bound) in
    subst (λ t. decimal (digits_value 10 t) ≡ t) (sym whole) (push_digit (d ∷ q.0) q.1 parts.0 parts.1 parts.2 leads bound front)

digit_by : (d : ℕ) → is_ascii_digit d ≡ true → (47 < d) × (d < 58)
digit_by d h = (grind (arith, nat_tests), grind (arith, nat_tests))

digits_by : (ds : List ℕ) → all_ascii_digits ds ≡ true → Digits ds
digits_by [] h = tt
digits_by (d ∷ ds) h =
    let both = both_true (is_ascii_digit d) (all_ascii_digits ds) h in
    let one = digit_by d both.0 in
    (one.0, one.1, digits_by ds both.1)

found_by : (all within : Bool) (v n : ℕ) → (if all && within then Some v else None) ≡ Some n → (all ≡ true) × (v ≡ n)
found_by true true v n e = (refl, cc e)
found_by true false v n e = cc e
found_by false true v n e = cc e
found_by false false v n e = cc e

says_by : (most n : ℕ) (ds : List ℕ) → n < 10 ^ 64 → begins_badly ds ≡ false → digits_up_to most 0 ds ≡ Some n → decimal n ≡ ds
says_by most n [] h b e = cc b
says_by most n (d ∷ ds) h b e =
    let q = found_by (all_ascii_digits (d ∷ ds)) (leb (digits_value 10 (d ∷ ds)) most) (digits_value 10 (d ∷ ds)) n e in
    rw (sym q.1) (canonical (length ds) (d ∷ ds) refl (digits_by (d ∷ ds) q.0) b (rw q.1 h))

says_if : (b : Bool) (most n : ℕ) (ds : List ℕ) → n < 10 ^ 64 → begins_badly ds ≡ b → (if b then None else digits_up_to most 0 ds) ≡ Some n → decimal n ≡ ds
says_if true most n ds h e q = cc q
says_if false most n ds h e q = says_by most n ds h e q

pub magnitude_says : (most n : ℕ) (ds : List ℕ) → n < 10 ^ 64 → magnitude_of most ds ≡ Some n → decimal n ≡ ds
unfolding magnitude_of
magnitude_says most n ds h e = says_if (begins_badly ds) most n ds h refl e
