-- The number at the front of a text.
use Rattle.lemmas.proofs.{◌≡◌, ◌≢◌, ◌≤◌, ◌<◌, ◌+◌, ◌*◌, ◌^◌, ◌-◌, ◌-ℤ◌, ℕ, ℤ, negsuc, of_z, to_z, w64, zero, suc, List, [], ◌∷◌, ◌++◌, length, take, get_or, Bool, true, false, None, Some, ◌&&◌, add-one, arith, refl, ◌==◌, if◌then◌else◌, all_ascii_digits, digit_value, digit_value_digit, digits_value_after, ints, is_ascii_digit, nat_tests, pow-le-pow_right, take_more}
use Rattle.rdf_values.specs.{AreLeading, begins_badly, digits_up_to, integer_of, IsDigit, IsLeading, magnitude_of, negative, positive, written_after}
use Rattle.rdf_values.proofs.Fronts.{one_more_digit}

-- ---- one digit more

written_push : (xs : List ℕ) (n m b : ℕ) → written_after n xs ≡ Some m → is_ascii_digit b ≡ true → written_after n (xs ++ b ∷ []) ≡ Some (m * 10 + digit_value b)
written_push [] n m b w d = let same : n ≡ m = cc w in rw (d, same) refl
written_push (x ∷ xs) n m b w d = go (is_ascii_digit x) w (λ v. written_push xs (n * 10 + digit_value x) m b v d)
  where
    go : (t : Bool) → (if t && all_ascii_digits xs then Some (digits_value_after 10 (n * 10 + digit_value x) xs) else None) ≡ Some m
        → (written_after (n * 10 + digit_value x) xs ≡ Some m → written_after (n * 10 + digit_value x) (xs ++ b ∷ []) ≡ Some (m * 10 + digit_value b))
        → (if t && all_ascii_digits (xs ++ b ∷ []) then Some (digits_value_after 10 (n * 10 + digit_value x) (xs ++ b ∷ [])) else None) ≡ Some (m * 10 + digit_value b)
    go t w next = grind arith

pub front_more : (text rest : List ℕ) (b i n digit : ℕ) → text ≡ b ∷ rest → i < length rest → i < 17 → written_after 0 (take (i + 1) text) ≡ Some n → n < 10 ^ (i + 1) → IsDigit (get_or rest i 0) (Some digit)
    → (written_after 0 (take (i + 1 + 1) text) ≡ Some (n * 10 + digit)) × (n * 10 + digit < 10 ^ (i + 1 + 1))
front_more text rest b i n digit e h l w f d =
    let long : i + 1 < length text = rw e (omega (arith, h)) in
    let next : get_or text (i + 1) 0 ≡ get_or rest i 0 = rw (e, add-one) refl in
    (rw (take_more text (i + 1) 0 long, next, d.1) (written_push (take (i + 1) text) 0 n (get_or rest i 0) w d.0), (one_more_digit (i + 1) n digit (omega arith) f d.2).0)

-- ---- where the digits end

not_zero : (b n : ℕ) → IsDigit b (Some n) → n ≢ 0 → (b == 48) ≡ false
not_zero b n d h = grind (arith, nat_tests, digit_value_digit)

canonical : (text rest : List ℕ) (b i : ℕ) → text ≡ b ∷ rest → 0 < i → (b == 48) ≡ false → begins_badly (take i text) ≡ false
canonical text rest b i e h n = grind arith

pub front_found : (text rest : List ℕ) (b first i n : ℕ) → text ≡ b ∷ rest → IsDigit b (Some first) → first ≢ 0 → 0 < i → i ≤ suc (length rest) → i ≤ 18 → written_after 0 (take i text) ≡ Some n → n < 10 ^ i → AreLeading text n i
front_found text rest b first i n e d z h l few w f =
    let most : 10 ^ i ≤ 10 ^ 18 = pow-le-pow_right {n = 10} (omega arith) few in
    let all : 10 ^ 18 ≡ 1000000000000000000 = refl in
    record { within = rw e l; canonical = canonical text rest b i e h (not_zero b first d z); written = w; few = omega (arith, most, all) }

-- ---- what the digits write

up_to : (ds : List ℕ) (n most : ℕ) → written_after 0 ds ≡ Some n → n ≤ most → digits_up_to most 0 ds ≡ Some n
up_to ds n most w h = grind (arith, all_ascii_digits, digits_value_after, nat_tests)

leading_magnitude : (text : List ℕ) (n count most : ℕ) → AreLeading text n count → 1000000000000000000 ≤ most → magnitude_of most (take count text) ≡ Some n
unfolding magnitude_of
leading_magnitude text n count most h m =
    let few = h.few in
    rw h.canonical (up_to (take count text) n most h.written (omega (arith, few)))

pub leading_positive : (text : List ℕ) (count n : ℕ) (z : ℤ) → AreLeading text n count → positive (Some n) ≡ Some z → IsLeading text z count
unfolding integer_of
leading_positive [] zero n z h p = cc h.canonical
leading_positive (b ∷ bs) (suc count) n z h p =
    let plus : (b == 45) ≡ false = grind (arith, is_ascii_digit, all_ascii_digits, digits_value_after, digit_value, nat_tests, h.written) in
    let magnitude : magnitude_of 9223372036854775807 (b ∷ take count bs) ≡ Some n = leading_magnitude (b ∷ bs) n (suc count) 9223372036854775807 h (omega arith) in
    record { within = h.within; spelt = rw (plus, magnitude) p }
leading_positive text count n z h p = cc h.canonical

pub leading_negative : (text rest : List ℕ) (b count n : ℕ) (z : ℤ) → text ≡ b ∷ rest → (b == 45) ≡ true → AreLeading rest n count → negative (Some n) ≡ Some z → IsLeading text z (count + 1)
unfolding integer_of
leading_negative text rest b count n z e minus h p =
    let magnitude = leading_magnitude rest n count 9223372036854775808 h (omega arith) in
    let within = h.within in
    record { within = rw e (omega (arith, within)); spelt = rw (e, add-one, minus, magnitude) p }

-- the number below zero, as it is computed
pub number_below : (n : ℕ) → 0 < n → n < 1000000000000000000 → negative (Some n) ≡ Some (to_z w64 (of_z w64 (negsuc 0 -ℤ to_z w64 (n - 1))))
number_below n h l = grind (arith, ints)
