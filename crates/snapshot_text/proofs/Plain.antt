-- No byte of a field is a comma, a double quote or a line's end.
use Rattle.lemmas.proofs.{◌≡◌, ◌<◌, ◌^◌, ℕ, ℤ, pos, negsuc, suc, true, false, List, [], ◌∷◌, ◌++◌, length, refl, arith, decimal, ◌==◌, all_ascii_digits, both_true, decimal_nonempty, digits_decimal, is_ascii_digit, join_with_byte, list_all, list_any, nat_tests, signed_decimal}
use Rattle.csv.specs.Writing.{default_writer, needs_byte}
use Rattle.rdf_values.specs.{Has64Bits, is_name, is_word_byte, is_word_start}
use Rattle.rdf_values.proofs.OneText.{own}

-- ---- bytes above the comma

abbrev pub Above : List ℕ → Type 0
Above [] = Unit {0}
Above (b ∷ bs) = (44 < b) × Above bs

abbrev pub AllAbove : List (List ℕ) → Type 0
AllAbove [] = Unit {0}
AllAbove (x ∷ xs) = Above x × AllAbove xs

pub above_joined : (xs ys : List ℕ) → Above xs → Above ys → Above (xs ++ ys)
above_joined [] ys h k = k
above_joined (x ∷ xs) ys h k = (h.0, above_joined xs ys h.1 k)

not_comma : (b : ℕ) → 44 < b → (b == 44) ≡ false
not_comma b h = grind (arith, nat_tests)

not_quote : (b : ℕ) → 44 < b → (b == 34) ≡ false
not_quote b h = grind (arith, nat_tests)

not_return : (b : ℕ) → 44 < b → (b == 13) ≡ false
not_return b h = grind (arith, nat_tests)

not_feed : (b : ℕ) → 44 < b → (b == 10) ≡ false
not_feed b h = grind (arith, nat_tests)

-- such a field needs no quotes
pub plain : (xs : List ℕ) → Above xs → list_any (needs_byte default_writer) xs ≡ false
plain [] h = refl
plain (b ∷ bs) h = rw (not_comma b h.0, not_quote b h.0, not_return b h.0, not_feed b h.0) (plain bs h.1)

-- ---- numbers

-- each byte is a digit or a sign
abbrev pub Numeral : List ℕ → Type 0
Numeral [] = Unit {0}
Numeral (b ∷ bs) = (44 < b) × (b < 58) × Numeral bs

abbrev pub AllNumerals : List (List ℕ) → Type 0
AllNumerals [] = Unit {0}
AllNumerals (x ∷ xs) = Numeral x × AllNumerals xs

digit_by : (d : ℕ) → is_ascii_digit d ≡ true → (44 < d) × (d < 58)
digit_by d h = (grind (arith, nat_tests), grind (arith, nat_tests))

digits_numeral : (ds : List ℕ) → all_ascii_digits ds ≡ true → Numeral ds
digits_numeral [] h = tt
digits_numeral (d ∷ ds) h =
    let both = both_true (is_ascii_digit d) (all_ascii_digits ds) h in
    let one = digit_by d both.0 in
    (one.0, one.1, digits_numeral ds both.1)

decimal_numeral : (n : ℕ) → n < 2 ^ 64 → Numeral (decimal n)
decimal_numeral n h = digits_numeral (decimal n) (digits_decimal own n h)

pub number_numeral : (z : ℤ) → Has64Bits z → Numeral (signed_decimal z)
number_numeral (pos n) h = decimal_numeral n (omega arith)
number_numeral (negsuc n) h = (omega arith, omega arith, decimal_numeral (suc n) (omega arith))

pub number_some : (z : ℤ) → Has64Bits z → 0 < length (signed_decimal z)
number_some (pos n) h = decimal_nonempty n (omega arith)
number_some (negsuc n) h = omega arith

pub numeral_above : (xs : List ℕ) → Numeral xs → Above xs
numeral_above [] h = tt
numeral_above (x ∷ xs) h = (h.0, numeral_above xs h.2)

-- numerals with semicolons between them
pub numerals_above : (xs : List (List ℕ)) → AllNumerals xs → Above (join_with_byte 59 xs)
numerals_above [] h = tt
numerals_above (x ∷ []) h = numeral_above x h.0
numerals_above (x ∷ y ∷ ys) h = above_joined x (59 ∷ join_with_byte 59 (y ∷ ys)) (numeral_above x h.0) (omega arith, numerals_above (y ∷ ys) h.1)

-- ---- names

-- no byte is a colon, and each is above the comma
abbrev pub Wordy : List ℕ → Type 0
Wordy [] = Unit {0}
Wordy (b ∷ bs) = (44 < b) × ((b == 58) ≡ false) × Wordy bs

word_byte : (b : ℕ) → is_word_byte b ≡ true → (44 < b) × ((b == 58) ≡ false)
word_byte b h = (grind (arith, nat_tests), grind (arith, nat_tests))

first_byte : (b : ℕ) → is_word_start b ≡ true → (44 < b) × ((b == 58) ≡ false) × ((b == 239) ≡ false)
first_byte b h = (grind (arith, nat_tests), grind (arith, nat_tests), grind (arith, nat_tests))

word_bytes : (bs : List ℕ) → list_all is_word_byte bs ≡ true → Wordy bs
word_bytes [] h = tt
word_bytes (b ∷ bs) h =
    let both = both_true (is_word_byte b) (list_all is_word_byte bs) h in
    let one = word_byte b both.0 in
    (one.0, one.1, word_bytes bs both.1)

-- the bytes begin with none of a byte order mark
abbrev pub Starts : List ℕ → Type 0
Starts [] = ⊥
Starts (b ∷ bs) = (b == 239) ≡ false

pub starts_joined : (xs ys : List ℕ) → Starts xs → Starts (xs ++ ys)
starts_joined [] ys h = absurd h
starts_joined (x ∷ xs) ys h = h

pub name_bytes : (name : List ℕ) → is_name name ≡ true → Wordy name × Starts name
unfolding is_name
name_bytes [] h = cc h
name_bytes (b ∷ bs) h =
    let most = both_true _ _ h in
    let short = both_true _ _ most.0 in
    let word = both_true _ _ short.0 in
    let parts = both_true (is_word_start b) (list_all is_word_byte bs) word.0 in
    let one = first_byte b parts.0 in
    ((one.0, one.1, word_bytes bs parts.1), one.2)

pub wordy_above : (xs : List ℕ) → Wordy xs → Above xs
wordy_above [] h = tt
wordy_above (x ∷ xs) h = (h.0, wordy_above xs h.2)
