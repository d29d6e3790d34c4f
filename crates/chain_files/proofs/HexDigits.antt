-- A digest's digits, and digests computed.
use Rattle.lemmas.proofs.{◌≡◌, ◌<◌, ◌+◌, ◌/◌, ◌%◌, ◌++◌, ℕ, zero, suc, Bool, true, false, ◌&&◌, cond, List, [], ◌∷◌, length, length-append, refl, ap, ap₂, arith, nat_eq, nat_lt, list_all, nat_tests}
use Rattle.chain_files.specs.{digest_of, hash_of, hex_digit, hex_digits, is_digest, is_hex}

all_joined : (xs ys : List ℕ) → list_all is_hex xs ≡ true → list_all is_hex ys ≡ true → list_all is_hex (xs ++ ys) ≡ true
all_joined [] ys h g = g
all_joined (x ∷ xs) ys h g = by (is_hex x) h (λ e. all_joined xs ys e g)
  where
    by : (b : Bool) → (b && list_all is_hex xs) ≡ true → (list_all is_hex xs ≡ true → list_all is_hex (xs ++ ys) ≡ true) → (b && list_all is_hex (xs ++ ys)) ≡ true
    by true e f = f e
    by false e f = cc e

one_digit : (d : ℕ) → d < 16 → is_hex (hex_digit d) ≡ true
one_digit d h = by (nat_lt d 10) refl
  where
    by : (b : Bool) → nat_lt d 10 ≡ b → is_hex (cond b (48 + d) (87 + d)) ≡ true
    by true e = grind (arith, nat_tests)
    by false e = grind (arith, nat_tests)

all_hex : (k n : ℕ) → list_all is_hex (hex_digits k n) ≡ true
all_hex zero n = refl
all_hex (suc k) n = all_joined (hex_digits k (n / 16)) (hex_digit (n % 16) ∷ []) (all_hex k (n / 16)) (ap (λ b. b && true) (one_digit (n % 16) (omega arith)))

so_many : (k n : ℕ) → length (hex_digits k n) ≡ k
so_many zero n = refl
so_many (suc k) n = omega (arith, length-append (hex_digits k (n / 16)) (hex_digit (n % 16) ∷ []), so_many k (n / 16))

pub are_digits : (bytes : List ℕ) → is_digest (digest_of bytes) ≡ true
are_digits bytes = ap₂ (λ n b. nat_eq n 16 && b) (so_many 16 (hash_of bytes)) (all_hex 16 (hash_of bytes))
