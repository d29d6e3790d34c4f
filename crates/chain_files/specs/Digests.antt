-- The digest of a script: a hash of its bytes, FNV-1a of 64 bits.
use Rattle.std.specs.Prelude.{ℕ, zero, suc, ◌+◌, ◌*◌, ◌/◌, ◌%◌, ◌^◌, List, [], ◌∷◌, ◌++◌, fold, bit_xor, if◌then◌else◌, nat_lt}

-- the hash with one byte more
abbrev pub hash_step : ℕ → ℕ → ℕ
hash_step hash byte = (bit_xor hash byte * 1099511628211) % 2 ^ 64

-- byte after byte
abbrev pub hash_of : List ℕ → ℕ
hash_of bytes = fold hash_step 14695981039346656037 bytes

-- 0 to 9, a to f
abbrev pub hex_digit : ℕ → ℕ
hex_digit d = if nat_lt d 10 then 48 + d else 87 + d

-- so many digits of a number, the last ones
abbrev pub hex_digits : ℕ → ℕ → List ℕ
hex_digits zero n = []
hex_digits (suc k) n = hex_digits k (n / 16) ++ hex_digit (n % 16) ∷ []

-- the hash's 16 digits
abbrev pub digest_of : List ℕ → List ℕ
digest_of bytes = hex_digits 16 (hash_of bytes)
