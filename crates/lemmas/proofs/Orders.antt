-- Numbers that are compared.
use Rattle.std.proofs.Common.{◌+ℤ◌, ◌+◌, ◌<◌, ◌≡◌, ◌≤◌, ◌⊎◌, arith, nat_eq, refl, true, ℕ, ℤ, nat_abs}
use Rattle.std.proofs.lemmas.Bool.Decides.{Decides-eqb}
use Rattle.std.proofs.lemmas.Int.{ints}

pub eq_itself : (n : ℕ) → nat_eq n n ≡ true
eq_itself n = (Decides-eqb n n).1 refl

pub le_or_lt : (a b : ℕ) → (a ≤ b) ⊎ (b < a)
le_or_lt a b = grind arith

pub lt_or_le : (a b : ℕ) → (a < b) ⊎ (b ≤ a)
lt_or_le a b = grind arith

pub lt_or_last : (m n : ℕ) → m < n + 1 → (m < n) ⊎ (m ≡ n)
lt_or_last m n h = grind arith

pub abs_add : (a b : ℤ) → nat_abs (a +ℤ b) ≤ nat_abs a + nat_abs b
abs_add a b = grind (arith, ints)
