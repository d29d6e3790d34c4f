-- The first of the columns that is bad.
use Rattle.lemmas.proofs.{if◌then◌else◌, ◌≡◌, ℕ, Bool, true, false, Option, refl}

by : (b : Bool) (x y : Option ℕ) → b ≡ true → (if b then x else y) ≡ x
by true x y e = refl
by false x y e = cc e
