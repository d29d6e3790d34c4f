-- Bytes without the end of a line.
use Rattle.std.specs.Prelude.{◌≡◌, ℕ, false, ◌==◌, ⊤, List, [], ◌∷◌}

abbrev pub Endless : List ℕ → Type 0
Endless [] = ⊤
Endless (b ∷ bs) = ((b == 10) ≡ false) × Endless bs
