-- An entry in one number.
use Rattle.std.specs.Prelude.{ℕ, zero, suc, Option, None, Some}

-- the entry before a number: none before the first
abbrev pub entry_before : ℕ → Option ℕ
entry_before zero = None
entry_before (suc e) = Some e
