-- Cells of which nothing is known.
use Rattle.lemmas.proofs.{◌≡◌, ℕ, zero, suc, List, [], ◌∷◌, Some, sym, ap, ◌∙◌, slice_get}
use Rattle.std.specs.List.{AllByRecursion}
use Rattle.snapshot_entries.specs.declared.known.Known.{Known}

-- each was evaluated in no entry
abbrev pub AllOfNone : List Known → Type 0
AllOfNone cells = AllByRecursion (λ (k : Known). k.entry ≡ 4294967295) cells

at_none : (cells : List Known) → AllOfNone cells → (s : ℕ) (k : Known) → slice_get cells s ≡ Some k → k.entry ≡ 4294967295
at_none [] h s k at = cc at
at_none (c ∷ cells) h zero k at = let q : c ≡ k = cc at in ap (λ (x : Known). x.entry) (sym q) ∙ h.0
at_none (c ∷ cells) h (suc s) k at = at_none cells h.1 s k at
