-- The columns of a table.
use Rattle.lemmas.proofs.{◌≡◌, ℕ, zero, suc, ◌<◌, List, [], ◌∷◌, ◌++◌, length, get_or, sym, ◌∙◌, ap, subst, arith}
use Rattle.rdf_values.specs.{AreColumns, ColType, Column, IsStored}

stored : (seen cs : List Column) → AreColumns seen cs → (i : ℕ) → i < length cs → (d : Column) → IsStored (get_or cs i d).kind
stored seen [] h i lt d = absurd (omega (arith, lt))
stored seen (c ∷ cs) h zero lt d = h.1
stored seen (c ∷ cs) h (suc i) lt d = stored (seen ++ c ∷ []) cs h.2 i (omega (arith, lt)) d

-- no column of a table is of truth values
pub not_stored : (cs now : List Column) → now ≡ cs → AreColumns [] cs → (i : ℕ) → i < length cs → (d : Column) → (get_or now i d).kind ≡ ColType.Bool → ⊥
not_stored cs now e h i lt d is = subst IsStored (ap (λ (xs : List Column). (get_or xs i d).kind) (sym e) ∙ is) (stored [] cs h i lt d)
