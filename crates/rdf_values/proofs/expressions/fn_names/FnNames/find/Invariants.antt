use Rattle.lemmas.proofs.{◌≡◌, ◌<◌, ℕ, slice_index_or}
use Rattle.rdf_values.proofs.expressions.fn_names.FnNames.find.Given as goal

abbrev pub invariant-loop-i : goal.invariant-loop-i
invariant-loop-i l = (k : ℕ) (d : _) → k < l.i → (slice_index_or l.self-inside.items.items k d).name ≡ l.name → ⊥
