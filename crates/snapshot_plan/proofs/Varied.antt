-- The variation that is asked for, among those of a graph.
use Rattle.lemmas.proofs.{◌≡◌, ◌<◌, ℕ, true, List, length, get_or, Some, ap, ap₂, sym, ◌∙◌, both_true, bytes_eq-Decides, list_any_at, slice_get-get_or}
use Rattle.rdf_values.specs.{same, same_variation, Variation}
use Rattle.snapshot_plan.specs.{IsNumber, no_variation}

same_is : (u v : Variation) → same_variation u v ≡ true → v ≡ u
same_is u v h =
    let both = both_true (same u.name v.name) (same u.tag v.tag) h in
    sym (ap₂ (λ (n t : List ℕ). record { name = n; tag = t }) ((bytes_eq-Decides u.name v.name).0 both.0) ((bytes_eq-Decides u.tag v.tag).0 both.1))

pub number_is : (all : List Variation) (v : ℕ) (u : Variation) → v < length all → same_variation u (get_or all v no_variation) ≡ true → IsNumber all (Some v) (Some u)
number_is all v u l h =
    (slice_get-get_or all v no_variation l ∙ ap Some (same_is u (get_or all v no_variation) h), l, list_any_at (same_variation u) all v no_variation l h)
