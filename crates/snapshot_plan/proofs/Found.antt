-- The kind of a column at a node, by what look-ups answer.
use Rattle.lemmas.proofs.{◌≡◌, ◌<◌, ℕ, Bool, true, false, List, length, Some, Ok, Err, refl, ap, ap₂, sym, ◌∙◌, slice_get}
use Rattle.rdf_values.specs.{ColType, Column, column_kind, is_visible, path, scope_at, scope_of, Statement, target_of}
use Rattle.rdf_values.specs.declared.scripts.script_cause.GraphCause.TheVariants.{UnknownColumn}
use Rattle.graph_numbers.specs.{booked_statements, GraphView, named_version, version_count}
use Rattle.graph.specs.{AreKinds}
use Rattle.graph.proofs.Walking.{found_as, found_none, found_within, kinds_counted}
use Rattle.snapshot_plan.specs.{scope_in}

module _ (g : GraphView) (h : List Column) (b : List Statement) (node : List ℕ) (kinds : List ColType) (eh : h ≡ g.header) (eb : b ≡ booked_statements g) (k : AreKinds g.header g.names (booked_statements g) kinds) where
  seen : (name : List ℕ) (t : Bool) → t ≡ is_visible (scope_at g.names (scope_of h) b node) name → t ≡ is_visible (scope_in g node) name
  seen name t e = e ∙ ap₂ (λ x y. is_visible (scope_at g.names (scope_of x) y node) name) eh eb

  pub kind_none : (name : List ℕ) (t : Bool) → t ≡ is_visible (scope_at g.names (scope_of h) b node) name → t ≡ false → column_kind (scope_in g node) name ≡ Err UnknownColumn
  kind_none name t e f = found_none g.header g.names (booked_statements g) node kinds name t (seen name t e) f

  pub kinds_many : length kinds ≡ version_count h b
  kinds_many = kinds_counted g.header g.names (booked_statements g) node kinds k ∙ sym (ap₂ version_count eh eb)

  pub kind_within : (name target : List ℕ) → target ≡ target_of (path b node) name → (t : Bool) → t ≡ is_visible (scope_at g.names (scope_of h) b node) name → t ≡ true → (v : ℕ) → v ≡ named_version h b node target → v < length kinds
  kind_within name target is t e f v at =
      found_within g.header g.names (booked_statements g) node kinds k name target (is ∙ ap (λ y. target_of (path y node) name) eb) t (seen name t e) f v (at ∙ ap₂ (λ x y. named_version x y node target) eh eb)

  pub kind_found : (name target : List ℕ) → target ≡ target_of (path b node) name → (t : Bool) → t ≡ is_visible (scope_at g.names (scope_of h) b node) name → t ≡ true → (v : ℕ) → v ≡ named_version h b node target
      → (kind : ColType) → slice_get kinds v ≡ Some kind → column_kind (scope_in g node) name ≡ Ok kind
  kind_found name target is t e f v at kind own =
      let found = found_as g.header g.names (booked_statements g) node kinds k name target (is ∙ ap (λ y. target_of (path y node) name) eb) t (seen name t e) f v (at ∙ ap₂ (λ x y. named_version x y node target) eh eb) kind v (own, refl) in
      found.kind
