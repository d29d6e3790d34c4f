-- The columns of a plan are a header.
use Rattle.rdf_model.proofs.Accepted.{turned}
use Rattle.lemmas.proofs.{◌≡◌, ◌+◌, ℕ, Bool, true, false, ◌||◌, List, [], ◌∷◌, ◌++◌, map, Option, Some, None, Result, Ok, Err, refl, ap₂, subst, ◌∙◌, arith, not, if◌then◌else◌}
use Rattle.std.proofs.lemmas.List.{length-map, map-append}
use Rattle.rdf_values.specs.{among, AreColumns, ColType, column_kind, GraphCause, has_name, is_node, IsStored, kind_or_int, Scope}
use Rattle.graph_numbers.specs.{booked_statements}
use Rattle.snapshot_plan.specs.{column_at, first_bad, is_bad, is_stored, PlansHaveHeaders, scope_in, SnapCause, unless_bad}

pub kept : (b : Bool) (o : Option ℕ) (rest : Option SnapCause) → (if not b then Some SnapCause.BadNode else unless_bad o rest) ≡ None → o ≡ None
kept true None rest h = refl
kept true (Some i) rest h = cc h
kept false o rest h = cc h

stored : (r : Result ColType GraphCause) → is_stored r ≡ true → IsStored (kind_or_int r)
stored (Ok ColType.Int) h = tt
stored (Ok ColType.Bool) h = cc h
stored (Ok ColType.Vect) h = tt
stored (Err why) h = cc h

good : (a b : Bool) → (not a || b) ≡ false → (a ≡ true) × (b ≡ false)
good true false h = (refl, refl)
good true true h = cc h
good false b h = cc h

named : (scope : Scope) (name : List ℕ) (before : List (List ℕ)) → has_name (map (column_at scope) before) name ≡ among name before
named scope name [] = refl
named scope name (x ∷ xs) = ap₂ (λ a b. a || b) (turned x name) (named scope name xs)

fits : (scope : Scope) (names : List (List ℕ)) (i : ℕ) (before : List (List ℕ)) → first_bad scope i before names ≡ None → AreColumns (map (column_at scope) before) (map (column_at scope) names)
fits scope [] i before h = tt
fits scope (name ∷ names) i before h = go (is_bad scope before name) refl h (fits scope names (i + 1) (before ++ name ∷ []))
  where
    go : (b : Bool) → is_bad scope before name ≡ b → (if b then Some i else first_bad scope (i + 1) (before ++ name ∷ []) names) ≡ None
        → (first_bad scope (i + 1) (before ++ name ∷ []) names ≡ None → AreColumns (map (column_at scope) (before ++ name ∷ [])) (map (column_at scope) names))
        → AreColumns (map (column_at scope) before) (map (column_at scope) (name ∷ names))
    go true e q more = cc q
    go false e q more =
        let both = good (is_stored (column_kind scope name)) (among name before) e in (
          named scope name before ∙ both.1,
          stored (column_kind scope name) both.0,
          subst (λ seen. AreColumns seen (map (column_at scope) names)) (map-append (column_at scope) before (name ∷ [])) (more q),
        )

pub plans_have_headers : PlansHaveHeaders
plans_have_headers p h =
    let some = h.some in
    let few = h.few in
    let size = length-map p.columns (column_at (scope_in p.graph p.node)) in
    record {
      some = omega (arith, some, size);
      few = omega (arith, few, size);
      distinct = fits (scope_in p.graph p.node) p.columns 0 [] (kept (is_node (booked_statements p.graph) p.node) (first_bad (scope_in p.graph p.node) 0 [] p.columns) _ h.planned);
    }
