-- What a plan reads of an entry, by the numbers of sites and versions.
use Rattle.lemmas.proofs.{◌≡◌, ℕ, ◌+◌, ◌<◌, Bool, true, false, ◌||◌, List, [], ◌∷◌, ◌++◌, map, Some, None, Result, Ok, Err, refl, sym, ◌∙◌, ap, subst, if◌then◌else◌, not}
use Rattle.std.specs.List.{AllByRecursion}
use Rattle.rdf_values.specs.{among, ColType, column_kind, fn_names, GraphCause, is_node, IsStored, Scope, scope_at, scope_of, Value}
use Rattle.rdf_model.specs.{◌>>=◌, Dataset, for_all, Gives}
use Rattle.graph_numbers.specs.{booked_statements, GraphView, through_sites, version_at}
use Rattle.graph_numbers.proofs.Placing.{versions_count, filter_sites_below}
use Rattle.graph_numbers.proofs.Covering.{AreVisible}
use Rattle.snapshot_plan.specs.{first_bad, is_bad, is_stored, PlanView, scope_in}
use Rattle.snapshot_rows.specs.{kept_cells}
use Rattle.snapshot_entries.specs.{IsColumn, IsWanted, IsWork, outcome_at, row_in, site_in, site_total, version_in}
use Rattle.snapshot_entries.specs.declared.wanted.WantedSites.{WantedSites}
use Rattle.snapshot_entries.proofs.Evaluated.{row_fits}
use Rattle.snapshot_entries.proofs.Paths.{column_stored, column_there, columns_are, filters_are}
use Rattle.snapshot_entries.proofs.Told.{accepted_of}
use Rattle.snapshot_plan.proofs.Headed.{kept as no_bad}

-- a visible column of a kind that tables hold
abbrev IsShown : Scope → List ℕ → Type 0
IsShown scope name = (t : ColType) × (column_kind scope name ≡ Ok t) × IsStored t

stored : (r : Result ColType GraphCause) (b : Bool) → (not (is_stored r) || b) ≡ false → (t : ColType) × (r ≡ Ok t) × IsStored t
stored (Ok ColType.Int) b h = (ColType.Int, refl, tt)
stored (Ok ColType.Bool) b h = cc h
stored (Ok ColType.Vect) b h = (ColType.Vect, refl, tt)
stored (Err why) b h = cc h

all_shown : (scope : Scope) (names : List (List ℕ)) (i : ℕ) (before : List (List ℕ)) → first_bad scope i before names ≡ None → AllByRecursion (IsShown scope) names
all_shown scope [] i before h = tt
all_shown scope (name ∷ names) i before h = go (is_bad scope before name) refl h (all_shown scope names (i + 1) (before ++ name ∷ []))
  where
    go : (b : Bool) → is_bad scope before name ≡ b → (if b then Some i else first_bad scope (i + 1) (before ++ name ∷ []) names) ≡ None
        → (first_bad scope (i + 1) (before ++ name ∷ []) names ≡ None → AllByRecursion (IsShown scope) names) → AllByRecursion (IsShown scope) (name ∷ names)
    go true e q more = cc q
    go false e q more = (stored (column_kind scope name) (among name before) e, more q)

module _ (p : PlanView) (d : Dataset) (work : IsWork p d) where
  abbrev scope : Scope
  scope = scope_at (fn_names d.fns) (scope_of d.columns) (booked_statements p.graph) p.node

  shown : AllByRecursion (IsShown scope) p.columns
  shown = subst (λ (g : GraphView). AllByRecursion (IsShown (scope_in g p.node)) p.columns) work.graph
      (all_shown (scope_in p.graph p.node) p.columns 0 [] (no_bad (is_node (booked_statements p.graph) p.node) (first_bad (scope_in p.graph p.node) 0 [] p.columns) _ work.planned.planned))

  visible : (row : List Value) (names : List (List ℕ)) → AllByRecursion (IsShown scope) names → AreVisible ⊥ d.fns d.columns row p.under (booked_statements p.graph) (booked_statements p.graph) p.node names
  visible row [] h = tt
  visible row (name ∷ names) h = ((h.0.0, h.0.1), visible row names h.1)

  -- a column of the plan
  pub is_column : (name : List ℕ) → IsShown scope name → IsColumn p d (version_at d.columns (booked_statements p.graph) p.node name)
  is_column name h =
      let there = column_there d (row_in d.rows 0) p.under (booked_statements p.graph) (accepted_of p d work) p.node name h.0 h.1 in (
        (subst (λ (n : ℕ). version_at d.columns (booked_statements p.graph) p.node name < n) (sym (versions_count d.columns (fn_names d.fns) (booked_statements p.graph))) there.0, there.1),
        λ e lt. column_stored d (row_in d.rows e) p.under (booked_statements p.graph) (accepted_of p d work) p.node name h.0 h.1 (row_fits p d work e lt) h.2,
      )

  each_column : (names : List (List ℕ)) → AllByRecursion (IsShown scope) names → AllByRecursion (IsColumn p d) (map (version_at d.columns (booked_statements p.graph) p.node) names)
  each_column [] h = tt
  each_column (name ∷ names) h = (is_column name h.0, each_column names h.1)

  module _ (w : WantedSites) (wanted : IsWanted p d w) where
    pub filters_below : AllByRecursion (λ s. s < site_total p d) w.filters
    filters_below = subst (AllByRecursion (λ s. s < site_total p d)) (sym wanted.filters) (filter_sites_below d.columns (fn_names d.fns) (booked_statements p.graph) p.node)

    pub columns_good : AllByRecursion (IsColumn p d) w.columns
    columns_good = subst (AllByRecursion (IsColumn p d)) (sym wanted.columns) (each_column p.columns shown)

    -- what the plan's filters and columns come to, by their numbers
    pub outcome_is : (e : ℕ) → outcome_at p d e ≡ (through_sites (site_in p d e) w.filters >>= λ passed. if passed then for_all (version_in p d e) w.columns >>= kept_cells else Gives None)
    outcome_is e =
        let filters = filters_are d (row_in d.rows e) p.under (booked_statements p.graph) (accepted_of p d work) p.node ∙ ap (through_sites (site_in p d e)) (sym wanted.filters) in
        let columns = columns_are d (row_in d.rows e) p.under (booked_statements p.graph) (accepted_of p d work) p.node p.columns (visible (row_in d.rows e) p.columns shown) ∙ ap (for_all (version_in p d e)) (sym wanted.columns) in
        λ i. filters i >>= λ passed. if passed then columns i >>= kept_cells else Gives None
