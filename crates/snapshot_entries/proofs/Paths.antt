-- The filters above a node and its columns, by the numbers of sites and versions.
use Rattle.lemmas.proofs.{◌≡◌, ℕ, ◌<◌, List, map, length, Ok, sym, subst}
use Rattle.std.proofs.lemmas.Option.{get_or_from_slice_get, slice_get_within}
use Rattle.rdf_values.specs.{ColType, column_kind, FitsRow, fn_names, IsStored, path, scope_at, scope_of, Statement, Under, Value}
use Rattle.rdf_model.specs.{column_value, Dataset, Faults, FitsOutcome, for_all, Gives, Needs, Outcome, through}
use Rattle.rdf_model.proofs.Accepted.{column_fits}
use Rattle.graph_numbers.specs.{filter_sites, IsBelow, sites, Source, source_in, sources, through_sites, version_at, version_count}
use Rattle.graph_numbers.proofs.Placing.{itself, source_count}
use Rattle.graph_numbers.proofs.Covering.{AreVisible, through_is, values_are, IsGiven, column_source, source_is}
use Rattle.snapshot_entries.specs.{IsStoredOutcome}
use Rattle.snapshot_entries.proofs.Sites.{Accepted, number, version}

-- a value of a kind that tables hold
pub fits_stored : (t : ColType) (o : Outcome ⊥ Value) → IsStored t → FitsOutcome t o → IsStoredOutcome o
fits_stored ColType.Int (Gives (Value.Int z)) s h = tt
fits_stored ColType.Int (Gives (Value.Bool b)) s h = elim h [ ]
fits_stored ColType.Int (Gives (Value.Vect zs)) s h = tt
fits_stored ColType.Bool o s h = elim s [ ]
fits_stored ColType.Vect (Gives (Value.Int z)) s h = tt
fits_stored ColType.Vect (Gives (Value.Bool b)) s h = elim h [ ]
fits_stored ColType.Vect (Gives (Value.Vect zs)) s h = tt
fits_stored t (Faults kind) s h = tt
fits_stored t (Needs m) s h = tt

module _ (d : Dataset) (row : List Value) (u : Under) (before : List Statement) (good : Accepted d row u before) (node : List ℕ) where
  -- the filters above the node
  pub filters_are : through d.fns d.columns row {M = ⊥} (path before node) u ≡ through_sites (number d row u before) (filter_sites d.columns (fn_names d.fns) before node)
  filters_are = through_is ⊥ d.fns d.columns row u before before itself node

  -- its columns
  pub columns_are : (names : List (List ℕ)) → AreVisible ⊥ d.fns d.columns row u before before node names
      → for_all (column_value d.fns d.columns row {M = ⊥} (path before node) u) names ≡ for_all (version d row u before) (map (version_at d.columns before node) names)
  columns_are names v = values_are ⊥ d.fns d.columns row u before before good itself node names v

  module _ (name : List ℕ) (t : ColType) (is : column_kind (scope_at (fn_names d.fns) (scope_of d.columns) before node) name ≡ Ok t) where
    -- a visible column is a version
    pub column_there : (version_at d.columns before node name < version_count d.columns before)
        × IsBelow (length d.columns) (length (sites d.columns (fn_names d.fns) before)) (source_in (sources d.columns (fn_names d.fns) u before) (version_at d.columns before node name))
    column_there =
        let h = column_source ⊥ d.fns d.columns row u before good node name t is in
        let lt = slice_get_within (sources d.columns (fn_names d.fns) u before) (version_at d.columns before node name) h.0 h.1 in (
          subst (λ (n : ℕ). version_at d.columns before node name < n) (source_count d.columns (fn_names d.fns) u before) lt,
          subst (IsBelow (length d.columns) (length (sites d.columns (fn_names d.fns) before))) (sym (get_or_from_slice_get (sources d.columns (fn_names d.fns) u before) (version_at d.columns before node name) h.0 (Source.Cell 0) h.1)) (go h.0 _ h.2),
        )
      where
        go : (src : Source) (o : Outcome ⊥ Value) → IsGiven ⊥ d.fns d.columns row u before src o → IsBelow (length d.columns) (length (sites d.columns (fn_names d.fns) before)) src
        go (Source.Cell col) o g = g.0
        go (Source.Site s) o g = slice_get_within (sites d.columns (fn_names d.fns) before) s g.0 g.1
        go (Source.Element s i tags) o g = slice_get_within (sites d.columns (fn_names d.fns) before) s g.0 g.1

    -- and comes to a value of its kind
    pub column_stored : FitsRow d.columns row → IsStored t → IsStoredOutcome (version d row u before (version_at d.columns before node name))
    column_stored fits stored =
        let at = source_is ⊥ d.fns d.columns row u before _ _ (column_source ⊥ d.fns d.columns row u before good node name t is) in
        subst IsStoredOutcome (sym at) (fits_stored t _ stored (column_fits d row before node u name t good fits is))
