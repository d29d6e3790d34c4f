-- The entries of a snapshot are those that pass, with what the columns come to.
use Rattle.lemmas.proofs.{◌≡◌, ℕ, ◌+◌, Bool, true, false, cond, List, [], ◌∷◌, Option, Some, None, Ok, Err, refl, ap, subst, if◌then◌else◌, filter}
use Rattle.std.specs.List.{AllZip, cons_option}
use Rattle.rdf_values.specs.{Path, TableView, Under, Value}
use Rattle.rdf_model.specs.{◌>>=◌, Dataset, fault_in, Faults, Gives, is_true, Needs, Outcome, through}
use Rattle.snapshot_rows.specs.{cells_in, columns_outcome, fault_from, fault_or, kept_cells, kept_rows, plan_path, SnapFault, snapshot_fault, SnapshotHoldsWhatPassed, unless_fault}

-- ---- the table of a snapshot, and its fault

pub is_taken : (t r : TableView) (o : Option SnapFault) → unless_fault t o ≡ Ok r → (t ≡ r) × (o ≡ None)
is_taken t r None h = (cc h, refl)
is_taken t r (Some f) h = cc h

pub is_faulted : (t : TableView) (f : SnapFault) (o : Option SnapFault) → unless_fault t o ≡ Err f → o ≡ Some f
is_faulted t f None h = cc h
is_faulted t f (Some g) h = let e : g ≡ f = cc h in ap Some e

-- ---- one row

-- filters and then columns
abbrev pub both : Outcome ⊥ Bool → Outcome ⊥ (List Value) → Outcome ⊥ (Option (List Value))
both o c = o >>= λ passed. if passed then c >>= kept_cells else Gives None

one_row : (R : List Value → List Value → Type 0) (row : List Value) (rows others : List (List Value)) (e : ℕ) (o : Outcome ⊥ Bool) (c : Outcome ⊥ (List Value)) (after : Option SnapFault)
    → ((cells : List Value) → c ≡ Gives cells → R row cells) → (after ≡ None → AllZip R rows others) → fault_or e (fault_in (both o c)) after ≡ None
    → AllZip R (cond (is_true o) (row ∷ rows) rows) (cons_option (cells_in (both o c)) others)
one_row R row rows others e (Gives true) (Gives cells) after its next h = (its cells refl, next h)
one_row R row rows others e (Gives true) (Faults kind) after its next h = cc h
one_row R row rows others e (Gives true) (Needs m) after its next h = elim m [ ]
one_row R row rows others e (Gives false) c after its next h = next h
one_row R row rows others e (Faults kind) c after its next h = cc h
one_row R row rows others e (Needs m) c after its next h = elim m [ ]

-- ---- all rows

module _ (d : Dataset) (at : Path) (names : List (List ℕ)) (u : Under) where
  rows_held : (rows : List (List Value)) (e : ℕ) → fault_from d at names u e rows ≡ None
      → AllZip (λ row cells. columns_outcome d at names u row ≡ Gives cells) (filter (λ row. is_true (through d.fns d.columns row {M = ⊥} at u)) rows) (kept_rows d at names u rows)
  rows_held [] e h = tt
  rows_held (row ∷ rows) e h =
      one_row (λ r cells. columns_outcome d at names u r ≡ Gives cells) row (filter (λ r. is_true (through d.fns d.columns r {M = ⊥} at u)) rows) (kept_rows d at names u rows) e
      (through d.fns d.columns row at u) (columns_outcome d at names u row) (fault_from d at names u (e + 1) rows) (λ cells q. q) (λ q. rows_held rows (e + 1) q) h

pub snapshot_holds_what_passed : SnapshotHoldsWhatPassed
snapshot_holds_what_passed p d t h =
    let taken = is_taken _ t (snapshot_fault p d 0 d.rows) h in
    subst (λ (r : TableView). AllZip (λ row cells. columns_outcome d (plan_path p) p.columns p.under row ≡ Gives cells) (filter (λ row. is_true (through d.fns d.columns row {M = ⊥} (plan_path p) p.under)) d.rows) r.rows)
    taken.0 (rows_held d (plan_path p) p.columns p.under d.rows 0 taken.1)
