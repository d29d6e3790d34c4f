-- A snapshot is a table, whose text reads back.
use Rattle.lemmas.proofs.{◌≡◌, ◌≤◌, ℕ, ◌+◌, Bool, true, false, ◌||◌, List, [], ◌∷◌, ◌++◌, length, map, Option, Some, None, Result, Ok, Err, refl, sym, ◌∙◌, ap, ap₂, subst, arith, not, if◌then◌else◌, filter_map, cons_option, list_all-map}
use Rattle.std.specs.Prelude.{⊤}
use Rattle.rdf_values.specs.{among, AreBounded, ColType, Column, column_kind, FitRows, FitsColumn, FitsKind, FitsRow, fn_names, GraphCause, is_name, is_node, IsBounded, IsTable, kind_or_int, Scope, scope_at, scope_of, TableView, Value, verdict}
use Rattle.rdf_model.specs.{◌>>=◌, column_in, Dataset, Faults, for_all, Gives, Meets, Needs, Outcome, through}
use Rattle.rdf_model.proofs.Accepted.{accepted_columns_fit}
use Rattle.rdf_model.proofs.Limits.{columns_are_bounded, path_words}
use Rattle.rdf_model.proofs.Typing.{meets_bind}
use Rattle.graph_numbers.specs.{booked_statements}
use Rattle.snapshot_plan.specs.{column_at, first_bad, is_bad, is_stored, plan_columns, PlanView, scope_in}
use Rattle.snapshot_plan.proofs.Headed.{plans_have_headers, kept as sound_columns}
use Rattle.snapshot_text.specs.{AreNamed}
use Rattle.snapshot_text.proofs.TextBack.{text_reads_back}
use Rattle.snapshot_rows.specs.{cells_in, columns_outcome, IsPlanOver, kept_row, plan_path, snapshot_entries, snapshot_fault, SnapshotIsATable, SnapshotReadsBack}
use Rattle.snapshot_rows.proofs.Entries.{both, is_taken}

-- ---- the columns that are asked for are visible

abbrev AreVisible : Scope → List (List ℕ) → Type 0
AreVisible scope [] = ⊤
AreVisible scope (name ∷ names) = (column_kind scope name ≡ Ok (kind_or_int (column_kind scope name))) × AreVisible scope names

visible : (r : Result ColType GraphCause) (b : Bool) → (not (is_stored r) || b) ≡ false → r ≡ Ok (kind_or_int r)
visible (Ok t) b h = refl
visible (Err why) b h = cc h

all_visible : (scope : Scope) (names : List (List ℕ)) (i : ℕ) (before : List (List ℕ)) → first_bad scope i before names ≡ None → AreVisible scope names
all_visible scope [] i before h = tt
all_visible scope (name ∷ names) i before h = go (is_bad scope before name) refl h (all_visible scope names (i + 1) (before ++ name ∷ []))
  where
    go : (b : Bool) → is_bad scope before name ≡ b → (if b then Some i else first_bad scope (i + 1) (before ++ name ∷ []) names) ≡ None
        → (first_bad scope (i + 1) (before ++ name ∷ []) names ≡ None → AreVisible scope names) → AreVisible scope (name ∷ names)
    go true e q more = cc q
    go false e q more = (visible (column_kind scope name) (among name before) e, more q)

-- ---- rows that fit

row_bounded : (columns : List Column) (row : List Value) → FitsRow columns row → AreBounded row
row_bounded [] [] h = tt
row_bounded [] (x ∷ xs) h = absurd h
row_bounded (c ∷ cs) [] h = absurd h
row_bounded (c ∷ cs) (x ∷ xs) h = (h.0.1, row_bounded cs xs h.1)

fits_both : (t : ColType) (o : Outcome ⊥ Value) → Meets (FitsKind t) o → Meets IsBounded o → Meets (FitsColumn t) o
fits_both t (Gives v) h k = (h, k)
fits_both t (Faults kind) h k = tt
fits_both t (Needs m) h k = tt

-- values for all columns are a row
cells_fit : (scope : Scope) (f : List ℕ → Outcome ⊥ Value) (names : List (List ℕ)) → AreVisible scope names
    → ((name : List ℕ) → column_kind scope name ≡ Ok (kind_or_int (column_kind scope name)) → Meets (FitsColumn (kind_or_int (column_kind scope name))) (f name))
    → Meets (FitsRow (map (column_at scope) names)) (for_all f names)
cells_fit scope f [] h fits = tt
cells_fit scope f (name ∷ names) h fits =
    meets_bind ⊥ (FitsColumn (kind_or_int (column_kind scope name))) (FitsRow (map (column_at scope) (name ∷ names))) (f name) (λ y. for_all f names >>= λ ys. Gives (y ∷ ys)) (fits name h.0)
    (λ y fit. meets_bind ⊥ (FitsRow (map (column_at scope) names)) (FitsRow (map (column_at scope) (name ∷ names))) (for_all f names) (λ ys. Gives (y ∷ ys)) (cells_fit scope f names h.1 fits) (λ ys more. (fit, more)))

-- ---- what is kept

abbrev MeetsIfAny : (List Value → Type 0) → Option (List Value) → Type 0
MeetsIfAny P None = ⊤
MeetsIfAny P (Some cells) = P cells

kept_meets : (P : List Value → Type 0) (o : Outcome ⊥ Bool) (c : Outcome ⊥ (List Value)) → Meets P c → MeetsIfAny P (cells_in (both o c))
kept_meets P (Gives true) (Gives cells) h = h
kept_meets P (Gives true) (Faults kind) h = tt
kept_meets P (Gives true) (Needs m) h = tt
kept_meets P (Gives false) c h = tt
kept_meets P (Faults kind) c h = tt
kept_meets P (Needs m) c h = tt

one_more : (columns : List Column) (o : Option (List Value)) (rows : List (List Value)) → MeetsIfAny (FitsRow columns) o → FitRows columns rows → FitRows columns (cons_option o rows)
one_more columns None rows h k = k
one_more columns (Some row) rows h k = (h, k)

no_longer : (o : Option (List Value)) (rows : List (List Value)) (n : ℕ) → length rows ≤ n → length (cons_option o rows) ≤ n + 1
no_longer None rows n h = omega (arith, h)
no_longer (Some row) rows n h = omega (arith, h)

kept_few : (h : List Value → Option (List Value)) (rows : List (List Value)) → length (filter_map h rows) ≤ length rows
kept_few h [] = omega arith
kept_few h (row ∷ rows) = let e = no_longer (h row) (filter_map h rows) (length rows) (kept_few h rows) in omega (arith, e)

-- ---- a plan over a table

module _ (p : PlanView) (d : Dataset) (over : IsPlanOver p d) where
  same_scope : scope_at (fn_names d.fns) (scope_of d.columns) (booked_statements p.graph) p.node ≡ scope_in p.graph p.node
  same_scope = ap₂ (λ names header. scope_at names (scope_of header) (booked_statements p.graph) p.node) over.functions over.columns

  accepted : verdict (fn_names d.fns) d.columns p.graph.script ≡ None
  accepted = ap₂ (λ names header. verdict names header p.graph.script) over.functions over.columns ∙ over.graph.accepted

  column_fits : (row : List Value) → FitsRow d.columns row → (name : List ℕ) (t : ColType) → column_kind (scope_in p.graph p.node) name ≡ Ok t → Meets (FitsColumn t) (column_in d row (plan_path p) p.under name)
  column_fits row fits name t h =
      fits_both t (column_in d row (plan_path p) p.under name)
      (accepted_columns_fit d row p.graph.script p.node p.under name t accepted fits (ap (λ scope. column_kind scope name) same_scope ∙ h))
      (columns_are_bounded d.fns d.columns row over.answers (row_bounded d.columns row fits) (plan_path p) p.under name (path_words (booked_statements p.graph) p.node over.words))

  all_known : AreVisible (scope_in p.graph p.node) p.columns
  all_known =
      all_visible (scope_in p.graph p.node) p.columns 0 []
      (sound_columns (is_node (booked_statements p.graph) p.node) (first_bad (scope_in p.graph p.node) 0 [] p.columns) _ over.plan.planned)

  row_fits : (row : List Value) → FitsRow d.columns row → MeetsIfAny (FitsRow (plan_columns p)) (kept_row d (plan_path p) p.columns p.under row)
  row_fits row fits =
      kept_meets (FitsRow (plan_columns p)) (through d.fns d.columns row (plan_path p) p.under) (columns_outcome d (plan_path p) p.columns p.under row)
      (cells_fit (scope_in p.graph p.node) (column_in d row (plan_path p) p.under) p.columns all_known (λ name h. column_fits row fits name (kind_or_int (column_kind (scope_in p.graph p.node) name)) h))

  rows_fit : (rows : List (List Value)) → FitRows d.columns rows → FitRows (plan_columns p) (snapshot_entries p d rows)
  rows_fit [] h = tt
  rows_fit (row ∷ rows) h = one_more (plan_columns p) (kept_row d (plan_path p) p.columns p.under row) (snapshot_entries p d rows) (row_fits row h.0) (rows_fit rows h.1)

  few_rows : length (snapshot_entries p d d.rows) ≤ length d.rows
  few_rows = kept_few (kept_row d (plan_path p) p.columns p.under) d.rows

  is_table : IsTable (record { columns = plan_columns p; rows = snapshot_entries p d d.rows })
  is_table =
      let few = over.table.few in
      let fewer = few_rows in
      record {
        header = plans_have_headers p over.plan;
        fit = rows_fit d.rows over.table.fit;
        few = omega (arith, few, fewer);
      }

pub snapshot_is_a_table : SnapshotIsATable
snapshot_is_a_table p d t over h =
    subst (λ (r : TableView). IsTable r × (r.columns ≡ plan_columns p) × (length r.rows ≤ length d.rows)) (is_taken _ t (snapshot_fault p d 0 d.rows) h).0 (is_table p d over, refl, few_rows p d over)

pub snapshot_reads_back : SnapshotReadsBack
snapshot_reads_back p d t over named h =
    let table = snapshot_is_a_table p d t over h in
    text_reads_back t table.0
    (subst (λ (columns : List Column). AreNamed columns) (sym table.1) (list_all-map (λ (c : Column). is_name c.name) (column_at (scope_in p.graph p.node)) p.columns ∙ named))
