-- What the rows of an accepted script feed to its actions: few items of 64 bits, and to a Take values of its column's kind.
use Rattle.lemmas.proofs.{◌≡◌, ℕ, Bool, true, false, List, [], ◌∷◌, ◌++◌, map, Option, Some, None, Ok, Err, Result, refl, arith, if◌then◌else◌}
use Rattle.std.specs.Prelude.{⊤}
use Rattle.std.specs.List.{AllByRecursion}
use Rattle.rdf_values.specs.{ActionAt, ActionKind, AnswerIn64Bits, AreAccepted, Booked, booked_by, Booking, bookings, check_columns, check_edges, check_node, check_passes, check_results, ColType, column_kind, columns_of, EntryFault, feed_fault, FitsKind, FitsRow, fn_names, FunctionNames, GraphCause, Item, kind_or_int, may_begin, Pass, Path, path, permitted_kinds, ReportOn, scalar_value, Scope, scope_at, scope_of, spread, Statement, StatementsHaveWords, Under, Value}
use Rattle.rdf_values.specs.declared.scripts.statement.Statement.TheVariants.{Action, Report}
use Rattle.rdf_model.specs.{◌>>=◌, column_value, Dataset, Entry, entry_in, Faults, Feed, feed_outcome, FitKinds, FitsSpread, for_all, Gives, items_fed, items_of, Meets, Needs, Outcome, Skip, through, unless_fault}
use Rattle.rdf_model.proofs.Accepted.{both_none, column_fits}
use Rattle.rdf_model.proofs.Limits.{facts_meet_limits, path_words}
use Rattle.rdf_model.proofs.Typing.{always, meets_bind}
use Rattle.shard_runs.specs.{booking_kind}
use Rattle.shard_runs.proofs.Lines.{IsOfKind, TakesAre}

-- ---- the kind of a Take's column

-- a column that was checked has its kind
pub column_known : (scope : Scope) (permitted : List (List ColType)) (kinds : List ColType) (c : List ℕ) (cs : List (List ℕ)) → check_columns scope permitted kinds (c ∷ cs) ≡ None → column_kind scope c ≡ Ok (kind_or_int (column_kind scope c))
column_known scope permitted kinds c cs h = go (column_kind scope c) h
  where
    go : (r : Result ColType GraphCause) → (elim r as (λ _. Option GraphCause) [ Err cause' ↦ Some cause' | Ok t ↦ (if may_begin permitted (kinds ++ t ∷ []) then check_columns scope permitted (kinds ++ t ∷ []) cs else Some GraphCause.WrongType) ]) ≡ None
        → r ≡ Ok (kind_or_int r)
    go (Err e) q = cc q
    go (Ok t) q = refl

-- the values of what is fed are of the kind
abbrev FeedsOfKind : ColType → List ℕ → Entry → Type 0
FeedsOfKind t c Skip = ⊤
FeedsOfKind t c (Feed vs) = AllByRecursion (IsOfKind t) (spread (ActionKind.Take c) vs)

value_kind : (t : ColType) (v : Value) → FitsKind t v → AllByRecursion (IsOfKind t) (map Item.Single (scalar_value v))
value_kind ColType.Int (Value.Int z) h = (refl, tt)
value_kind ColType.Bool (Value.Bool b) h = (refl, tt)
value_kind ColType.Vect (Value.Vect zs) h = tt
value_kind ColType.Int (Value.Bool b) h = absurd h
value_kind ColType.Int (Value.Vect zs) h = absurd h
value_kind ColType.Bool (Value.Int z) h = absurd h
value_kind ColType.Bool (Value.Vect zs) h = absurd h
value_kind ColType.Vect (Value.Int z) h = absurd h
value_kind ColType.Vect (Value.Bool b) h = absurd h

unless_kind : (t : ColType) (c : List ℕ) (vs : List Value) (o : Option EntryFault) → FitKinds (t ∷ []) vs → Meets (FeedsOfKind t c) (unless_fault {M = ⊥} vs o)
unless_kind t c vs (Some fault) h = tt
unless_kind t c [] None h = absurd h
unless_kind t c (v ∷ vs) None h = value_kind t v h.0

fed_kind : (t : ColType) (c : List ℕ) (o : Outcome ⊥ Entry) → Meets (FeedsOfKind t c) o → AllByRecursion (IsOfKind t) (items_fed (ActionKind.Take c) o)
fed_kind t c (Gives (Feed vs)) h = h
fed_kind t c (Gives Skip) h = tt
fed_kind t c (Faults fault) h = tt
fed_kind t c (Needs m) h = tt

module _ (d : Dataset) (row : List Value) (fits_row : FitsRow d.columns row) (before : List Statement) (parent : List ℕ) (u : Under) (good : AreAccepted (fn_names d.fns) (scope_of d.columns) before) (c : List ℕ) (t : ColType)
    (known : column_kind (scope_at (fn_names d.fns) (scope_of d.columns) before parent) c ≡ Ok t) where
  one_column : Meets (FitKinds (t ∷ [])) (for_all (column_value d.fns d.columns row {M = ⊥} (path before parent) u) (c ∷ []))
  one_column = meets_bind ⊥ (FitsKind t) (FitKinds (t ∷ [])) (column_value d.fns d.columns row (path before parent) u c) _ (column_fits d row before parent u c t good fits_row known) (λ v f. (f, tt))

  take_entry : Meets (FeedsOfKind t c) (entry_in d row (ActionKind.Take c) (path before parent) u)
  take_entry = meets_bind ⊥ (λ b. ⊤) (FeedsOfKind t c) (through d.fns d.columns row (path before parent) u) _ (always ⊥ (through d.fns d.columns row (path before parent) u)) (λ b _. go b)
    where
      go : (b : Bool) → Meets (FeedsOfKind t c) (if b then for_all (column_value d.fns d.columns row {M = ⊥} (path before parent) u) (columns_of (ActionKind.Take c)) >>= feed_outcome (ActionKind.Take c) else Gives Skip)
      go true =
          meets_bind ⊥ (FitKinds (t ∷ [])) (FeedsOfKind t c) (for_all (column_value d.fns d.columns row (path before parent) u) (c ∷ [])) (feed_outcome (ActionKind.Take c)) one_column
          (λ vs f. unless_kind t c vs (feed_fault (ActionKind.Take c) vs) f)
      go false = tt

-- ---- what a row feeds

row_fits : (d : Dataset) → AnswerIn64Bits d.fns → (row : List Value) → FitsRow d.columns row → (k : ActionKind) (at : Path) (u : Under) → StatementsHaveWords at → FitsSpread k (items_of d k at u row)
row_fits d answers row fits k at u words =
    let b : Booked = record { name = []; booking = ActionAt k at } in
    let p : Pass = record { result = b; under = u } in
    let one : Dataset = record d { rows = row ∷ [] } in
    let facts = facts_meet_limits one [] [] (p ∷ []) answers (fits, tt) (omega arith) (λ a b s t lt q r. cc q) (words, tt) in
    facts.fit 0 0 (items_of d k at u row ∷ []) (items_of d k at u row) k refl refl refl

-- what was booked is fed, by each row, few items of 64 bits, and a Take values of its column's kind
abbrev pub FeedsWell : Dataset → Booking → Type 0
FeedsWell d (ActionAt k at) = (row : List Value) (u : Under) → FitsRow d.columns row → FitsSpread k (items_of d k at u row) × TakesAre (booking_kind d (ActionAt k at)) k (items_of d k at u row)
FeedsWell d (ReportOn filters) = ⊤

module _ (d : Dataset) (answers : AnswerIn64Bits d.fns) where
  takes_well : (before : List Statement) (result parent : List ℕ) (k : ActionKind) → AreAccepted (fn_names d.fns) (scope_of d.columns) (Action result parent k ∷ before) → (row : List Value) (u : Under) → FitsRow d.columns row
      → TakesAre (booking_kind d (ActionAt k (path before parent))) k (items_of d k (path before parent) u row)
  takes_well before result parent (ActionKind.Take c) good row u fits =
      let names : FunctionNames = fn_names d.fns in
      let header : Scope = scope_of d.columns in
      let scope : Scope = scope_at names header before parent in
      let columns : Option GraphCause = check_columns scope (permitted_kinds (ActionKind.Take c)) [] (c ∷ []) in
      let rest : List (Option GraphCause) = check_edges (ActionKind.Take c) ∷ check_results (Action result parent (ActionKind.Take c) ∷ before) ∷ check_passes before (bookings (Action result parent (ActionKind.Take c) ∷ before)) ∷ [] in
      let checked : columns ≡ None = (both_none columns rest (both_none (check_node before result parent) (columns ∷ rest) good.0).1).0 in
      let t : ColType = kind_or_int (column_kind scope c) in
      fed_kind t c (entry_in d row (ActionKind.Take c) (path before parent) u) (take_entry d row fits before parent u good.1 c t (column_known scope (permitted_kinds (ActionKind.Take c)) [] c [] checked))
  takes_well before result parent k good row u fits = tt

  pub feeds_well : (before : List Statement) (s : Statement) → AreAccepted (fn_names d.fns) (scope_of d.columns) (s ∷ before) → StatementsHaveWords before → AllByRecursion (λ (b : Booked). FeedsWell d b.booking) (booked_by before s)
  feeds_well before (Action result parent k) good words = ((λ row u fits. (row_fits d answers row fits k (path before parent) u (path_words before parent words), takes_well before result parent k good row u fits)), tt)
  feeds_well before (Report result parent) good words = (tt, tt)
  feeds_well before s good words = tt
