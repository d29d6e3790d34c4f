-- Whether a script is accepted: each line is tested against the lines before it.
use Rattle.std.specs.Prelude.{ℤ, Bool, true, ◌&&◌, List, [], ◌∷◌, length, nat_le, int_lt, ◌≡◌, ⊤, ℕ, ◌+◌, ◌*◌, false, not, ◌||◌, ◌++◌, map, Option, Some, None, if◌then◌else◌, nat_eq, nat_lt, codes, Result, Ok, Err, sum_by}
use Rattle.std.specs.List.{list_any}
use Rattle.rdf_values.specs.scripts.Names.{same, among}
use Rattle.rdf_values.specs.scripts.Nodes.{Path, Variation, makes, path, target_of, variations}
use Rattle.rdf_values.specs.expressions.Expressions.{NamedTree}
use Rattle.rdf_values.specs.expressions.Kinds.{Scope, FunctionNames, scope_of, kind_of, column_kind, same_kind}
use Rattle.rdf_values.specs.scripts.Bookings.{Booked, Booking, ActionAt, ReportOn, bookings, results_named, passes_of, columns_of, filled, names_of}
use Rattle.rdf_values.specs.declared.tables.table.Column.{Column}
use Rattle.rdf_values.specs.declared.scripts.script_cause.GraphCause.{GraphCause}
use Rattle.rdf_values.specs.declared.scripts.script_cause.GraphCause.TheVariants.{NameTaken, UnknownName, UnknownColumn, WrongType, WrongCount, AliasTarget, Late, BadEdges, TooMany, WrongKind}
use Rattle.rdf_values.specs.declared.scripts.statement.VaryValues.{VaryValues}
use Rattle.rdf_values.specs.declared.scripts.statement.VaryValues.TheVariants.{Lists, Vector}
use Rattle.rdf_values.specs.declared.scripts.statement.Statement.{Statement}
use Rattle.rdf_values.specs.declared.scripts.statement.Statement.TheVariants.{Define, Redefine, Alias, Filter, Vary, Action, Report, VariationsFor, Watch, Print}
use Rattle.rdf_values.specs.declared.scripts.statement.ActionKind.{ActionKind}
use Rattle.rdf_values.specs.declared.scripts.statement.Line.{Line}
use Rattle.rdf_values.specs.declared.scripts.statement.Script.{Script}
use Rattle.rdf_values.specs.declared.tables.value.ColType.{ColType}

-- ---- the edges of an axis

-- each number is above the one before
abbrev pub rises : List ℤ → Bool
rises [] = true
rises (x ∷ []) = true
rises (x ∷ y ∷ zs) = int_lt x y && rises (y ∷ zs)

-- the edges of an axis: at least two, and rising
abbrev pub are_edges : List ℤ → Bool
are_edges edges = nat_le 2 (length edges) && rises edges

-- ---- refusals in order

-- the cause, where the test holds
abbrev pub refuse_if : Bool → GraphCause → Option GraphCause
refuse_if true cause = Some cause
refuse_if false cause = None

-- the cause, where the test doesn't hold
abbrev pub refuse_unless : Bool → GraphCause → Option GraphCause
refuse_unless b cause = refuse_if (not b) cause

-- the first refusal of several checks in order
abbrev pub first_refusal : List (Option GraphCause) → Option GraphCause
first_refusal [] = None
first_refusal (None ∷ checks) = first_refusal checks
first_refusal (Some cause ∷ checks) = Some cause

-- the refusal of a kind
abbrev pub refusal_in : Result ColType GraphCause → Option GraphCause
refusal_in (Ok t) = None
refusal_in (Err cause) = Some cause

-- the refusal of a kind, or that it is another one than this
abbrev pub expect_kind : ColType → Result ColType GraphCause → Option GraphCause
expect_kind t (Ok s) = refuse_unless (same_kind s t) WrongType
expect_kind t (Err cause) = Some cause

-- ---- names

-- a name stands twice
abbrev pub repeats : List (List ℕ) → Bool
repeats [] = false
repeats (x ∷ xs) = among x xs || repeats xs

-- the head, or a node that the statements so far made
abbrev pub is_node : List Statement → List ℕ → Bool
is_node before node = same node (codes "df") || list_any (λ s. makes s node) before

-- a result that the statements so far booked
abbrev pub is_result : List Statement → List ℕ → Bool
is_result before name = among name (names_of (bookings before))

-- nodes and results share one space of names
abbrev pub is_in_use : List Statement → List ℕ → Bool
is_in_use before name = is_node before name || is_result before name

-- a Vary of that name stands before
abbrev pub is_variation_name : List Statement → List ℕ → Bool
is_variation_name before name = list_any (λ (v : Variation). same v.name name) (variations before)

-- ---- visible columns

-- the names that the aliases of a path made
abbrev pub aliases : Path → List (List ℕ)
aliases [] = []
aliases (Alias node parent column target ∷ up) = column ∷ aliases up
aliases (s ∷ up) = aliases up

-- the name is an alias at the end of the path
abbrev pub is_alias : Path → List ℕ → Bool
is_alias path name = among name (aliases path)

-- the kind, and that of a number where there is none
abbrev pub kind_or_int : Result ColType GraphCause → ColType
kind_or_int (Ok t) = t
kind_or_int (Err cause) = ColType.Int

-- the columns with the path's aliases, each of which has the kind of its target at the end of the path
abbrev pub with_aliases : Path → Scope → Scope
with_aliases path columns = map (λ a. (a, kind_or_int (column_kind columns (target_of path a)))) (aliases path) ++ columns

-- the column that an expression makes, before the columns above it
abbrev pub with_made : FunctionNames → List ℕ → NamedTree → Path → Scope → Scope
with_made names column expr up above = (column, kind_or_int (kind_of (with_aliases up above) names expr)) ∷ above

-- the columns that the table has or a Define or Redefine of the path made, the latest first
abbrev pub made_columns : FunctionNames → Scope → Path → Scope
made_columns names header [] = header
made_columns names header (Define node parent column expr ∷ up) = with_made names column expr up (made_columns names header up)
made_columns names header (Redefine node parent column expr ∷ up) = with_made names column expr up (made_columns names header up)
made_columns names header (s ∷ up) = made_columns names header up

-- the columns that are visible at the end of a path
abbrev pub visible_columns : FunctionNames → Scope → Path → Scope
visible_columns names header path = with_aliases path (made_columns names header path)

-- a column of that name is visible
abbrev pub is_visible : Scope → List ℕ → Bool
is_visible scope name = list_any (λ c. same c.0 name) scope

-- ---- the values of a Vary

-- one list: an expression of the column's kind for each tag
abbrev pub check_list : FunctionNames → Scope → ℕ → List ℕ → List NamedTree → Option GraphCause
check_list names scope tags column es =
    first_refusal
    (refuse_unless (nat_eq (length es) tags) WrongCount ∷ map (λ e. expect_kind (kind_or_int (column_kind scope column)) (kind_of scope names e)) es)

-- each list with its column, in order
abbrev pub check_lists : FunctionNames → Scope → ℕ → List (List ℕ) → List (List NamedTree) → List (Option GraphCause)
check_lists names scope tags [] lists = []
check_lists names scope tags (c ∷ cs) [] = []
check_lists names scope tags (c ∷ cs) (es ∷ lists) = check_list names scope tags c es ∷ check_lists names scope tags cs lists

-- the one column of a vector: it holds numbers
abbrev pub check_vector_column : Scope → List (List ℕ) → Option GraphCause
check_vector_column scope (c ∷ []) = expect_kind ColType.Int (column_kind scope c)
check_vector_column scope columns = Some WrongCount

-- a list for each column, or a vector for the only one
abbrev pub check_values : FunctionNames → Scope → ℕ → List (List ℕ) → VaryValues → Option GraphCause
check_values names scope tags columns (Lists lists) =
    first_refusal (refuse_unless (nat_eq (length lists) (length columns)) WrongCount ∷ check_lists names scope tags columns lists)
check_values names scope tags columns (Vector e) =
    first_refusal
    (refuse_unless (nat_eq (length columns) 1) WrongCount ∷ expect_kind ColType.Vect (kind_of scope names e) ∷ check_vector_column scope columns ∷ [])

-- ---- the columns and edges of an action

-- a number
abbrev int : ColType
int = ColType.Int

-- a vector
abbrev vect : ColType
vect = ColType.Vect

-- a truth value
abbrev truth : ColType
truth = ColType.Bool

-- the former without a weight, the latter with one
abbrev pub if_weighted : {A : Type 0} → Option (List ℕ) → A → A → A
if_weighted None plain weighted = plain
if_weighted (Some w) plain weighted = weighted

-- the lists of kinds that an action's columns may have, in written order
abbrev pub permitted_kinds : ActionKind → List (List ColType)
permitted_kinds ActionKind.Count = [] ∷ []
permitted_kinds (ActionKind.Sum c) = (int ∷ []) ∷ (vect ∷ []) ∷ []
permitted_kinds (ActionKind.Min c) = (int ∷ []) ∷ (vect ∷ []) ∷ []
permitted_kinds (ActionKind.Max c) = (int ∷ []) ∷ (vect ∷ []) ∷ []
permitted_kinds (ActionKind.Take c) = (int ∷ []) ∷ (truth ∷ []) ∷ []
permitted_kinds (ActionKind.Reduce o c) = (int ∷ []) ∷ []
permitted_kinds (ActionKind.Histo1D edges x w) =
    if_weighted w ((int ∷ []) ∷ (vect ∷ []) ∷ []) ((int ∷ int ∷ []) ∷ (vect ∷ int ∷ []) ∷ (vect ∷ vect ∷ []) ∷ [])
permitted_kinds (ActionKind.Histo2D xs ys x y w) =
    if_weighted w
    ((int ∷ int ∷ []) ∷ (vect ∷ vect ∷ []) ∷ [])
    ((int ∷ int ∷ int ∷ []) ∷ (vect ∷ vect ∷ int ∷ []) ∷ (vect ∷ vect ∷ vect ∷ []) ∷ [])

-- the latter list begins with the former
abbrev pub begins : List ColType → List ColType → Bool
begins [] ts = true
begins (s ∷ ss) [] = false
begins (s ∷ ss) (t ∷ ts) = same_kind s t && begins ss ts

-- the kinds so far begin a permitted list
abbrev pub may_begin : List (List ColType) → List ColType → Bool
may_begin permitted kinds = list_any (begins kinds) permitted

-- the columns in order: each is known, and its kind goes with those before
abbrev pub check_columns : Scope → List (List ColType) → List ColType → List (List ℕ) → Option GraphCause
check_columns scope permitted kinds [] = None
check_columns scope permitted kinds (c ∷ cs) =
    elim (column_kind scope c) [
      | Err cause ↦ Some cause
      | Ok t ↦ (if may_begin permitted (kinds ++ t ∷ []) then check_columns scope permitted (kinds ++ t ∷ []) cs else Some WrongType)
    ]

-- the edges of an action's axes
abbrev pub check_edges : ActionKind → Option GraphCause
check_edges (ActionKind.Histo1D edges x w) = refuse_unless (are_edges edges) BadEdges
check_edges (ActionKind.Histo2D xs ys x y w) = refuse_unless (are_edges xs && are_edges ys) BadEdges
check_edges k = None

-- ---- how many

-- the cells of a histogram
abbrev pub cells_of : Booking → ℕ
cells_of (ActionAt (ActionKind.Histo1D edges x w) at) = length edges + 1
cells_of (ActionAt (ActionKind.Histo2D xs ys x y w) at) = (length xs + 1) * (length ys + 1)
cells_of b = 0

-- 1 for a Take
abbrev pub takes_of : Booking → ℕ
takes_of (ActionAt (ActionKind.Take c) at) = 1
takes_of b = 0

-- a count over all passes of these results
abbrev pub over_passes : (Booking → ℕ) → List Statement → List Booked → ℕ
over_passes count script bs = sum_by (λ (b : Booked). length (passes_of script b) * count b.booking) bs

-- the passes of these results have too many histogram cells, or else too many Takes
abbrev pub check_passes : List Statement → List Booked → Option GraphCause
check_passes script bs =
    first_refusal (refuse_if (nat_lt 1048576 (over_passes cells_of script bs)) TooMany ∷ refuse_if (nat_lt 16 (over_passes takes_of script bs)) TooMany ∷ [])

-- more than 64 results are booked
abbrev pub check_results : List Statement → Option GraphCause
check_results script = refuse_if (nat_lt 64 (length (bookings script))) TooMany

-- the results that are printed, once for each Print
abbrev pub printed_results : List Statement → List Booked
printed_results [] = []
printed_results (Print p ∷ before) = results_named p (bookings before) ++ printed_results before
printed_results (s ∷ before) = printed_results before

-- the results that are watched, each once
abbrev pub watched_results : List Statement → List (List ℕ)
watched_results [] = []
watched_results (Watch r ∷ before) = if among r (watched_results before) then watched_results before else r ∷ watched_results before
watched_results (s ∷ before) = watched_results before

-- ---- what may be varied and watched

-- a report
abbrev pub is_report : Booking → Bool
is_report (ActionAt k at) = false
is_report (ReportOn filters) = true

-- a Count, Sum, Min or Max
abbrev pub can_watch : Booking → Bool
can_watch (ActionAt ActionKind.Count at) = true
can_watch (ActionAt (ActionKind.Sum c) at) = true
can_watch (ActionAt (ActionKind.Min c) at) = true
can_watch (ActionAt (ActionKind.Max c) at) = true
can_watch b = false

-- the result of that name passes the test
abbrev pub result_is : (Booking → Bool) → List Statement → List ℕ → Bool
result_is test before name = list_any (λ (b : Booked). test b.booking) (results_named name (bookings before))

-- ---- one line

-- a new node or result: its name is free, and its parent is a node
abbrev pub check_node : List Statement → List ℕ → List ℕ → Option GraphCause
check_node before node parent = first_refusal (refuse_if (is_in_use before node) NameTaken ∷ refuse_unless (is_node before parent) UnknownName ∷ [])

-- a column to be changed: it is visible, and no alias
abbrev pub check_target : Scope → Path → List ℕ → Option GraphCause
check_target scope path column =
    first_refusal (refuse_unless (is_visible scope column) UnknownColumn ∷ refuse_if (is_alias path column) AliasTarget ∷ [])

-- the tags and the name of a Vary
abbrev pub check_tags : List Statement → List (List ℕ) → List ℕ → Option GraphCause
check_tags before tags name =
    first_refusal
    (refuse_if (repeats tags) NameTaken ∷ refuse_if (is_variation_name before name) NameTaken
    ∷ refuse_if (nat_lt 16 (length tags) || nat_lt 128 (length (variations before) + length tags)) TooMany ∷ [])

-- with the caller's functions, over a table with these columns
module _ (names : FunctionNames) (header : Scope) where
  -- the columns that are visible at a node
  abbrev pub scope_at : List Statement → List ℕ → Scope
  scope_at before node = visible_columns names header (path before node)

  -- the first refusal of a statement after those before it
  abbrev pub check : List Statement → Statement → Option GraphCause
  check before (Define node parent column expr) =
      first_refusal
      (check_node before node parent ∷ refuse_if (is_visible (scope_at before parent) column) NameTaken
      ∷ refusal_in (kind_of (scope_at before parent) names expr) ∷ [])
  check before (Redefine node parent column expr) =
      first_refusal
      (check_node before node parent ∷ check_target (scope_at before parent) (path before parent) column
      ∷ refusal_in (kind_of (scope_at before parent) names expr) ∷ [])
  check before (Alias node parent column target) =
      first_refusal
      (check_node before node parent ∷ refuse_if (is_visible (scope_at before parent) column) NameTaken
      ∷ refuse_unless (is_visible (scope_at before parent) target) UnknownColumn ∷ [])
  check before (Filter node parent expr label) =
      first_refusal (check_node before node parent ∷ expect_kind ColType.Bool (kind_of (scope_at before parent) names expr) ∷ [])
  check before (Vary node parent columns values tags name) =
      first_refusal
      (check_node before node parent ∷ refuse_if (repeats columns) NameTaken
      ∷ first_refusal (map (check_target (scope_at before parent) (path before parent)) columns)
      ∷ check_tags before tags name ∷ check_values names (scope_at before parent) (length tags) columns values ∷ [])
  check before (Action result parent k) =
      first_refusal
      (check_node before result parent ∷ check_columns (scope_at before parent) (permitted_kinds k) [] (columns_of k) ∷ check_edges k
      ∷ check_results (Action result parent k ∷ before) ∷ check_passes before (bookings (Action result parent k ∷ before)) ∷ [])
  check before (Report result parent) = first_refusal (check_node before result parent ∷ check_results (Report result parent ∷ before) ∷ [])
  check before (VariationsFor result) =
      first_refusal
      (refuse_unless (is_result before result) UnknownName ∷ refuse_if (result_is is_report before result) WrongKind
      ∷ refuse_if (among result (filled before)) Late ∷ check_passes (VariationsFor result ∷ before) (bookings before) ∷ [])
  check before (Watch result) =
      first_refusal
      (refuse_unless (is_result before result) UnknownName ∷ refuse_unless (result_is can_watch before result) WrongKind
      ∷ refuse_if (among result (filled before)) Late ∷ refuse_if (nat_lt 8 (length (watched_results (Watch result ∷ before)))) TooMany ∷ [])
  check before (Print result) =
      first_refusal (refuse_unless (is_result before result) UnknownName ∷ check_passes before (printed_results (Print result ∷ before)) ∷ [])

  -- each statement is accepted after those before it
  abbrev pub AreAccepted : List Statement → Type 0
  AreAccepted [] = ⊤
  AreAccepted (s ∷ before) = (check before s ≡ None) × AreAccepted before

  -- the first of the lines that is refused after the statements before, and its cause
  abbrev pub verdict_after : List Statement → List Line → Option (ℕ × GraphCause)
  verdict_after before [] = None
  verdict_after before (l ∷ ls) =
      elim (check before l.statement) [ Some cause ↦ Some (l.number, cause) | None ↦ verdict_after (l.statement ∷ before) ls ]

-- None where the script is accepted, and otherwise the first line that is refused, and its cause
abbrev pub verdict : FunctionNames → List Column → Script → Option (ℕ × GraphCause)
verdict names header script = verdict_after names (scope_of header) [] script.lines
