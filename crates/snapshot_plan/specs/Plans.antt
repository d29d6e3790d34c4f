-- Why a snapshot isn't planned.
use Rattle.std.specs.Prelude.{ℕ, ◌+◌, ◌*◌, Bool, true, false, not, ◌||◌, List, [], ◌∷◌, ◌++◌, length, filter, Option, Some, None, Result, Ok, Err, if◌then◌else◌, nat_lt}
use Rattle.std.specs.List.{list_any}
use Rattle.rdf_values.specs.{among, ColType, Column, column_kind, FunctionNames, GraphCause, is_node, same_variation, Scope, scope_at, scope_of, Statement, Under, Variation, variations}
use Rattle.rdf_values.specs.declared.scripts.statement.Statement.TheVariants.{Define, Redefine, Alias, Filter, Vary}
use Rattle.snapshot_plan.specs.declared.cause.SnapCause.{SnapCause}

-- ---- columns

-- a visible column of numbers or vectors, which a table can hold
abbrev pub is_stored : Result ColType GraphCause → Bool
is_stored (Ok ColType.Int) = true
is_stored (Ok ColType.Bool) = false
is_stored (Ok ColType.Vect) = true
is_stored (Err why) = false

-- the column can't be written, where these stand before it
abbrev pub is_bad : Scope → List (List ℕ) → List ℕ → Bool
is_bad scope before name = not (is_stored (column_kind scope name)) || among name before

-- the first bad one of the columns, counted from i, where these stand before them
abbrev pub first_bad : Scope → ℕ → List (List ℕ) → List (List ℕ) → Option ℕ
first_bad scope i before [] = None
first_bad scope i before (name ∷ names) = if is_bad scope before name then Some i else first_bad scope (i + 1) (before ++ name ∷ []) names

-- ---- variations

-- nominal, or one of these variations
abbrev pub is_under : List Variation → Under → Bool
is_under all None = true
is_under all (Some u) = list_any (same_variation u) all

-- ---- how many statements

-- the statement makes a node
abbrev pub makes_node : Statement → Bool
makes_node (Define node parent column expr) = true
makes_node (Redefine node parent column expr) = true
makes_node (Alias node parent column target) = true
makes_node (Filter node parent expr label) = true
makes_node (Vary node parent columns values tags vary) = true
makes_node s = false

-- the statements that make nodes, two for each column, and one
abbrev pub statements_planned : List Statement → ℕ → ℕ
statements_planned before columns = length (filter makes_node before) + 2 * columns + 1

abbrev pub most_statements : ℕ
most_statements = 256

-- ---- the first cause that applies

abbrev pub unless_bad : Option ℕ → Option SnapCause → Option SnapCause
unless_bad (Some i) rest = Some (SnapCause.BadColumn i)
unless_bad None rest = rest

abbrev pub unless_many : ℕ → Option SnapCause
unless_many n = if nat_lt most_statements n then Some (SnapCause.TooMany n) else None

-- after the statements so far, over a table's columns, with the functions' names
abbrev pub cause_of : List Statement → List Column → FunctionNames → List ℕ → List (List ℕ) → Under → Option SnapCause
cause_of before header names node columns u =
    if not (is_node before node) then Some SnapCause.BadNode
    else unless_bad (first_bad (scope_at names (scope_of header) before node) 0 [] columns)
    (if not (is_under (variations before) u) then Some SnapCause.BadVariation else unless_many (statements_planned before (length columns)))
