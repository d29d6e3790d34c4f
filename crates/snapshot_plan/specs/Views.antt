-- What a contract sees of a plan: what it was made for.
use Rattle.std.specs.Prelude.{◌≡◌, ◌<◌, ◌≤◌, ℕ, true, slice_get, List, [], length, map, Option, Some, None, Result, Ok, Err, ⊤}
use Rattle.rdf_values.specs.{Column, column_kind, kind_or_int, Scope, scope_at, scope_of, Under, Variation}
use Rattle.graph_numbers.specs.{booked_statements, graph_under, graph_variations, GraphView}
use Rattle.snapshot_plan.specs.Plans.{cause_of, is_under}
use Rattle.snapshot_plan.specs.declared.cause.SnapCause.{SnapCause}
use Rattle.snapshot_plan.specs.declared.under.Under.{Under as Named}
use Rattle.snapshot_plan.specs.declared.under.Under.TheVariants.{Nominal, Varied}

-- nominal, or the variation of that name and tag
abbrev pub under_of : Named → Under
under_of Nominal = None
under_of (Varied name tag) = Some (record { name = name; tag = tag })

abbrev pub no_variation : Variation
no_variation = record { name = []; tag = [] }

-- the number means nominal or that variation, which is one of these
abbrev pub IsNumber : List Variation → Option ℕ → Under → Type 0
IsNumber all None u = u ≡ None
IsNumber all (Some v) u = (slice_get all v ≡ u) × (v < length all) × (is_under all u ≡ true)

-- the columns that are visible at a node of the graph
abbrev pub scope_in : GraphView → List ℕ → Scope
scope_in g node = scope_at g.names (scope_of g.header) (booked_statements g) node

-- the booked graph, a node of it, columns there, and nominal or a variation
pub record PlanView : Type 0 where
  pub graph : GraphView
  pub node : List ℕ
  pub columns : List (List ℕ)
  pub under : Under

-- why there is no such plan
abbrev pub cause_in : GraphView → List ℕ → List (List ℕ) → Under → Option SnapCause
cause_in g node columns u = cause_of (booked_statements g) g.header g.names node columns u

-- a column of the snapshot with its kind at the node; an alias keeps the name that was asked for
abbrev pub column_at : Scope → List ℕ → Column
column_at scope name = record { name = name; kind = kind_or_int (column_kind scope name) }

abbrev pub plan_columns : PlanView → List Column
plan_columns p = map (column_at (scope_in p.graph p.node)) p.columns

-- what holds of each plan
pub record IsPlan (p : PlanView) : Type 0 where
  pub some : 0 < length p.columns
  pub few : length p.columns ≤ 64
  pub planned : cause_in p.graph p.node p.columns p.under ≡ None

-- the number is one of the variations', where there is one
abbrev pub IsWithin : GraphView → Option ℕ → Type 0
IsWithin g None = ⊤
IsWithin g (Some v) = v < length (graph_variations g)

abbrev pub unless_cause : PlanView → Option SnapCause → Result PlanView SnapCause
unless_cause p None = Ok p
unless_cause p (Some cause) = Err cause

-- the plan of a graph with the variation's number
abbrev pub plan_of : GraphView → List ℕ → List (List ℕ) → Option ℕ → PlanView
plan_of g node columns variation = record { graph = g; node = node; columns = columns; under = graph_under g variation }

-- the plan, or why there is none
abbrev pub planned : GraphView → List ℕ → List (List ℕ) → Under → Result PlanView SnapCause
planned g node columns u = unless_cause (record { graph = g; node = node; columns = columns; under = u }) (cause_in g node columns u)
