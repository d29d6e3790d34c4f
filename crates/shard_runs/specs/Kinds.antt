-- The kind of the first column that a pass reads.
use Rattle.std.specs.Prelude.{ℕ, List, [], ◌∷◌}
use Rattle.rdf_values.specs.{ActionAt, Booking, ColType, column_kind, columns_of, fn_names, kind_or_int, Pass, ReportOn, Scope, scope_of, visible_columns}
use Rattle.rdf_model.specs.{Dataset}

-- the kind of the first of the columns, and that of a number where there is none
abbrev pub first_kind : Scope → List (List ℕ) → ColType
first_kind scope [] = ColType.Int
first_kind scope (c ∷ cs) = kind_or_int (column_kind scope c)

-- by the columns that are visible where the action was booked
abbrev pub booking_kind : Dataset → Booking → ColType
booking_kind d (ActionAt action at) = first_kind (visible_columns (fn_names d.fns) (scope_of d.columns) at) (columns_of action)
booking_kind d (ReportOn filters) = ColType.Int

abbrev pub pass_kind : Dataset → Pass → ColType
pass_kind d p = booking_kind d p.result.booking
