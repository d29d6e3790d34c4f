-- The columns of a test.
use Rattle.std.specs.Prelude.{ℕ, Bool, true, false, List, length, Option, Some, None, slice_get, nat_le, if◌then◌else◌, All}
use Rattle.rdf_values.specs.{ColType, Value}
use Rattle.rdf_model.specs.{FitsOutcome, Needs, Outcome}
use Rattle.expr_eval.specs.{ColumnInput, input_outcome}
use Rattle.engine_tests.specs.declared.cells.TestCell.{TestCell}

-- what is known is of the kind, and a vector has at most 4,096 elements
abbrev pub fits : ColType → ColumnInput → Bool
fits k (ColumnInput.Faulted fault) = true
fits k ColumnInput.Missing = true
fits ColType.Int (ColumnInput.Int z) = true
fits ColType.Bool (ColumnInput.Bool b) = true
fits ColType.Vect (ColumnInput.Vect zs) = nat_le (length zs.now) 4096
fits k input = false

-- what is told of a column; one whose value isn't of its kind counts as missing
abbrev pub cell_outcome : ℕ → Option TestCell → Outcome ℕ Value
cell_outcome c None = Needs c
cell_outcome c (Some cell) = if fits cell.kind cell.input then input_outcome c cell.input else Needs c

-- what is told of the column of that number
abbrev pub look_in : List TestCell → ℕ → Outcome ℕ Value
look_in cells c = cell_outcome c (slice_get cells c)

-- each column of the expression comes to a value of its kind, or to none
abbrev pub AllFit : List TestCell → List (ℕ × ColType) → Type 0
AllFit cells kinds = All (λ (k : ℕ × ColType). FitsOutcome k.1 (look_in cells k.0)) kinds
