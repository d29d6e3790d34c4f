-- The columns of a test as a scope.
use Rattle.std.specs.Prelude.{◌<◌, ℕ, List, All}
use Rattle.rdf_values.specs.{ScopeColumn}
use Rattle.rdf_model.specs.{FitsOutcome}
use Rattle.engine_tests.specs.declared.cells.TestCell.{TestCell}
use Rattle.engine_tests.specs.Cells.{look_in}

-- the column stands before the place, and comes to a value of its kind, or to none
abbrev pub IsBefore : List TestCell → ℕ → ScopeColumn → Type 0
IsBefore cells place c = (c.number < place) × FitsOutcome c.kind (look_in cells c.number)

-- each column of the scope does
abbrev pub AreBefore : List TestCell → ℕ → List ScopeColumn → Type 0
AreBefore cells place columns = All (IsBefore cells place) columns
