-- Columns of a test that are of the kinds that a scope says.
use Rattle.lemmas.proofs.{◌≡◌, ◌≤◌, ◌+◌, ℕ, Bool, true, false, List, [], ◌∷◌, ◌++◌, Some, Result, Ok, All, refl, subst, cond, nat_eq, nat_le, length, arith, slice_get, All-from_recursion, AllByRecursion, Decides-eqb, recursion_from_All}
use Rattle.expr_check.proofs.WellTyped.{each_weaker}
use Rattle.rdf_values.specs.{ColType, GraphCause, ScopeColumn, Value}
use Rattle.rdf_model.specs.{FitsOutcome, Needs, Outcome}
use Rattle.expr_check.specs.{number_kind, NumberHasKind, numbers_in}
use Rattle.expr_eval.specs.{ColumnInput, input_outcome}
use Rattle.engine_tests.specs.declared.cells.TestCell.{TestCell}
use Rattle.engine_tests.specs.{AllFit, AreBefore, cell_outcome, fits, IsBefore, look_in}

-- ---- one column

le_from : (m : ℕ) → nat_le m 4096 ≡ true → m ≤ 4096
le_from m e = grind arith

input_fits : (c : ℕ) (k : ColType) (input : ColumnInput) → fits k input ≡ true → FitsOutcome k (input_outcome c input)
input_fits c ColType.Int (ColumnInput.Int z) e = tt
input_fits c ColType.Int (ColumnInput.Bool b) e = cc e
input_fits c ColType.Int (ColumnInput.Vect zs) e = cc e
input_fits c ColType.Int (ColumnInput.Faulted f) e = tt
input_fits c ColType.Int ColumnInput.Missing e = tt
input_fits c ColType.Bool (ColumnInput.Int z) e = cc e
input_fits c ColType.Bool (ColumnInput.Bool b) e = tt
input_fits c ColType.Bool (ColumnInput.Vect zs) e = cc e
input_fits c ColType.Bool (ColumnInput.Faulted f) e = tt
input_fits c ColType.Bool ColumnInput.Missing e = tt
input_fits c ColType.Vect (ColumnInput.Int z) e = cc e
input_fits c ColType.Vect (ColumnInput.Bool b) e = cc e
input_fits c ColType.Vect (ColumnInput.Vect zs) e = le_from (length zs.now) e
input_fits c ColType.Vect (ColumnInput.Faulted f) e = tt
input_fits c ColType.Vect ColumnInput.Missing e = tt

cell_fits : (c : ℕ) (cell : TestCell) → FitsOutcome cell.kind (cell_outcome c (Some cell))
cell_fits c cell = by_test (fits cell.kind cell.input) (input_fits c cell.kind cell.input)
  where
    by_test : (b : Bool) → (b ≡ true → FitsOutcome cell.kind (input_outcome c cell.input)) → FitsOutcome cell.kind (cond b (input_outcome c cell.input) (Needs c))
    by_test true f = f refl
    by_test false f = tt

-- the column at a place comes to a value of its kind, or to none
pub column_fits : (cells : List TestCell) (place : ℕ) (cell : TestCell) → slice_get cells place ≡ Some cell → FitsOutcome cell.kind (look_in cells place)
column_fits cells place cell at = rw at (cell_fits place cell)

-- ---- scopes

-- no column before a place has its number
pub new_number : (cells : List TestCell) (place : ℕ) (k : ColType) (columns : List ScopeColumn) → AreBefore cells place columns → NumberHasKind place k columns
new_number cells place k columns before =
    All-from_recursion (λ (c : ScopeColumn). c.number ≡ place → c.kind ≡ k) columns
    (each_weaker (IsBefore cells place) (λ (c : ScopeColumn). c.number ≡ place → c.kind ≡ k) (λ c b e. let l = b.0 in absurd (omega arith)) columns (recursion_from_All (IsBefore cells place) columns before))

with_last : (P Q : ScopeColumn → Type 0) → ((c : ScopeColumn) → P c → Q c) → (last : ScopeColumn) → Q last → (columns : List ScopeColumn) → AllByRecursion P columns → AllByRecursion Q (columns ++ last ∷ [])
with_last P Q f last l [] h = (l, tt)
with_last P Q f last l (c ∷ cs) h = (f c h.0, with_last P Q f last l cs h.1)

-- the columns before a place, and the one at it
pub one_more : (cells : List TestCell) (place : ℕ) (cell : TestCell) (name : List ℕ) (columns : List ScopeColumn) → slice_get cells place ≡ Some cell → AreBefore cells place columns
    → AreBefore cells (place + 1) (columns ++ record { name = name; kind = cell.kind; number = place } ∷ [])
one_more cells place cell name columns at before =
    let last : ScopeColumn = record { name = name; kind = cell.kind; number = place } in
    All-from_recursion (IsBefore cells (place + 1)) (columns ++ last ∷ [])
    (with_last (IsBefore cells place) (IsBefore cells (place + 1)) (λ c b. let l = b.0 in (omega arith, b.1)) last (omega arith, column_fits cells place cell at) columns (recursion_from_All (IsBefore cells place) columns before))

-- ---- expressions

kind_fits : (look : ℕ → Outcome ℕ Value) (columns : List ScopeColumn) (n : ℕ) (k : ColType) → AllByRecursion (λ (c : ScopeColumn). FitsOutcome c.kind (look c.number)) columns → number_kind (numbers_in columns) n ≡ Ok k
    → FitsOutcome k (look n)
kind_fits look [] n k each is = cc is
kind_fits look (c ∷ cs) n k each is = by_test (nat_eq c.number n) c.kind (number_kind (numbers_in cs) n) (λ e. let P : ℕ → Type 0 = λ m. FitsOutcome c.kind (look m) in subst P ((Decides-eqb c.number n).0 e) each.0) (kind_fits look cs n k each.1) is
  where
    by_test : (b : Bool) (l : ColType) (r : Result ColType GraphCause) → (b ≡ true → FitsOutcome l (look n)) → (r ≡ Ok k → FitsOutcome k (look n)) → cond b (Ok l) r ≡ Ok k → FitsOutcome k (look n)
    by_test true l r here below is = let same : l ≡ k = cc is in let P : ColType → Type 0 = λ t. FitsOutcome t (look n) in subst P same (here refl)
    by_test false l r here below is = below is

-- what an expression reads comes to values of the kinds that it was checked with
pub all_fit : (cells : List TestCell) (place : ℕ) (columns : List ScopeColumn) (kinds : List (ℕ × ColType)) → AreBefore cells place columns
    → All (λ (k : ℕ × ColType). number_kind (numbers_in columns) k.0 ≡ Ok k.1) kinds → AllFit cells kinds
all_fit cells place columns kinds before known =
    let each = each_weaker (IsBefore cells place) (λ (c : ScopeColumn). FitsOutcome c.kind (look_in cells c.number)) (λ c b. b.1) columns (recursion_from_All (IsBefore cells place) columns before) in
    All-from_recursion (λ (k : ℕ × ColType). FitsOutcome k.1 (look_in cells k.0)) kinds
    (each_weaker (λ (k : ℕ × ColType). number_kind (numbers_in columns) k.0 ≡ Ok k.1) (λ (k : ℕ × ColType). FitsOutcome k.1 (look_in cells k.0)) (λ k is. kind_fits (look_in cells) columns k.0 k.1 each is) kinds
    (recursion_from_All (λ (k : ℕ × ColType). number_kind (numbers_in columns) k.0 ≡ Ok k.1) kinds known))
