-- What the check of a statement answers, and that of the expressions of a Vary.
use Rattle.std.specs.Prelude.{ℕ, List, map, ◌≡◌, Option, option_map, Some, None, Result, Ok, Err, [], ◌∷◌, ◌++◌}
use Rattle.rdf_values.specs.{check, check_target, first_refusal, FunctionNames, GraphCause, Line, path, Scope, scope_at, Statement, Column, NamedTree, VaryValues}
use Rattle.graph.specs.declared.refusals.Stop.{Stop}
use Rattle.graph.specs.declared.refusals.Stop.TheVariants.{Cause, Memory}
use Rattle.std.specs.List.{AllZip}
use Rattle.rdf_values.specs.declared.scripts.statement.VaryValues.TheVariants.{Lists, Vector}
use Rattle.expr_check.specs.{CheckedExpr}
use Rattle.graph.specs.Gains.{IsCheckedAt, statements}
use Rattle.graph.specs.declared.refusals.GraphRefusal.{GraphRefusal}
use Rattle.graph.specs.declared.refusals.GraphRefusal.TheVariants.{At}

-- the check refuses for that cause; nothing is said of want of memory
abbrev pub IsStop : Option GraphCause → Stop → Type 0
IsStop wanted (Cause cause) = wanted ≡ Some cause
IsStop wanted Memory = Unit {0}

-- the check passes where there is an answer, and otherwise stops so
abbrev pub Decides : {A : Type 0} → Option GraphCause → Result A Stop → Type 0
Decides wanted (Ok a) = wanted ≡ None
Decides wanted (Err stop) = IsStop wanted stop

-- the columns that a Vary at a node changes
abbrev pub targets_at : FunctionNames → Scope → List Statement → List ℕ → List (List ℕ) → Option GraphCause
targets_at names header before parent columns = first_refusal (map (check_target (scope_at names header before parent) (path before parent)) columns)

-- the expressions of lists, one list after the other
abbrev pub all_expressions : List (List NamedTree) → List NamedTree
all_expressions [] = []
all_expressions (es ∷ lists) = es ++ all_expressions lists

-- the expressions of a Vary
abbrev pub value_expressions : VaryValues → List NamedTree
value_expressions (Lists lists) = all_expressions lists
value_expressions (Vector e) = e ∷ []

module _ (header : List Column) (names : FunctionNames) (before : List Statement) (node : List ℕ) where
  -- the expressions were checked at the node, in order
  abbrev pub AllCheckedAt : List NamedTree → List CheckedExpr → Type 0
  AllCheckedAt es cs = AllZip (IsCheckedAt header names before node) es cs

  -- a list to which the checked expressions were appended
  pub record Appends (es : List NamedTree) (old new : List CheckedExpr) : Type 0 where
    pub more : List CheckedExpr
    pub appended : new ≡ old ++ more
    pub each : AllCheckedAt es more

-- ---- the first line of a script that is refused, and how it is answered

-- a line's refusal after lines that may be refused before it
abbrev pub refused_then : ℕ → Option (ℕ × GraphCause) → Option GraphCause → Option (ℕ × GraphCause)
refused_then number (Some r) cause = Some r
refused_then number None cause = option_map (λ c. (number, c)) cause

-- the first of the lines, the latest first, that is refused after those before it
abbrev pub refused : FunctionNames → Scope → List Line → Option (ℕ × GraphCause)
refused names header [] = None
refused names header (l ∷ before) = refused_then l.number (refused names header before) (check names header (statements before) l.statement)

-- a refusal names the refused line; nothing is said of want of memory
abbrev pub IsRefusal : Option (ℕ × GraphCause) → GraphRefusal → Type 0
IsRefusal wanted (GraphRefusal.At line cause) = wanted ≡ Some (line, cause)
IsRefusal wanted GraphRefusal.Memory = Unit {0}

-- a line that is refused, as it is answered
abbrev pub refused_at : ℕ × GraphCause → GraphRefusal
refused_at c = At c.0 c.1
