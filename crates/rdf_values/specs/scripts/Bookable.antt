-- What a script meets that can be booked as a graph: few lines, whose lists are short.
use Rattle.std.specs.Prelude.{◌≤◌, ◌<◌, ℕ, ◌+◌, List, [], ◌∷◌, length, All}
use Rattle.rdf_values.specs.expressions.Expressions.{NamedTree}
use Rattle.rdf_values.specs.declared.scripts.statement.Line.{Line}
use Rattle.rdf_values.specs.declared.scripts.statement.Script.{Script}
use Rattle.rdf_values.specs.declared.scripts.statement.Statement.{Statement}
use Rattle.rdf_values.specs.declared.scripts.statement.Statement.TheVariants.{Vary, Action}
use Rattle.rdf_values.specs.declared.scripts.statement.ActionKind.{ActionKind}
use Rattle.rdf_values.specs.declared.scripts.statement.VaryValues.{VaryValues}
use Rattle.rdf_values.specs.declared.scripts.statement.VaryValues.TheVariants.{Lists, Vector}

-- how many expressions lists have together
abbrev pub expression_count : List (List NamedTree) → ℕ
expression_count [] = 0
expression_count (es ∷ lists) = length es + expression_count lists

-- a Vary has at most 65,536 lists, and at most 65,536 expressions in all of them together
abbrev pub AreShortValues : VaryValues → Type 0
AreShortValues (Lists lists) = (length lists ≤ 65536) × (expression_count lists ≤ 65536)
AreShortValues (Vector e) = Unit {0}

-- each list in a statement has at most 65,536 members, and a Vary has a column and a tag
abbrev pub IsShort : Statement → Type 0
IsShort (Vary node parent columns values tags vary) = (0 < length columns) × (length columns ≤ 65536) × (0 < length tags) × (length tags ≤ 65536) × AreShortValues values
IsShort (Action result parent (ActionKind.Histo1D edges x w)) = length edges ≤ 65536
IsShort (Action result parent (ActionKind.Histo2D xs ys x y w)) = (length xs ≤ 65536) × (length ys ≤ 65536)
IsShort s = Unit {0}

-- each line's number is above the one before it
abbrev pub AreRising : ℕ → List Line → Type 0
AreRising n [] = Unit {0}
AreRising n (l ∷ ls) = (n < l.number) × AreRising l.number ls

-- a script can be booked that has at most 256 lines, whose numbers rise and whose lists are short
pub record IsBookable (script : Script) : Type 0 where
  pub few : length script.lines ≤ 256
  pub rising : AreRising 0 script.lines
  pub short : All (λ (l : Line). IsShort l.statement) script.lines
