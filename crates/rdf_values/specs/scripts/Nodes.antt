-- Nodes as paths. A node is seen as the statements that made it, from its own up to the head; the head is the empty path.
use Rattle.std.specs.Prelude.{ℕ, Bool, false, ◌&&◌, List, [], ◌∷◌, ◌++◌, map, reverse, Option, if◌then◌else◌}
use Rattle.rdf_values.specs.scripts.Names.{same, among}
use Rattle.rdf_values.specs.declared.scripts.statement.Statement.{Statement}
use Rattle.rdf_values.specs.declared.scripts.statement.Statement.TheVariants.{Define, Redefine, Alias, Filter, Vary, Action, Report}
use Rattle.rdf_values.specs.declared.scripts.statement.Script.{Script}
use Rattle.rdf_values.specs.declared.scripts.statement.Line.{Line}

-- the statements from a node's own up to the head
abbrev pub Path : Type 0
Path = List Statement

-- the statements of a script, the latest first
abbrev pub history : Script → List Statement
history script = reverse (map (λ (l : Line). l.statement) script.lines)

-- the statement makes the node of that name
abbrev pub makes : Statement → List ℕ → Bool
makes (Define node parent column expr) name = same node name
makes (Redefine node parent column expr) name = same node name
makes (Alias node parent column target) name = same node name
makes (Filter node parent expr label) name = same node name
makes (Vary node parent columns values tags vary) name = same node name
makes s name = false

-- the node that a statement is called on
abbrev pub parent_of : Statement → List ℕ
parent_of (Define node parent column expr) = parent
parent_of (Redefine node parent column expr) = parent
parent_of (Alias node parent column target) = parent
parent_of (Filter node parent expr label) = parent
parent_of (Vary node parent columns values tags vary) = parent
parent_of (Action result parent kind) = parent
parent_of (Report result parent) = parent
parent_of s = []

-- the path of a node, by the statements so far, the latest first
abbrev pub path : List Statement → List ℕ → Path
path [] node = []
path (s ∷ before) node = if makes s node then s ∷ path before (parent_of s) else path before node

-- the column that an alias of the path stands for, and every other name itself
abbrev pub target_of : Path → List ℕ → List ℕ
target_of [] name = name
target_of (Alias node parent column target ∷ up) name = target_of up (if same column name then target else name)
target_of (s ∷ up) name = target_of up name

-- ---- variations

-- a variation: the name of its Vary, and the tag
pub record Variation : Type 0 where
  pub name : List ℕ
  pub tag : List ℕ

-- nominal, or one variation
abbrev pub Under : Type 0
Under = Option Variation

-- two variations have the same name and tag
abbrev pub same_variation : Variation → Variation → Bool
same_variation u v = same u.name v.name && same u.tag v.tag

-- the variations that a statement makes, one for each tag
abbrev pub own_variations : Statement → List Variation
own_variations (Vary node parent columns values tags name) = map (λ t. record { name = name; tag = t }) tags
own_variations s = []

-- the variations of the statements so far, in the order of their numbers
abbrev pub variations : List Statement → List Variation
variations [] = []
variations (s ∷ before) = variations before ++ own_variations s

-- ---- where a column comes from

-- the path from the statement that makes a column on, for a name that is no alias; empty where the head makes it
abbrev pub named_maker : Path → List ℕ → Path
named_maker [] name = []
named_maker (Define node parent column expr ∷ up) name =
    if same column name then Define node parent column expr ∷ up else named_maker up name
named_maker (Redefine node parent column expr ∷ up) name =
    if same column name then Redefine node parent column expr ∷ up else named_maker up name
named_maker (s ∷ up) name = named_maker up name

-- the path from the statement that makes the column on, an alias read as its target
abbrev pub maker : Path → List ℕ → Path
maker path name = named_maker path (target_of path name)

-- the paths from each Vary of a column on that is met before its maker, for a name that is no alias
abbrev pub named_varies : Path → List ℕ → List Path
named_varies [] name = []
named_varies (Define node parent column expr ∷ up) name = if same column name then [] else named_varies up name
named_varies (Redefine node parent column expr ∷ up) name = if same column name then [] else named_varies up name
named_varies (Vary node parent columns values tags vary ∷ up) name =
    if among name columns then (Vary node parent columns values tags vary ∷ up) ∷ named_varies up name else named_varies up name
named_varies (s ∷ up) name = named_varies up name

-- the paths from each Vary of the column on that is met before its maker, an alias read as its target
abbrev pub varies : Path → List ℕ → List Path
varies path name = named_varies path (target_of path name)
