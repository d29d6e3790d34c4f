-- Which variations a column, an expression and the filters of a node depend on.
use Rattle.std.specs.Prelude.{ℕ, Bool, false, ◌||◌, ◌&&◌, List, [], ◌∷◌, ◌++◌, if◌then◌else◌}
use Rattle.std.specs.List.{list_any}
use Rattle.rdf_values.specs.scripts.Names.{same, among}
use Rattle.rdf_values.specs.scripts.Nodes.{Path, Variation, target_of}
use Rattle.rdf_values.specs.expressions.Expressions.{Tree, Trees, Lit, Truth, Col, Neg, Not, Bin, Cond, Pick, Call, End, More}
use Rattle.rdf_values.specs.declared.scripts.statement.Statement.TheVariants.{Define, Redefine, Filter, Vary}

abbrev mutual
  -- the columns that stand in an expression, from left to right
  pub columns_in : {C F : Type 0} → Tree C F → List C
  columns_in (Lit z) = []
  columns_in (Truth b) = []
  columns_in (Col c) = c ∷ []
  columns_in (Neg a) = columns_in a
  columns_in (Not a) = columns_in a
  columns_in (Bin op a b) = columns_in a ++ columns_in b
  columns_in (Cond c a b) = columns_in c ++ columns_in a ++ columns_in b
  columns_in (Pick v i) = columns_in v ++ columns_in i
  columns_in (Call f args) = columns_in_all args

  -- the columns that stand in the arguments of a call
  pub columns_in_all : {C F : Type 0} → Trees C F → List C
  columns_in_all End = []
  columns_in_all (More a rest) = columns_in a ++ columns_in_all rest

-- the variation is one of those of a Vary with this name and these tags
abbrev pub is_own : Variation → List ℕ → List (List ℕ) → Bool
is_own v vary tags = same v.name vary && among v.tag tags

-- a column that is no alias depends on the variation, where it is read at the end of the path
abbrev pub named_depends : Variation → Path → List ℕ → Bool
named_depends v [] name = false
named_depends v (Define node parent column expr ∷ up) name =
    if same column name then list_any (λ c. named_depends v up (target_of up c)) (columns_in expr) else named_depends v up name
named_depends v (Redefine node parent column expr ∷ up) name =
    if same column name then list_any (λ c. named_depends v up (target_of up c)) (columns_in expr) else named_depends v up name
named_depends v (Vary node parent columns values tags vary ∷ up) name =
    (among name columns && is_own v vary tags) || named_depends v up name
named_depends v (s ∷ up) name = named_depends v up name

-- a column depends on the variation, where it is read at the end of the path
abbrev pub column_depends : Variation → Path → List ℕ → Bool
column_depends v path name = named_depends v path (target_of path name)

-- an expression depends on the variation: a column that stands in it does, also where evaluation may skip it
abbrev pub site_depends : {F : Type 0} → Variation → Path → Tree (List ℕ) F → Bool
site_depends v path expr = list_any (column_depends v path) (columns_in expr)

-- a filter of the path depends on the variation
abbrev pub filters_depend : Variation → Path → Bool
filters_depend v [] = false
filters_depend v (Filter node parent expr label ∷ up) = filters_depend v up || site_depends v up expr
filters_depend v (s ∷ up) = filters_depend v up
