-- That a statement's lists are short has one proof at most.
use Rattle.std.specs.Prelude.{List, [], ◌∷◌}
use Rattle.std.specs.List.{AllByRecursion}
use Rattle.std.proofs.Props.{props}
use Rattle.rdf_values.specs.{ActionKind, AreShortValues, IsShort, Statement, VaryValues}
use Rattle.rdf_values.specs.declared.scripts.statement.Statement.TheVariants.{Action, Vary}
use Rattle.rdf_values.specs.declared.scripts.statement.VaryValues.TheVariants.{Lists, Vector}

ruleset known = (props)

pub short-prop : (values : VaryValues) → IsProp (AreShortValues values)
short-prop (Lists lists) = hlevel known
short-prop (Vector e) = hlevel known

statement_short-prop : (s : Statement) → IsProp (IsShort s)
statement_short-prop (Vary node parent columns values tags vary) = hlevel (known, short-prop values)
statement_short-prop (Action result parent (ActionKind.Histo1D edges x w)) = hlevel known
statement_short-prop (Action result parent (ActionKind.Histo2D xs ys x y w)) = hlevel known
statement_short-prop s = hlevel known

pub short_all-prop : (before : List Statement) → IsProp (AllByRecursion IsShort before)
short_all-prop [] = hlevel known
short_all-prop (s ∷ before) = hlevel (statement_short-prop s, short_all-prop before)
