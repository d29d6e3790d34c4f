-- That the parts of a job fit, and that a row is that of a graph, has one proof at most.
use Rattle.std.specs.Prelude.{◌++◌, ℕ, ℤ, pos, negsuc, List, [], ◌∷◌, Option}
use Rattle.std.specs.Coded.{Coded-set, codes, coded_option}
use Rattle.std.proofs.Props.{props}
use Rattle.rdf_values.specs.{ActionKind, AreColumns, AreRising, AreShortValues, ColType, Column, FitRows, FitsKind, FitsRow, GraphCause, Has64Bits, IsBounded, IsShort, IsStored, Line, named_code, Statement, Value, VaryValues}
use Rattle.rdf_values.specs.contracts.scripts.script_cause.GraphCause.{the_row as cause_row}
use Rattle.rdf_values.specs.declared.scripts.statement.Statement.TheVariants.{Vary, Action}
use Rattle.rdf_values.specs.declared.scripts.statement.VaryValues.TheVariants.{Lists, Vector}
use Rattle.graph_numbers.specs.{GraphView}
use Rattle.loop_keys.specs.{Fits, IsRow, Job, ValuePlace, Row}
use Rattle.loop_keys.specs.contracts.rows.ValuePlace.{the_row as place_row}

graph-set : IsSet GraphView
graph-set = Coded-set (hlevel (codes, named_code))

cause-set : IsSet (Option GraphCause)
cause-set = Coded-set (coded_option cause_row.coded)

place-set : IsSet ValuePlace
place-set = Coded-set place_row.coded

ruleset known = (props, graph-set, cause-set, place-set)

number-prop : (z : ℤ) → IsProp (Has64Bits z)
number-prop (pos n) = hlevel known
number-prop (negsuc n) = hlevel known

bounded-prop : (x : Value) → IsProp (IsBounded x)
bounded-prop (Value.Int z) = number-prop z
bounded-prop (Value.Bool b) = hlevel known
bounded-prop (Value.Vect zs) = hlevel (known, number-prop)

kind-prop : (k : ColType) (x : Value) → IsProp (FitsKind k x)
kind-prop ColType.Int (Value.Int n) = hlevel known
kind-prop ColType.Bool (Value.Bool b) = hlevel known
kind-prop ColType.Vect (Value.Vect ns) = hlevel known
kind-prop k x = hlevel known

row_fits-prop : (cs : List Column) (xs : List Value) → IsProp (FitsRow cs xs)
row_fits-prop [] [] = hlevel known
row_fits-prop (c ∷ cs) (x ∷ xs) = hlevel (known, kind-prop, bounded-prop, row_fits-prop cs xs)
row_fits-prop cs xs = hlevel known

rows_fit-prop : (cs : List Column) (rows : List (List Value)) → IsProp (FitRows cs rows)
rows_fit-prop cs [] = hlevel known
rows_fit-prop cs (row ∷ rows) = hlevel (known, row_fits-prop, rows_fit-prop cs rows)

stored-prop : (k : ColType) → IsProp (IsStored k)
stored-prop ColType.Int = hlevel known
stored-prop k = hlevel known

columns-prop : (seen cs : List Column) → IsProp (AreColumns seen cs)
columns-prop seen [] = hlevel known
columns-prop seen (c ∷ cs) = hlevel (known, stored-prop, columns-prop (seen ++ c ∷ []) cs)

rising-prop : (n : ℕ) (ls : List Line) → IsProp (AreRising n ls)
rising-prop n [] = hlevel known
rising-prop n (l ∷ ls) = hlevel (known, rising-prop l.number ls)

values-prop : (x : VaryValues) → IsProp (AreShortValues x)
values-prop (Lists lists) = hlevel known
values-prop (Vector e) = hlevel known

short-prop : (s : Statement) → IsProp (IsShort s)
short-prop (Vary node parent columns values tags vary) = hlevel (known, values-prop)
short-prop (Action result parent (ActionKind.Histo1D edges x w)) = hlevel known
short-prop (Action result parent (ActionKind.Histo2D xs ys x y w)) = hlevel known
short-prop s = hlevel known

pub fits-prop : {V : Type 0} {D : V → Type 0} {g : _} (j : Job V D g) → IsProp (Fits j)
fits-prop j = hlevel (known, rows_fit-prop, columns-prop, rising-prop, short-prop)

pub row-prop : (g : GraphView) (u : Option ℕ) (r : Row) → IsProp (IsRow g u r)
row-prop g u r = hlevel known
