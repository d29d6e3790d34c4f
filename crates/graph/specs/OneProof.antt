-- What ghost fields say has one proof at most.
use Rattle.std.specs.Prelude.{ℕ, List, [], ◌∷◌, Option}
use Rattle.std.specs.Coded.{Coded-set, coded_list, coded_option}
use Rattle.std.specs.List.{AllZip}
use Rattle.std.proofs.Props.{props}
use Rattle.rdf_values.specs.{AreAccepted, args_count, Bin, Booked, Call, Callee, Col, ColType, Column, Cond, End, FunctionNames, GraphCause, Lit, More, Neg, Not, num_code, NumTree, Pick, scope_of, Statement, Trees}
use Rattle.rdf_values.specs.expressions.Expressions.{Truth}
use Rattle.rdf_values.specs.contracts.scripts.script_cause.GraphCause.{the_row as cause_row}
use Rattle.rdf_values.specs.contracts.tables.value.ColType.{the_row as kind_row}
use Rattle.expr_check.specs.{AllCallsFit, CallsFit, CheckedExpr, IsCallOf}
use Rattle.graph_numbers.specs.{SiteAt}
use Rattle.graph.specs.declared.sets.VarSet.{VarSet}
use Rattle.graph.specs.Dependence.{Numbers, AreSets, IsSet as IsSetOf}
use Rattle.graph.specs.Gains.{IsSite, AreSites, IsRow, AreTables}
use Rattle.graph.specs.declared.tables.ResultRow.{ResultRow}
use Rattle.graph.specs.declared.tables.Tables.{Tables}

refusal-set : IsSet (Option GraphCause)
refusal-set = Coded-set (coded_option cause_row.coded)

kind-set : IsSet ColType
kind-set = Coded-set kind_row.coded

cause-set : IsSet GraphCause
cause-set = Coded-set cause_row.coded

kinds-set : IsSet (List ColType)
kinds-set = Coded-set (coded_list kind_row.coded)

tree-set : IsSet NumTree
tree-set = Coded-set num_code

ruleset known = (props, refusal-set, kind-set, cause-set, kinds-set, tree-set)

accepted-prop : (names : FunctionNames) (header : List Column) (before : List Statement) → IsProp (AreAccepted names (scope_of header) before)
accepted-prop names header [] = hlevel known
accepted-prop names header (s ∷ before) = hlevel (known, accepted-prop names header before)

zip-prop : {A B : Type 0} (R : A → B → Type 0) → ((x : A) (y : B) → IsProp (R x y)) → (xs : List A) (ys : List B) → IsProp (AllZip R xs ys)
zip-prop R each [] [] = hlevel known
zip-prop R each [] (y ∷ ys) = hlevel known
zip-prop R each (x ∷ xs) [] = hlevel known
zip-prop R each (x ∷ xs) (y ∷ ys) = hlevel (each, zip-prop R each xs ys)

sets-prop : (ds : List Numbers) (ss : List VarSet) → IsProp (AreSets ds ss)
sets-prop ds ss = zip-prop IsSetOf (λ d s. hlevel known) ds ss

module _ (names : FunctionNames) where
  call-prop : (f : Callee) (count : ℕ) → IsProp (IsCallOf names f count)
  call-prop (Callee.Given i) count = hlevel known
  call-prop f count = hlevel known

  mutual
    calls-prop : (e : NumTree) → IsProp (CallsFit names e)
    calls-prop (Lit z) = hlevel known
    calls-prop (Truth b) = hlevel known
    calls-prop (Col c) = hlevel known
    calls-prop (Neg a) = calls-prop a
    calls-prop (Not a) = calls-prop a
    calls-prop (Bin o a b) = hlevel (calls-prop a, calls-prop b)
    calls-prop (Cond c a b) = hlevel (calls-prop c, calls-prop a, calls-prop b)
    calls-prop (Pick v i) = hlevel (calls-prop v, calls-prop i)
    calls-prop (Call f args) = hlevel (call-prop f (args_count args), all_calls-prop args)

    all_calls-prop : (args : Trees ℕ Callee) → IsProp (AllCallsFit names args)
    all_calls-prop End = hlevel known
    all_calls-prop (More a rest) = hlevel (calls-prop a, all_calls-prop rest)

  sites-prop : (kinds : List ColType) (xs : List SiteAt) (cs : List CheckedExpr) → IsProp (AreSites kinds names xs cs)
  sites-prop kinds xs cs = zip-prop (IsSite kinds names) (λ x c. hlevel (known, calls-prop c.tree)) xs cs

rows-prop : (bs : List Booked) (rs : List ResultRow) → IsProp (AllZip IsRow bs rs)
rows-prop bs rs = zip-prop IsRow (λ b r. hlevel known) bs rs

pub tables-prop : (header : List Column) (names : FunctionNames) (before : List Statement) (t : Tables) → IsProp (AreTables header names before t)
tables-prop header names before t = hlevel (known, accepted-prop names header before, sets-prop, sites-prop names, rows-prop)
