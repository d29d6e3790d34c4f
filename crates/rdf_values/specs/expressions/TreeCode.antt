-- How the tree of an expression is stored: each part by a number for its case and the codes of what stands in it.
use Rattle.std.specs.Prelude.{◌≡◌, refl}
use Rattle.std.specs.Coded.{Coded, coded_ℕ, coded_ℤ, coded_bool, coded_list}
use base.Stored.{Gv, gnum, gcons, gnil}
use Rattle.std.proofs.Common.{ap}
use Rattle.rdf_values.specs.expressions.Expressions.{Tree, Trees, NamedTree, NumTree}
use Rattle.rdf_values.specs.expressions.Expressions as t
use Rattle.rdf_values.specs.contracts.expressions.expr.BinOp.{the_row as binop_row}
use Rattle.rdf_values.specs.contracts.expressions.num_expr.Callee.{the_row as callee_row}

abbrev left : Gv → Gv
left gnil = gnil
left (gnum n) = gnil
left (gcons a b) = a

abbrev right : Gv → Gv
right gnil = gnil
right (gnum n) = gnil
right (gcons a b) = b

module _ {C F : Type 0} (c : Coded C) (f : Coded F) where
  abbrev mutual
    pub code_tree : Tree C F → Gv
    code_tree (t.Lit z) = gcons (gnum 0) (coded_ℤ.code z)
    code_tree (t.Truth b) = gcons (gnum 1) (coded_bool.code b)
    code_tree (t.Col x) = gcons (gnum 2) (c.code x)
    code_tree (t.Neg a) = gcons (gnum 3) (code_tree a)
    code_tree (t.Not a) = gcons (gnum 4) (code_tree a)
    code_tree (t.Bin op a b) = gcons (gnum 5) (gcons (binop_row.coded.code op) (gcons (code_tree a) (code_tree b)))
    code_tree (t.Cond k a b) = gcons (gnum 6) (gcons (code_tree k) (gcons (code_tree a) (code_tree b)))
    code_tree (t.Pick v i) = gcons (gnum 7) (gcons (code_tree v) (code_tree i))
    code_tree (t.Call g args) = gcons (gnum 8) (gcons (f.code g) (code_trees args))

    pub code_trees : Trees C F → Gv
    code_trees t.End = gnil
    code_trees (t.More a rest) = gcons (code_tree a) (code_trees rest)

  mutual
    pub inj_tree : (x y : Tree C F) → code_tree x ≡ code_tree y → x ≡ y
    inj_tree (t.Lit x) (t.Lit y) p = ap t.Lit (coded_ℤ.inj x y (ap right p))
    inj_tree (t.Truth x) (t.Truth y) p = ap t.Truth (coded_bool.inj x y (ap right p))
    inj_tree (t.Col x) (t.Col y) p = ap t.Col (c.inj x y (ap right p))
    inj_tree (t.Neg x) (t.Neg y) p = ap t.Neg (inj_tree x y (ap right p))
    inj_tree (t.Not x) (t.Not y) p = ap t.Not (inj_tree x y (ap right p))
    inj_tree (t.Bin o x z) (t.Bin q y w) p =
        λ i. t.Bin (binop_row.coded.inj o q (ap (λ g. left (right g)) p) i) (inj_tree x y (ap (λ g. left (right (right g))) p) i) (inj_tree z w (ap (λ g. right (right (right g))) p) i)
    inj_tree (t.Cond k x z) (t.Cond l y w) p =
        λ i. t.Cond (inj_tree k l (ap (λ g. left (right g)) p) i) (inj_tree x y (ap (λ g. left (right (right g))) p) i) (inj_tree z w (ap (λ g. right (right (right g))) p) i)
    inj_tree (t.Pick v x) (t.Pick w y) p =
        λ i. t.Pick (inj_tree v w (ap (λ g. left (right g)) p) i) (inj_tree x y (ap (λ g. right (right g)) p) i)
    inj_tree (t.Call g x) (t.Call h y) p =
        λ i. t.Call (f.inj g h (ap (λ g. left (right g)) p) i) (inj_trees x y (ap (λ g. right (right g)) p) i)
    inj_tree x y p = cc p

    pub inj_trees : (x y : Trees C F) → code_trees x ≡ code_trees y → x ≡ y
    inj_trees t.End t.End p = refl
    inj_trees (t.More a x) (t.More b y) p = λ i. t.More (inj_tree a b (ap left p) i) (inj_trees x y (ap right p) i)
    inj_trees x y p = cc p

  abbrev pub tree_code : Coded (Tree C F)
  tree_code = record { code = code_tree; inj = inj_tree }

abbrev pub named_code : Coded NamedTree
named_code = tree_code (coded_list coded_ℕ) (coded_list coded_ℕ)

abbrev pub num_code : Coded NumTree
num_code = tree_code coded_ℕ callee_row.coded
