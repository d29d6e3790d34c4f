-- The tree of an expression of the program: the expression without the boxes that hold its parts.
use Rattle.std.specs.Prelude.{ℕ, List}
use Rattle.rdf_values.specs.expressions.Expressions.{Trees, NamedTree}
use Rattle.rdf_values.specs.expressions.Expressions as t
use Rattle.rdf_values.specs.declared.expressions.expr.ExprNode.{ExprNode, Lit, Truth, Col, Neg', Not', Bin', Cond', Pick', Call}
use Rattle.rdf_values.specs.declared.expressions.expr.Args.{Args, End, More'}

abbrev mutual
  -- an expression without the boxes that hold its parts
  pub tree_of : ExprNode → NamedTree
  tree_of (Lit z) = t.Lit z
  tree_of (Truth b) = t.Truth b
  tree_of (Col c) = t.Col c
  tree_of (Neg' p a) = t.Neg (tree_of a)
  tree_of (Not' p a) = t.Not (tree_of a)
  tree_of (Bin' op p a q b) = t.Bin op (tree_of a) (tree_of b)
  tree_of (Cond' p c q a r b) = t.Cond (tree_of c) (tree_of a) (tree_of b)
  tree_of (Pick' p v q i) = t.Pick (tree_of v) (tree_of i)
  tree_of (Call f args) = t.Call f (trees_of args)

  pub trees_of : Args → Trees (List ℕ) (List ℕ)
  trees_of End = t.End
  trees_of (More' p a q rest) = t.More (tree_of a) (trees_of rest)
