-- The tree of a numbered expression of the program.
use Rattle.std.specs.Prelude.{ℕ}
use Rattle.rdf_values.specs.expressions.Expressions.{NumTree, Trees}
use Rattle.rdf_values.specs.expressions.Expressions as t
use Rattle.rdf_values.specs.declared.expressions.num_expr.Callee.{Callee}
use Rattle.rdf_values.specs.declared.expressions.num_expr.NumNode.{NumNode, Lit, Truth, Col, Neg', Not', Bin', Cond', Pick', Call}
use Rattle.rdf_values.specs.declared.expressions.num_expr.NumArgs.{NumArgs, End, More'}

abbrev mutual
  pub num_tree : NumNode → NumTree
  num_tree (Lit z) = t.Lit z
  num_tree (Truth b) = t.Truth b
  num_tree (Col c) = t.Col c
  num_tree (Neg' p a) = t.Neg (num_tree a)
  num_tree (Not' p a) = t.Not (num_tree a)
  num_tree (Bin' op p a q b) = t.Bin op (num_tree a) (num_tree b)
  num_tree (Cond' p c q a r b) = t.Cond (num_tree c) (num_tree a) (num_tree b)
  num_tree (Pick' p v q i) = t.Pick (num_tree v) (num_tree i)
  num_tree (Call f args) = t.Call f (num_trees args)

  pub num_trees : NumArgs → Trees ℕ Callee
  num_trees End = t.End
  num_trees (More' p a q rest) = t.More (num_tree a) (num_trees rest)
