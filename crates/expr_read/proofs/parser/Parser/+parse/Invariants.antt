use Rattle.lemmas.proofs.{◌+◌, ◌-◌, ◌*◌, length}
use Rattle.rdf_values.specs.{tree_of}
use Rattle.expr_read.specs.{left_of, Stops, Took}
use Rattle.expr_read.proofs.parser.Parser.+parse.Given as goal

-- the tokens that are left, and how far the function stands above those that it calls
abbrev pub decreases-args : goal.decreases-args
decreases-args l = 16 * length (left_of l.self.now) + 14

abbrev pub decreases-expr : goal.decreases-expr
decreases-expr l = 16 * length (left_of l.self.now) + 13

abbrev pub decreases-binary : goal.decreases-binary
decreases-binary l = 16 * length (left_of l.self.now) + (12 - l.level)

abbrev pub decreases-unary : goal.decreases-unary
decreases-unary l = 16 * length (left_of l.self.now) + 4

abbrev pub decreases-postfix : goal.decreases-postfix
decreases-postfix l = 16 * length (left_of l.self.now) + 3

abbrev pub decreases-primary : goal.decreases-primary
decreases-primary l = 16 * length (left_of l.self.now) + 2

abbrev pub decreases-name_or_call : goal.decreases-name_or_call
decreases-name_or_call l = 16 * length (left_of l.self.now) + 15

abbrev pub invariant-postfix-loop-self : goal.invariant-postfix-loop-self
invariant-postfix-loop-self l = Took 8 (tree_of l.vector) (left_of l.fn.self) (left_of l.self)

abbrev pub decreases-postfix-loop-self : goal.decreases-postfix-loop-self
decreases-postfix-loop-self l = length (left_of l.self)

abbrev pub invariant-binary-loop-op : goal.invariant-binary-loop-op
invariant-binary-loop-op l = record {
  took : Took l.level (tree_of l.left) (left_of l.fn.self) (left_of l.self);
  stops : Stops (l.level + 1) (left_of l.self);
}

abbrev pub decreases-binary-loop-op : goal.decreases-binary-loop-op
decreases-binary-loop-op l = length (left_of l.self)
