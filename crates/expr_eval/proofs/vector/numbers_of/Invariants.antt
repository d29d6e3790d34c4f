use Rattle.lemmas.proofs.{◌≡◌, ◌++◌, drop, map, length}
use Rattle.rdf_model.specs.{argument}
use Rattle.expr_eval.specs.{operand_value}
use Rattle.expr_eval.proofs.vector.numbers_of.Given as goal

abbrev pub invariant-loop-arg : goal.invariant-loop-arg
invariant-loop-arg l = record {
  all : map argument (map operand_value l.args) ≡ l.numbers.items ++ map argument (map operand_value (drop l.arg-index l.args));
  count : length l.numbers.items ≡ l.arg-index;
}
