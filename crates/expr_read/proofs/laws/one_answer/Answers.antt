use Rattle.rdf_values.specs.{begin_expr, begin_values, Reads, ReadsValues}
use Rattle.expr_read.proofs.WholeReads.{whole, whole_values, reads_expr, reads_values}
use Rattle.expr_read.proofs.Decided.{answered, one_refusal, read_once}
use Rattle.expr_read.proofs.laws.one_answer.Goals as goal

pub returns : goal.returns
returns c = record {
  answered = answered (Reads 0) begin_expr whole reads_expr;
  not_both = read_once.tree_or_refusal;
  one_refusal = one_refusal (Reads 0) begin_expr whole;
  values_answered = answered ReadsValues begin_values whole_values reads_values;
  values_not_both = read_once.values_or_refusal;
  values_one_refusal = one_refusal ReadsValues begin_values whole_values;
}
