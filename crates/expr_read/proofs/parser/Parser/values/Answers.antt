use Rattle.lemmas.proofs.{arith}
use Rattle.std.proofs.lemmas.Grind.{common_steps}
use Rattle.expr_read.proofs.WholeReads.{vector_first, item_first, took_vector, took_lists, took_list}
use Rattle.expr_read.proofs.parser.Parser.values.Goals as goal

pub returns-in_err-node-clause-stuck : goal.returns-in_err-node-clause-stuck
returns-in_err-node-clause-stuck c = grind (arith, common_steps, vector_first)

pub returns-then-not-eat-clause-took : goal.returns-then-not-eat-clause-took
returns-then-not-eat-clause-took = grind (arith, took_vector)

pub returns-then-eat-clause-took : goal.returns-then-eat-clause-took
returns-then-eat-clause-took c = took_lists c.if-not-eat.ensures c.if-eat.ensures c.in_ok-lists.ensures.took

pub returns-in_err-list-clause-stuck : goal.returns-in_err-list-clause-stuck
returns-in_err-list-clause-stuck c = grind (arith, common_steps, item_first)

pub returns-clause-took : goal.returns-clause-took
returns-clause-took = grind (arith, took_list)
