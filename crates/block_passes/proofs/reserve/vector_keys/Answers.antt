use Rattle.lemmas.proofs.{◌∙◌, ap, count_by}
use Rattle.expr_check.specs.{is_vector}
use Rattle.block_passes.proofs.reserve.vector_keys.Goals as goal

pub returns-clause-count : goal.returns-clause-count
returns-clause-count c = record {
  kinds = c.in_ok-kinds.kinds;
  many = c.in_ok-kinds.ensures.many;
  have = c.in_ok-kinds.ensures.kinds;
  count = c.vector_count.ensures.count ∙ ap (count_by is_vector) c.as_slice.ensures;
}
