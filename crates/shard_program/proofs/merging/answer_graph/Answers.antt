use Rattle.lemmas.proofs.{◌∙◌}
use Rattle.shard_program.proofs.Answering.{loops_fit}
use Rattle.shard_program.proofs.merging.answer_graph.Goals as goal

pub answer_loops-requires : goal.answer_loops-requires
answer_loops-requires c = loops_fit c.joined_loops_fit.ensures c.args.graph.now c.args.shards c.as_slice.result.now c.in-Ok.loops c.as_slice-in-Ok.result.now (c.as_slice.ensures ∙ c.in_ok-shapes.ensures) c.in-Ok.ensures c.as_slice-in-Ok.ensures
