use Rattle.lemmas.proofs.{◌≡◌, take}
use Rattle.result_text.specs.{passes_at}
use Rattle.shard_spans.specs.{pass_shapes}
use Rattle.graph_shapes.specs.{pass_kind}
use Rattle.graph_shapes.proofs.shapes.loop_shapes.Given as goal

abbrev pub invariant-loop-i : goal.invariant-loop-i
invariant-loop-i l = l.shapes ≡ pass_shapes (pass_kind l.graph) (take l.i (passes_at l.graph l.fn.l))
