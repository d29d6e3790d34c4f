use Rattle.lemmas.proofs.{◌≡◌, false, take}
use Rattle.std.specs.List.{list_any}
use Rattle.graph_numbers.specs.{graph_results}
use Rattle.loop_keys.specs.{is_covering, job_graph, job_of}
use Rattle.block_passes.proofs.plan.is_covered.Given as goal

abbrev pub invariant-loop-pass : goal.invariant-loop-pass
invariant-loop-pass g l = list_any (is_covering (graph_results (job_graph (job_of l.job))) l.filter) (take l.pass-index l.passes) ≡ false
