use Rattle.lemmas.proofs.{◌-◌}
use Rattle.loop_keys.specs.{job_of}
use Rattle.block_passes.specs.{IsStateOf}
use Rattle.block_passes.proofs.ClusterBlocks.{IsAtBlock}
use Rattle.block_passes.proofs.state.BlockState.try_cluster.Given as goal

abbrev pub invariant-loop-lo : goal.invariant-loop-lo
invariant-loop-lo g l = record {
  at : IsAtBlock (job_of l.job) l.cluster l.fn.self.size l.keys l.span l.fn.tally l.fn.steps l.lo l.tally l.steps;
  state : IsStateOf (job_of l.job) l.self;
}

abbrev pub decreases-loop-lo : goal.decreases-loop-lo
decreases-loop-lo g l = l.span.hi - l.lo
