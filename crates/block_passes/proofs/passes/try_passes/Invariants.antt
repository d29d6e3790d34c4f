use Rattle.lemmas.proofs.{◌≡◌}
use Rattle.block_passes.specs.{IsPlan, IsSearchedTo, Leaves, turn_job}
use Rattle.block_passes.proofs.passes.try_passes.Given as goal

abbrev pub invariant-loop-pass : goal.invariant-loop-pass
invariant-loop-pass g l = record {
  same : l.turn ≡ record l.at { pass = l.turn.pass };
  leaves : Leaves l.at l.fn.work l.work l.fn.steps l.steps;
  searched : (p : IsPlan (turn_job l.at) l.at.plan.now) → IsSearchedTo (turn_job l.at) l.at.first l.at.count l.at.plan.now p.chains l.pass l.work.lanes.items l.kept l.work.found;
}
