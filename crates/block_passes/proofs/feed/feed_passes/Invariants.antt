use Rattle.lemmas.proofs.{◌≡◌}
use Rattle.loop_keys.specs.{actions_before}
use Rattle.block_passes.specs.{turn_job}
use Rattle.block_passes.proofs.Feeding.{IsFedTo}
use Rattle.block_passes.proofs.feed.feed_passes.Given as goal

abbrev pub invariant-loop-pass : goal.invariant-loop-pass
invariant-loop-pass g l = record {
  same : l.turn ≡ record l.at { pass = l.turn.pass };
  place : l.place ≡ actions_before (turn_job l.at) l.pass;
  taken : IsFedTo (turn_job l.at) l.at.first l.at.count l.cluster l.fn.tally l.place l.tally;
}
