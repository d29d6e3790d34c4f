use Rattle.lemmas.proofs.{◌≡◌, ◌-◌, None, length}
use Rattle.slot_words.specs.Seats as claims
use Rattle.snapshot_entries.specs.{data_of, IsSkimOf, plan_of}
use Rattle.snapshot_pieces.specs.{AreMade, clusters_of}
use Rattle.snapshot_run.specs.{facts_of, spans_of}
use Rattle.snapshot_run.proofs.workers.work.Given as goal

abbrev pub invariant-loop-cluster : goal.invariant-loop-cluster
invariant-loop-cluster g l = record {
  seat_of : claims.IsOf l.claims l.seat;
  unkept : l.seat.kept ≡ None;
  unpassed : l.seat.passed ≡ None;
  unlowered : l.seat.lowered ≡ None;
  skim : IsSkimOf (plan_of l.job) (data_of l.job) l.skim;
  made : AreMade (facts_of (plan_of l.job) (data_of l.job) (spans_of l.job.columns.now.cuts)) l.pieces;
  done : clusters_of l.pieces ≡ l.seat.drawn;
}

abbrev pub decreases-loop-cluster : goal.decreases-loop-cluster
decreases-loop-cluster g l = l.claims.clusters - length l.seat.drawn
