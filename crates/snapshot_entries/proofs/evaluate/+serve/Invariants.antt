use Rattle.lemmas.proofs.{ℕ, ◌<◌, get_or}
use Rattle.snapshot_entries.specs.{AreKnown, data_of, Grows, IsSourceHeld, plan_of, source_of}
use Rattle.snapshot_entries.proofs.evaluate.+serve.Given as goal

abbrev pub decreases-serve : goal.decreases-serve
decreases-serve g l = l.site

abbrev pub invariant-loop-version : goal.invariant-loop-version
invariant-loop-version g l = record {
  known : AreKnown (plan_of l.at.job.now) (data_of l.at.job.now) l.cells;
  grows : Grows l.at.entry l.initial.cells l.cells;
  read : (k : ℕ) → k < l.version-index → IsSourceHeld l.cells l.at.entry (source_of (plan_of l.at.job.now) (data_of l.at.job.now) (get_or l.version-items k 0));
}
