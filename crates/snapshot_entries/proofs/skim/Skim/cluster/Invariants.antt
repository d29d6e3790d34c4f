use Rattle.lemmas.proofs.{◌≡◌, ◌++◌, None}
use Rattle.snapshot_text.specs.{entries_text}
use Rattle.snapshot_rows.specs.{snapshot_entries, snapshot_fault}
use Rattle.snapshot_entries.specs.{data_of, IsSkimOf, plan_of}
use Rattle.snapshot_entries.proofs.Ranging.{So_far}
use Rattle.snapshot_entries.proofs.skim.Skim.cluster.Given as goal

abbrev pub invariant-loop-entry : goal.invariant-loop-entry
invariant-loop-entry g l = record {
  of : IsSkimOf (plan_of l.job) (data_of l.job) l.self;
  none : snapshot_fault (plan_of l.job) (data_of l.job) l.fn.span.lo (So_far (plan_of l.job) (data_of l.job) l.fn.span.lo l.entry) ≡ None;
  text : l.text ≡ l.initial.text ++ entries_text (snapshot_entries (plan_of l.job) (data_of l.job) (So_far (plan_of l.job) (data_of l.job) l.fn.span.lo l.entry));
}
