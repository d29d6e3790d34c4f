use Rattle.lemmas.proofs.{◌≡◌, map, take}
use Rattle.graph_numbers.specs.{booked_statements, version_at}
use Rattle.snapshot_entries.specs.{data_of, plan_of}
use Rattle.snapshot_entries.proofs.wanted.versions.Given as goal

abbrev pub invariant-loop-name : goal.invariant-loop-name
invariant-loop-name g l = l.versions ≡ map (version_at (data_of l.job).columns (booked_statements (plan_of l.job).graph) (plan_of l.job).node) (take l.name-index (plan_of l.job).columns)
