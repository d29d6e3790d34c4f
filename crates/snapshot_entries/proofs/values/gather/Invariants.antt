use Rattle.lemmas.proofs.{◌≡◌, List, map, take}
use Rattle.rdf_values.specs.{Value, value_of}
use Rattle.rdf_model.specs.{for_all, Gives}
use Rattle.snapshot_entries.specs.{data_of, plan_of, version_in}
use Rattle.snapshot_entries.proofs.values.gather.Given as goal

abbrev pub invariant-loop-column : goal.invariant-loop-column
invariant-loop-column g l = (vs : List Value) → for_all (version_in (plan_of l.at.job.now) (data_of l.at.job.now) l.at.entry) l.columns ≡ Gives vs → map value_of l.row.items ≡ take l.column-index vs
