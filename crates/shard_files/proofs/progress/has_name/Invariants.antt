use Rattle.lemmas.proofs.{◌≡◌, drop}
use Rattle.rdf_values.specs.{has_name}
use Rattle.shard_files.proofs.progress.has_name.Given as goal

abbrev pub invariant-loop-column : goal.invariant-loop-column
invariant-loop-column l = has_name l.columns l.name ≡ has_name (drop l.column-index l.columns) l.name
