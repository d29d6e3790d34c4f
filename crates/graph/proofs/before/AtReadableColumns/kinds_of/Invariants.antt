use Rattle.lemmas.proofs.{◌≡◌, Ok, map, slice_get, take}
use Rattle.std.specs.Option.{ok_or}
use Rattle.rdf_values.specs.{ColType}
use Rattle.rdf_values.specs.declared.scripts.script_cause.GraphCause.TheVariants.{UnknownColumn}
use Rattle.graph.proofs.before.AtReadableColumns.kinds_of.Given as goal

abbrev pub invariant-loop-number : goal.invariant-loop-number
invariant-loop-number l = map (λ (k : ColType). Ok k) l.found.items ≡ map (λ n. ok_or (slice_get l.kinds n) UnknownColumn) (take l.number-index l.numbers)
