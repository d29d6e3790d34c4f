use Rattle.lemmas.proofs.{◌≡◌, false, take}
use Rattle.std.specs.List.{list_any}
use Rattle.rdf_values.specs.{same_variation}
use Rattle.snapshot_plan.proofs.under.place_of.Given as goal

abbrev pub invariant-loop-v : goal.invariant-loop-v
invariant-loop-v l = list_any (same_variation (record { name = l.name; tag = l.tag })) (take l.v l.all) ≡ false
