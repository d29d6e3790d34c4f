use Rattle.lemmas.proofs.{◌≡◌, pos, get_or, drop}
use Rattle.columns.specs.{greatest_from, least_from}
use Rattle.columns.proofs.packing.Packing.of.Given as goal

abbrev pub invariant-loop-value : goal.invariant-loop-value
invariant-loop-value l =
    (least_from (get_or l.values 0 (pos 0)) l.values ≡ least_from l.least (drop l.value-index l.values)) × (greatest_from (get_or l.values 0 (pos 0)) l.values ≡ greatest_from l.greatest (drop l.value-index l.values))
