use Rattle.lemmas.proofs.{take}
use Rattle.block_cache.specs.{IsLeastFault}
use Rattle.block_cache.proofs.faults.least_fault.Given as goal

abbrev pub invariant-loop-i : goal.invariant-loop-i
invariant-loop-i l = IsLeastFault (take l.i l.stops) l.least
