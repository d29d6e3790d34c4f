use Rattle.lemmas.proofs.{◌≡◌, ◌++◌, replicate}
use Rattle.block_passes.proofs.reserve.push_kind.Given as goal

abbrev pub invariant-loop : goal.invariant-loop
invariant-loop l = l.kinds ≡ l.initial.kinds ++ replicate l.counter l.kind
