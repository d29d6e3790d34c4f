use Rattle.lemmas.proofs.{◌≡◌, ◌-◌, ℕ}
use Rattle.graph.specs.{has, is_among_own}
use Rattle.graph.proofs.sets.own_set.Given as goal

abbrev pub invariant-loop-v : goal.invariant-loop-v
invariant-loop-v l = (u : ℕ) → has l.set u ≡ is_among_own l.first (l.v - l.first) u
