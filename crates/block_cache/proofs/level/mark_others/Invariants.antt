use Rattle.lemmas.proofs.{◌≡◌, not, nat_eq, take}
use Rattle.expr_lanes.specs.{EachPlace, is_marked}
use Rattle.block_cache.specs.{need_at}
use Rattle.block_cache.proofs.level.mark_others.Given as goal

abbrev pub invariant-loop-i : goal.invariant-loop-i
invariant-loop-i l = EachPlace (take l.i l.places) (λ p. is_marked l.others p ≡ not (nat_eq (need_at l.needs p) l.version))
