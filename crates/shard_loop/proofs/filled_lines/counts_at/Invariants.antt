use Rattle.lemmas.proofs.{◌≡◌, get_or, map, take}
use Rattle.loop_pieces.specs.{nothing}
use Rattle.shard_loop.proofs.filled_lines.counts_at.Given as goal

abbrev pub invariant-loop-f : goal.invariant-loop-f
invariant-loop-f l = l.counts ≡ map (λ f. get_or l.flow f nothing) (take l.f-index l.covered)
