use Rattle.lemmas.proofs.{◌≡◌, ◌<◌, ◌^◌, All, false, get_or, pos, take, nat_abs}
use Rattle.actions.specs.{places_of}
use Rattle.actions.proofs.batch.any_heavy.Given as goal

abbrev pub invariant-loop-i : goal.invariant-loop-i
invariant-loop-i l = l.heavy ≡ false → All (λ p. nat_abs (get_or l.weights p (pos 0)) < 2 ^ 31) (take l.i (places_of l.places))
