use Rattle.lemmas.proofs.{◌≡◌, true, take}
use Rattle.expr_lanes.specs.{EachPlace, is_marked}
use Rattle.block_cache.proofs.block_marks.are_marked.Given as goal

abbrev pub invariant-loop-place : goal.invariant-loop-place
invariant-loop-place l = EachPlace (take l.place-index l.places) (λ p. is_marked l.marks p ≡ true)
