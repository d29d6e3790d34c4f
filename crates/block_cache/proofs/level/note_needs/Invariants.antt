use Rattle.lemmas.proofs.{◌≡◌, take}
use Rattle.block_cache.specs.{noted_in}
use Rattle.block_cache.proofs.level.note_needs.Given as goal

abbrev pub invariant-loop-i : goal.invariant-loop-i
invariant-loop-i l = l.needs ≡ noted_in l.initial.needs (take l.i l.stops)
