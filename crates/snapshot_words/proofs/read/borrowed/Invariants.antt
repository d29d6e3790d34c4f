use Rattle.lemmas.proofs.{◌≡◌, map, take}
use Rattle.snapshot_words.proofs.read.borrowed.Given as goal

abbrev pub invariant-loop-i : goal.invariant-loop-i
invariant-loop-i l = map (λ w. w.now) l.list.items ≡ take l.i l.words
