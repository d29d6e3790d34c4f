use Rattle.lemmas.proofs.{◌≡◌, take, fold}
use Rattle.std.specs.Int.{int_max}
use Rattle.actions.specs.{better_of}
use Rattle.actions.proofs.folding.GreatestFolds.take_in.Given as goal

abbrev pub invariant-loop-number : goal.invariant-loop-number
invariant-loop-number l = l.best ≡ fold (better_of int_max) l.initial.best (take l.number-index l.numbers)
