use Rattle.lemmas.proofs.{◌≡◌, take, fold}
use Rattle.std.specs.Int.{int_min}
use Rattle.actions.specs.{better_of}
use Rattle.actions.proofs.folding.LeastFolds.take_in.Given as goal

abbrev pub invariant-loop-number : goal.invariant-loop-number
invariant-loop-number l = l.best ≡ fold (better_of int_min) l.initial.best (take l.number-index l.numbers)
