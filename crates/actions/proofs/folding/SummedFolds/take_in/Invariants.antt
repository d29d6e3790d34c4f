use Rattle.lemmas.proofs.{◌≡◌, ◌≤◌, ◌+◌, ◌*◌, ◌^◌, ◌+ℤ◌, take, fold, nat_abs}
use Rattle.actions.proofs.folding.SummedFolds.take_in.Given as goal

abbrev pub invariant-loop-number : goal.invariant-loop-number
invariant-loop-number l = record {
  summed : l.sum ≡ fold ◌+ℤ◌ l.initial.sum (take l.number-index l.numbers);
  bounded : nat_abs l.sum ≤ nat_abs l.initial.sum + l.number-index * 2 ^ 63;
}
