use Rattle.lemmas.proofs.{◌≡◌, drop, take}
use Rattle.friend_join.specs.{first_repeat, repeat_from}
use Rattle.friend_join.proofs.matches.numbered_keys.Given as goal

abbrev pub invariant-loop-entry : goal.invariant-loop-entry
invariant-loop-entry l = record {
  so_far : l.numbered.keys ≡ take l.entry l.keys;
  rest : repeat_from l.entry (take l.entry l.keys) (drop l.entry l.keys) ≡ first_repeat l.keys;
}
