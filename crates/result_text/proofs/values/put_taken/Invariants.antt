use Rattle.lemmas.proofs.{◌≡◌, ◌≤◌, ◌++◌, drop}
use Rattle.result_text.specs.{more_taken}
use Rattle.result_text.proofs.values.put_taken.Given as goal

abbrev pub invariant-loop-i : goal.invariant-loop-i
invariant-loop-i l = record {
  begun : 1 ≤ l.i;
  text : l.text ++ more_taken (drop l.i l.taken) ≡ l.initial.text ++ more_taken (drop 1 l.taken);
}
