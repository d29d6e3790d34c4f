use Rattle.lemmas.proofs.{◌≡◌, ◌++◌, drop}
use Rattle.result_text.specs.{more_runs}
use Rattle.result_text.proofs.partials.put_runs.Given as goal

abbrev pub invariant-loop-run : goal.invariant-loop-run
invariant-loop-run l = l.text ++ more_runs (drop l.run-index l.rest) ≡ l.initial.text ++ more_runs l.rest
