use Rattle.lemmas.proofs.{◌≡◌, vec_len}
use Rattle.snapshot_entries.proofs.known.none_known.Given as goal
use Rattle.snapshot_entries.proofs.None.{AllOfNone}

abbrev pub invariant-loop : goal.invariant-loop
invariant-loop l = record { many : vec_len l.cells ≡ l.counter; each : AllOfNone l.cells.items }
