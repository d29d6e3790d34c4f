use Rattle.lemmas.proofs.{◌≡◌, ◌≤◌, drop, length}
use Rattle.chain_files.specs.{are_loops}
use Rattle.chain_files.proofs.joining.are_loops.Given as goal

abbrev pub invariant-loop-i : goal.invariant-loop-i
invariant-loop-i l = record { rest : are_loops (drop l.i l.loops) (drop l.i l.found) ≡ are_loops l.loops l.found; within : l.i ≤ length l.loops }
