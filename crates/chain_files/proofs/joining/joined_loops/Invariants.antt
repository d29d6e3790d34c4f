use Rattle.lemmas.proofs.{◌≡◌, ◌++◌, drop}
use Rattle.chain_files.specs.{joined_loops}
use Rattle.chain_files.proofs.joining.joined_loops.Given as goal

abbrev pub invariant-loop-one : goal.invariant-loop-one
invariant-loop-one l = l.all ++ joined_loops (drop l.number l.loops) l.one-iterator.rest.items (drop l.number l.later) ≡ joined_loops l.loops l.fn.earlier l.later
