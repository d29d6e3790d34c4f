use Rattle.lemmas.proofs.{◌≡◌}
use Rattle.chain_files.specs.{CanJoinAll, joined_parts}
use Rattle.chain_files.proofs.joining.join_all.Given as goal

abbrev pub invariant-loop-part : goal.invariant-loop-part
invariant-loop-part l = (joined_parts l.loops l.all l.part-iterator.rest.items ≡ joined_parts l.loops l.fn.first l.fn.others) × CanJoinAll l.loops l.all l.part-iterator.rest.items
