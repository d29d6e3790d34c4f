use Rattle.slot_words.specs.{trails_at}
use Rattle.slot_words.proofs.Steps.{AreSoFar}
use Rattle.slot_words.proofs.between.partial_between.Given as goal

abbrev pub invariant-loop-i : goal.invariant-loop-i
invariant-loop-i l = AreSoFar l.orders.slots (trails_at l.watched l.pieces) l.low l.below l.i l.clusters.items l.parts.items
