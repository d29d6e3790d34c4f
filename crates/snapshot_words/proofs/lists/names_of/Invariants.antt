use Rattle.snapshot_words.proofs.Parts.{AreRead, parts_of, size_of}
use Rattle.snapshot_words.proofs.lists.names_of.Given as goal

abbrev pub invariant-loop-rest : goal.invariant-loop-rest
invariant-loop-rest l = AreRead l.text l.names (parts_of l.rest)

abbrev pub decreases-loop-rest : goal.decreases-loop-rest
decreases-loop-rest l = size_of l.rest
