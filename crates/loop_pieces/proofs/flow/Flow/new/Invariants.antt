use Rattle.lemmas.proofs.{◌≡◌, replicate}
use Rattle.loop_pieces.specs.{nothing}
use Rattle.loop_pieces.proofs.flow.Flow.new.Given as goal

abbrev pub invariant-loop : goal.invariant-loop
invariant-loop l = l.counts.items ≡ replicate l.counter nothing
