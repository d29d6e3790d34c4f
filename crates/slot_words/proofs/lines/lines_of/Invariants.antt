use Rattle.lemmas.proofs.{◌≡◌, ◌+◌, ◌*◌, length, map}
use Rattle.rdf_values.specs.{below}
use Rattle.loop_pieces.specs.{ArePartialLines}
use Rattle.slot_words.specs.{set_before, trails_at, WatchedPlace}
use Rattle.slot_words.proofs.lines.lines_of.Given as goal

abbrev pub invariant-loop : goal.invariant-loop
invariant-loop l = record {
  many : length l.lines ≡ l.counter;
  are : (w : WatchedPlace l.orders.slots l.clusters (trails_at l.watched l.pieces)) → ArePartialLines w.facts w.place (map (λ j. set_before l.orders.slots w.dones l.clusters ((j + 1) * l.step)) (below (length l.lines))) l.lines;
}
