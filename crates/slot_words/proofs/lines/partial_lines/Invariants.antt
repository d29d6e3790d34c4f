use Rattle.lemmas.proofs.{◌≡◌, ℕ, List, length}
use Rattle.rdf_model.specs.declared.loop_facts.LoopFacts.{LoopFacts}
use Rattle.slot_words.specs.{AreNoted, chain_of, HaveAllTrails}
use Rattle.slot_words.proofs.Steps.{AreLinesUpTo}
use Rattle.slot_words.proofs.lines.partial_lines.Given as goal

abbrev pub invariant-loop-w : goal.invariant-loop-w
invariant-loop-w l = (facts : LoopFacts) (places : List ℕ) (dones : List (List ℕ)) → AreNoted l.orders.slots dones l.clusters → HaveAllTrails facts places dones l.pieces → length places ≡ l.watched
    → AreLinesUpTo facts places (chain_of l.orders.slots dones l.clusters l.step) l.w l.all
