use Rattle.lemmas.proofs.{◌-◌}
use Rattle.slot_words.specs.{empty_hand, fresh_seat}
use Rattle.slot_words.proofs.Hands.{IsDealing}
use Rattle.slot_words.proofs.claims.Claims.new.Given as goal

abbrev pub invariant-loop-slot : goal.invariant-loop-slot
invariant-loop-slot l =
    IsDealing (fresh_seat record { table = l.table.shared.table_id; clusters = l.clusters; slots = l.slots }) (empty_hand l.clusters) l.table.shared.table_id (l.slots - l.slot) l.slot l.seats l.first.table_id l.first.me
