use Rattle.lemmas.proofs.{◌-◌, []}
use Rattle.slot_words.specs.{fresh_share, hand_with}
use Rattle.slot_words.proofs.Hands.{IsDealing}
use Rattle.slot_words.proofs.book.Book.new.Given as goal

abbrev pub invariant-loop-slot : goal.invariant-loop-slot
invariant-loop-slot l =
    IsDealing (fresh_share record { table = l.table.shared.table_id; clusters = l.clusters; slots = l.slots }) (hand_with []) l.table.shared.table_id (l.slots - l.slot) l.slot l.shares l.first.table_id l.first.me
