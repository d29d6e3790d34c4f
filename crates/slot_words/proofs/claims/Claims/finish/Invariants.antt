use Rattle.lemmas.proofs.{length}
use Rattle.slot_words.specs.Seats.{hand_seen}
use Rattle.slot_words.proofs.Hands.{IsGathering}
use Rattle.slot_words.proofs.claims.Claims.finish.Given as goal

abbrev pub invariant-loop-next : goal.invariant-loop-next
invariant-loop-next l = IsGathering hand_seen (λ s. s.table) l.table.shared.table_id l.fn.seats l.left.items l.all.table_id l.all.me

abbrev pub decreases-loop-next : goal.decreases-loop-next
decreases-loop-next l = length l.left.items
