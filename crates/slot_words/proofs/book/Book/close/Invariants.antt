use Rattle.lemmas.proofs.{◌≡◌, ◌++◌, map, length, reverse}
use Rattle.slot_words.specs.Shares.{hand_seen}
use Rattle.slot_words.proofs.Hands.{IsGathering}
use Rattle.slot_words.proofs.book.Book.close.Given as goal

abbrev pub invariant-loop-next : goal.invariant-loop-next
invariant-loop-next l = record {
  gathering : IsGathering hand_seen (λ s. s.table) l.table.shared.table_id l.fn.shares l.left.items l.all.table_id l.all.me;
  numbers : map (λ s. s.numbers) l.left.items ++ reverse l.lists.items ≡ map (λ s. s.numbers) l.fn.shares;
}

abbrev pub decreases-loop-next : goal.decreases-loop-next
decreases-loop-next l = length l.left.items
