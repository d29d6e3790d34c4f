-- What contracts see of the book and of a share.
use Rattle.std.specs.Prelude.{◌≡◌, ℕ, List, [], ◌∷◌, ◌++◌, map, length}
use Rattle.std.specs.List.{range_with_len, sum_by}
use Rattle.atomic_table.specs.Seated.{TableId}
use Rattle.slot_words.specs.declared.seat.NoteHand.{NoteHand}

-- which table it is, and how many clusters and shares it has
pub record BookSeen : Type 0 where
  pub table : TableId
  pub clusters : ℕ
  pub slots : ℕ

-- a share's table and number, over so many clusters, and the numbers that it drew
pub record ShareSeen : Type 0 where
  pub table : TableId
  pub slot : ℕ
  pub clusters : ℕ
  pub numbers : List ℕ

-- a hand that drew these numbers
abbrev pub hand_with : List ℕ → NoteHand
hand_with numbers = record { drawn = numbers }

-- what the share did
abbrev pub hand_seen : ShareSeen → NoteHand
hand_seen s = hand_with s.numbers

-- a share with that number, which drew nothing
abbrev pub fresh_share : BookSeen → ℕ → ShareSeen
fresh_share b slot = record { table = b.table; slot = slot; clusters = b.clusters; numbers = [] }

-- shares with the numbers from 0 on, which drew nothing
abbrev pub fresh_shares : BookSeen → ℕ → List ShareSeen
fresh_shares b n = map (fresh_share b) (range_with_len 0 n)

-- the share is one of this book
abbrev pub IsOf : BookSeen → ShareSeen → Type 0
IsOf b s = (s.table ≡ b.table) × (s.clusters ≡ b.clusters)

-- the share after it drew n
abbrev pub with_number : ShareSeen → ℕ → ShareSeen
with_number s n = record { table = s.table; slot = s.slot; clusters = s.clusters; numbers = s.numbers ++ n ∷ [] }

-- how many numbers stand in the lists
abbrev pub many_in : List (List ℕ) → ℕ
many_in lists = sum_by length lists
