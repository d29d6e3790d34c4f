-- The rule of the book's word, and what each step does to a view.
use Rattle.std.specs.Prelude.{◌≡◌, ℕ, ◌<◌, ◌≤◌, ◌^◌, List, [], ◌∷◌, ◌++◌, map, replicate, length}
use Rattle.std.specs.List.{All}
use Rattle.std.specs.List.Sorted.{IsStrictlyIncreasing}
use Rattle.atomic_table.specs.Table.{State, Me, Step}
use Rattle.rdf_values.specs.{DrawnBy}
use Rattle.slot_words.specs.declared.seat.NoteHand.{NoteHand}
use Rattle.slot_words.specs.Seats.{hands_in}
use Rattle.slot_words.specs.Shares.{hand_with}

-- the hands share out the numbers below w, each once, and none has more than there are clusters
pub record IsNoted (clusters slots w : ℕ) (hands : List NoteHand) : Type 0 where
  pub small : (clusters < 2 ^ 32) × (slots ≤ 16)
  pub many : length hands ≡ slots
  pub shared : DrawnBy (map (λ h. h.drawn) hands) w
  pub fits : All (λ h. length h.drawn ≤ clusters) hands

-- there is one word, and the hands share out the numbers below it
abbrev pub AreNotings : ℕ × ℕ → List ℕ → List NoteHand → Type 0
AreNotings key words hands = (w : ℕ) × (words ≡ w ∷ []) × IsNoted key.0 key.1 w hands

-- so it is at a table
abbrev pub Noted : ℕ × ℕ → State ℕ (List NoteHand) → Type 0
Noted key s = AreNotings key s.words (hands_in s.views)

-- as many hands as shares, which did nothing
abbrev pub opening_hands : ℕ × ℕ → List NoteHand
opening_hands key = replicate key.1 (hand_with [])

-- the view after its first hand drew n
abbrev pub draw : List NoteHand → ℕ → List NoteHand
draw [] n = []
draw (h ∷ hs) n = hand_with (h.drawn ++ n ∷ []) ∷ hs

-- what the first hand drew
abbrev pub numbers_of : List NoteHand → List ℕ
numbers_of [] = []
numbers_of (h ∷ hs) = h.drawn

-- what a draw tells
abbrev pub Drew : Step ℕ → Me ℕ (List NoteHand) → ℕ → Me ℕ (List NoteHand) → Type 0
Drew s v n w = (w ≡ (draw v.0 n, v.1)) × IsStrictlyIncreasing (numbers_of w.0)
