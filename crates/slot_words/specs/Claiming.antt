-- The rule of the two words, and what each step does to a view.
use Rattle.std.specs.Prelude.{◌≡◌, ℕ, ◌+◌, ◌<◌, ◌≤◌, ◌^◌, min, List, [], ◌∷◌, IfSome, Some, map, replicate, length}
use Rattle.std.specs.List.{All, Contains, sum_by}
use Rattle.std.specs.List.Sorted.{IsStrictlyIncreasing}
use Rattle.atomic_table.specs.Table.{State, Me, Step}
use Rattle.rdf_values.specs.{DrawnBy}
use Rattle.slot_words.specs.declared.seat.ClaimHand.{ClaimHand}
use Rattle.slot_words.specs.Seats.{hands_in, empty_hand, hand_of, draw, look, lower, last_of, kept_count}

-- what the rule says of one hand, where the claim word is w
pub record IsHand (clusters w : ℕ) (h : ClaimHand) : Type 0 where
  pub same : h.clusters ≡ clusters
  pub past : IfSome h.kept (λ k. (clusters ≤ k) × (k < w))

-- what the rule says of the claim word, which is w: the hands share out the clusters below it, each once
pub record IsClaimed (clusters slots w : ℕ) (hands : List ClaimHand) : Type 0 where
  pub small : (clusters < 2 ^ 32) × (slots < 2 ^ 32)
  pub many : length hands ≡ slots
  pub shared : DrawnBy (map (λ h. h.drawn) hands) (min w clusters)
  pub room : w ≡ min w clusters + sum_by (λ h. kept_count h.kept) hands
  pub each : All (IsHand clusters w) hands

-- what the rule says of one hand, where the bar is b
pub record IsOver (b : ℕ) (h : ClaimHand) : Type 0 where
  pub looked : IfSome h.looked (λ n. b ≤ n)
  pub passed : IfSome h.passed (λ p. (b ≤ p) × (0 < length h.drawn) × (p ≡ last_of h.drawn))
  pub lowered : IfSome h.lowered (λ n. b ≤ n)

-- the bar is the least of the number of clusters and what the hands lowered it to
pub record IsBarred (clusters b : ℕ) (hands : List ClaimHand) : Type 0 where
  pub most : b ≤ clusters
  pub least : b < clusters → Contains (map (λ h. h.lowered) hands) (Some b)
  pub each : All (IsOver b) hands

-- there are two words: the claim word, with which the hands share out the clusters, and the bar
abbrev pub AreClaimed : ℕ × ℕ → List ℕ → List ClaimHand → Type 0
AreClaimed key words hands = (w : ℕ) × (b : ℕ) × (words ≡ w ∷ b ∷ []) × IsClaimed key.0 key.1 w hands × IsBarred key.0 b hands

-- so it is at a table
abbrev pub Claimed : ℕ × ℕ → State ℕ (List ClaimHand) → Type 0
Claimed key s = AreClaimed key s.words (hands_in s.views)

-- as many hands as seats, which did nothing
abbrev pub opening_hands : ℕ × ℕ → List ClaimHand
opening_hands key = replicate key.1 (empty_hand key.0)

-- what a draw tells
abbrev pub Drew : Step ℕ → Me ℕ (List ClaimHand) → ℕ → Me ℕ (List ClaimHand) → Type 0
Drew s v n w = (w ≡ (draw (hand_of v.0) n ∷ [], [])) × IsStrictlyIncreasing (draw (hand_of v.0) n).drawn

-- what a look at the bar tells
abbrev pub Looked : Step ℕ → Me ℕ (List ClaimHand) → ℕ → Me ℕ (List ClaimHand) → Type 0
Looked s v n w = w ≡ (look (hand_of v.0) n ∷ [], [])

-- what a lowering tells
abbrev pub Lowered : Step ℕ → Me ℕ (List ClaimHand) → ℕ → Me ℕ (List ClaimHand) → Type 0
Lowered s v n w = w ≡ (lower (hand_of v.0) s.first ∷ [], [])
