-- What contracts see of the claims and of a seat; how a slot's seat begins, and how it ends where no fault was met.
use Rattle.std.specs.Prelude.{◌≡◌, ℕ, List, [], ◌∷◌, ◌++◌, Option, None, Some, map, min, ◌+◌, ◌-◌, length, slice_index, ◌<◌, ◌≤◌, nat_lt, if◌then◌else◌, IfSome, IsSomeAnd, flat_map}
use Rattle.std.specs.List.{All, Contains, range_with_len, sum_by}
use Rattle.atomic_table.specs.Seated.{TableId}
use Rattle.slot_words.specs.declared.seat.ClaimHand.{ClaimHand}

-- which table it is, and how many clusters and seats it has
pub record ClaimsSeen : Type 0 where
  pub table : TableId
  pub clusters : ℕ
  pub slots : ℕ

-- a seat's table and number, over so many clusters: the clusters that it drew, and, where it did so, the number past them that it drew last,
-- the bar that it looked at since its last draw, the cluster that it passed over, and the one that it lowered the bar to
pub record SeatSeen : Type 0 where
  pub table : TableId
  pub slot : ℕ
  pub clusters : ℕ
  pub drawn : List ℕ
  pub kept : Option ℕ
  pub looked : Option ℕ
  pub passed : Option ℕ
  pub lowered : Option ℕ

-- the last number, or 0
abbrev pub last_of : List ℕ → ℕ
last_of xs = slice_index xs (length xs - 1)

-- 1 where a number past the clusters is kept, and else 0
abbrev pub kept_count : Option ℕ → ℕ
kept_count None = 0
kept_count (Some k) = 1

-- a seat by its hand
abbrev pub seat_seen : TableId → ℕ → ClaimHand → SeatSeen
seat_seen t slot h = record { table = t; slot = slot; clusters = h.clusters; drawn = h.drawn; kept = h.kept; looked = h.looked; passed = h.passed; lowered = h.lowered }

-- what the seat did
abbrev pub hand_seen : SeatSeen → ClaimHand
hand_seen s = record { clusters = s.clusters; drawn = s.drawn; kept = s.kept; looked = s.looked; passed = s.passed; lowered = s.lowered }

-- it did nothing
abbrev pub empty_hand : ℕ → ClaimHand
empty_hand clusters = record { clusters = clusters; drawn = []; kept = None; looked = None; passed = None; lowered = None }

-- the hand after a draw of n: what the bar was before it no longer counts
abbrev pub draw : ClaimHand → ℕ → ClaimHand
draw h n = if nat_lt n h.clusters then record h { drawn = h.drawn ++ n ∷ []; looked = None } else record h { kept = Some n; looked = None }

-- after a look at the bar, which was at b: a last cluster that isn't below it is passed over
abbrev pub look : ClaimHand → ℕ → ClaimHand
look h b = record h { looked = Some b; passed = if nat_lt (last_of h.drawn) b then h.passed else Some (last_of h.drawn) }

-- after it lowered the bar to c
abbrev pub lower : ClaimHand → ℕ → ClaimHand
lower h c = record h { lowered = Some c }

-- a seat with that number, which did nothing
abbrev pub fresh_seat : ClaimsSeen → ℕ → SeatSeen
fresh_seat c slot = seat_seen c.table slot (empty_hand c.clusters)

-- the seat is one of these claims
abbrev pub IsOf : ClaimsSeen → SeatSeen → Type 0
IsOf c s = (s.table ≡ c.table) × (s.clusters ≡ c.clusters)

-- the first hand of a view
abbrev pub hand_of : List ClaimHand → ClaimHand
hand_of [] = empty_hand 0
hand_of (h ∷ hs) = h

-- seats with the numbers from 0 on, which did nothing
abbrev pub fresh_seats : ClaimsSeen → ℕ → List SeatSeen
fresh_seats c n = map (fresh_seat c) (range_with_len 0 n)

-- the seat, with a cluster that it lowered the bar to
abbrev pub with_lowered : SeatSeen → ℕ → SeatSeen
with_lowered s c = seat_seen s.table s.slot (lower (hand_seen s) c)

-- the number drawn was no cluster, and the seat keeps it
abbrev pub IsPast : ClaimsSeen → SeatSeen → SeatSeen → Type 0
IsPast c old new = IsSomeAnd new.kept (λ k. c.clusters ≤ k) × (new.drawn ≡ old.drawn) × (new.passed ≡ None) × (new.looked ≡ None)

-- the cluster drawn wasn't below the bar, and the seat keeps it as passed over
abbrev pub IsPassedOver : ClaimsSeen → SeatSeen → SeatSeen → Type 0
IsPassedOver c old new = (d : ℕ) × (d < c.clusters) × (new.drawn ≡ old.drawn ++ d ∷ []) × (new.passed ≡ Some d) × (new.kept ≡ None) × IsSomeAnd new.looked (λ b. b ≤ d)

-- b is the least of the number of clusters and what the seats lowered the bar to
pub record IsLeast (clusters : ℕ) (seats : List SeatSeen) (b : ℕ) : Type 0 where
  pub most : b ≤ clusters
  pub below : All (λ s. IfSome s.lowered (λ n. b ≤ n)) seats
  pub reached : b < clusters → Contains (map (λ s. s.lowered) seats) (Some b)

-- a number that the seat passed over is at least b, and the last that it drew
abbrev pub IsPassed : ℕ → SeatSeen → Type 0
IsPassed b s = IfSome s.passed (λ p. (b ≤ p) × (0 < length s.drawn) × (p ≡ last_of s.drawn))

-- the claim word ended at w: it counts the clusters that were drawn, and one number past them for each seat that kept one
abbrev pub IsCounted : ℕ → List SeatSeen → ℕ → Type 0
IsCounted clusters seats w = w ≡ min w clusters + sum_by (λ s. kept_count s.kept) seats

-- ---- its begin and end

-- a seat of these claims that did nothing
pub record IsReady (c : ClaimsSeen) (s : SeatSeen) : Type 0 where
  pub of : IsOf c s
  pub undrawn : s.drawn ≡ []
  pub unkept : s.kept ≡ None
  pub unpassed : s.passed ≡ None
  pub unlowered : s.lowered ≡ None

-- no number is left that is a cluster, and the slot finished all that it drew
pub record RanOut (c : ClaimsSeen) (seat : SeatSeen) (done : List ℕ) : Type 0 where
  pub all : seat.drawn ≡ done
  pub past : IsSomeAnd seat.kept (λ k. c.clusters ≤ k)

-- the slot passed the last cluster over that it drew, and finished all others
pub record MetBar (c : ClaimsSeen) (seat : SeatSeen) (done : List ℕ) : Type 0 where
  pub last : ℕ
  pub cluster : last < c.clusters
  pub others : seat.drawn ≡ done ++ last ∷ []
  pub passed : seat.passed ≡ Some last

-- ---- hands and views. A hand is what one drawer of numbers knows. A holder of a word has a view, a list of hands: one at first, and more after a join

-- the hands of all views
abbrev pub hands_in : {H : Type 0} → List (List H) → List H
hands_in views = flat_map (λ v. v) views

-- all hands but the first
abbrev pub others : {H : Type 0} → List H → List H
others [] = []
others (h ∷ hs) = hs

-- the first hand alone
abbrev pub first_alone : {H : Type 0} → List H → List H
first_alone [] = []
first_alone (h ∷ hs) = h ∷ []
