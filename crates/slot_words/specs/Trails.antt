-- Trails of one watched result, and of all.
use Rattle.std.specs.Prelude.{◌≡◌, ◌≤◌, ℕ, List, [], ◌∷◌, ◌++◌, ◌&&◌, length, map, Bool, nat_le, nat_lt, ◌+◌, ◌*◌, ◌/◌, if◌then◌else◌, nat_eq, Some, get_or, slice_get}
use Rattle.std.specs.List.{All, filter, zip}
use Rattle.rdf_values.specs.{DrawnBy, times, below, IsUnion, stride}
use Rattle.merge_core.specs.{Noted}
use Rattle.rdf_model.specs.{Run}
use Rattle.rdf_model.specs.declared.loop_facts.LoopFacts.{LoopFacts}
use Rattle.loop_pieces.specs.{ArePartialLines, HavePartials, PartialLine, HaveTrails, IsTrail, LoopPiece, WatchPiece}

-- ---- the entries of trails by their numbers, and laws of those with a number less than a bound

-- the cluster of an entry
abbrev pub cluster_in : {P : Type 0} → Noted P → ℕ
cluster_in n = n.cluster

-- the piece of an entry
abbrev pub piece_in : {P : Type 0} → Noted P → P
piece_in n = n.piece

-- as many lists of numbers as trails, each as long as its trail
abbrev pub HaveNumbers : {A : Type 0} → List (List ℕ) → List (List A) → Type 0
HaveNumbers orders trails = map length orders ≡ map length trails

-- the entries of all trails, each beside its number
abbrev pub numbered : {A : Type 0} → List (List ℕ) → List (List A) → List (ℕ × A)
numbered [] trails = []
numbered (o ∷ os) [] = []
numbered (o ∷ os) (t ∷ ts) = zip o t ++ numbered os ts

-- the number is less than a bound, but not less than a lower one
abbrev pub is_between : ℕ → ℕ → ℕ → Bool
is_between low bound n = nat_le low n && nat_lt n bound

-- the entries with such a number
abbrev pub kept : {A : Type 0} → ℕ → ℕ → List (ℕ × A) → List A
kept low bound entries = map (λ e. e.1) (filter (λ e. is_between low bound e.0) entries)

-- the entries of a trail whose number is less than a bound, but not less than a lower one
abbrev pub added_in : {A : Type 0} → List ℕ → ℕ → ℕ → List A → List A
added_in numbers low bound trail = kept low bound (zip numbers trail)

-- of all trails
abbrev pub added : {A : Type 0} → List (List ℕ) → ℕ → ℕ → List (List A) → List A
added orders low bound trails = kept low bound (numbered orders trails)

-- the entries of all trails whose number is less than a bound
abbrev pub chosen : {A : Type 0} → List (List ℕ) → ℕ → List (List A) → List A
chosen orders bound trails = added orders 0 bound trails

-- each piece stands for its cluster alone
abbrev pub AreAlone : {P : Type 0} → (List ℕ → P → Type 0) → List (Noted P) → Type 0
AreAlone stands entries = All (λ n. stands (n.cluster ∷ []) n.piece) entries

-- the clusters and the pieces of entries, in their order
pub record AreOf {P : Type 0} (clusters : List ℕ) (pieces : List P) (entries : List (Noted P)) : Type 0 where
  pub clusters_are : clusters ≡ map cluster_in entries
  pub pieces_are : pieces ≡ map piece_in entries

-- ---- laws

-- where the numbers below m were drawn, as many entries have a number less than a bound as the bound says
abbrev pub AsManyAsTheBound : Type 0 → Type 0
AsManyAsTheBound A = (orders : List (List ℕ)) (trails : List (List A)) (m bound : ℕ)
    → DrawnBy orders m → HaveNumbers orders trails → bound ≤ m → length (chosen orders bound trails) ≡ bound

-- a higher bound leaves no entry out
abbrev pub HigherBoundKeeps : Type 0 → Type 0
HigherBoundKeeps P = (orders : List (List ℕ)) (trails : List (List (Noted P))) (low high c : ℕ)
    → low ≤ high → times c (map cluster_in (chosen orders low trails)) ≤ times c (map cluster_in (chosen orders high trails))

-- ---- the sets of clusters over which partial results come, and runs of rising numbers

-- the clusters with a number less than a bound, where the slots finished these and drew those numbers for them
abbrev pub noted_before : List (List ℕ) → List (List ℕ) → ℕ → List ℕ
noted_before orders dones bound = chosen orders bound dones

-- they, rising, among so many clusters
abbrev pub set_before : List (List ℕ) → List (List ℕ) → ℕ → ℕ → List ℕ
set_before orders dones clusters bound = filter (λ c. nat_lt 0 (times c (noted_before orders dones bound))) (below clusters)

-- the sets after every so many clusters
abbrev pub chain_of : List (List ℕ) → List (List ℕ) → ℕ → ℕ → List (List ℕ)
chain_of orders dones clusters step = map (λ j. set_before orders dones clusters ((j + 1) * step)) (below (clusters / step))

-- the sets of a loop that notes its watched results after every k-th cluster
abbrev pub noted_sets : List (List ℕ) → List (List ℕ) → ℕ → ℕ → List (List ℕ)
noted_sets orders dones clusters k = chain_of orders dones clusters (stride clusters k)

-- the slots finished all clusters, each once, and drew a number for each
pub record AreNoted (orders dones : List (List ℕ)) (clusters : ℕ) : Type 0 where
  pub unite : IsUnion dones (below clusters)
  pub drawn : DrawnBy orders clusters
  pub many : map length orders ≡ map length dones

-- the first lines of a watched place are over the sets after every so many clusters, and there is one set more
pub record AreLinesSoFar (orders : List (List ℕ)) (clusters : ℕ) (facts : LoopFacts) (place : ℕ) (dones : List (List ℕ)) (step : ℕ) (lines : List PartialLine) : Type 0 where
  pub few : clusters ≤ 1000000
  pub within : (length lines + 1) * step ≤ clusters
  pub are : ArePartialLines facts place (map (λ j. set_before orders dones clusters ((j + 1) * step)) (below (length lines))) lines

-- each watched result has its partial results, after every k-th cluster, over these sets
pub record HavePartialsOver (facts : LoopFacts) (watched : List ℕ) (k : ℕ) (sets : List (List ℕ)) (partials : List (List PartialLine)) : Type 0 where
  pub are : HavePartials facts watched k partials
  pub sets_are : are.sets ≡ sets

-- a run in front of the runs above it: it joins the first of them where that follows it
abbrev pub run_in_front : Run → List Run → List Run
run_in_front r [] = r ∷ []
run_in_front r (s ∷ ss) = if nat_eq (r.last + 1) s.first then record { first = r.first; last = s.last } ∷ ss else r ∷ s ∷ ss

-- the trail of that number of each piece
abbrev pub trails_at : ℕ → List LoopPiece → List (List (Noted WatchPiece))
trails_at w pieces = map (λ (p : LoopPiece). get_or p.trails.items w []) pieces

-- the trails of one watched place, slot by slot, over the clusters that the slots finished
pub record AreTrails (facts : LoopFacts) (place : ℕ) (dones : List (List ℕ)) (trails : List (List (Noted WatchPiece))) : Type 0 where
  pub many : length trails ≡ length dones
  pub each : (k : ℕ) (done : List ℕ) (trail : List (Noted WatchPiece)) → slice_get dones k ≡ Some done → slice_get trails k ≡ Some trail → IsTrail facts place done trail

-- a watched place of a loop: the slots finished and noted so many clusters, and these are their trails of it
pub record WatchedPlace (orders : List (List ℕ)) (clusters : ℕ) (trails : List (List (Noted WatchPiece))) : Type 0 where
  pub facts : LoopFacts
  pub place : ℕ
  pub dones : List (List ℕ)
  pub noted : AreNoted orders dones clusters
  pub are : AreTrails facts place dones trails

-- the pieces have the trails of all watched places
pub record HaveAllTrails (facts : LoopFacts) (places : List ℕ) (dones : List (List ℕ)) (pieces : List LoopPiece) : Type 0 where
  pub many : length pieces ≡ length dones
  pub each : (k : ℕ) (done : List ℕ) (piece : LoopPiece) → slice_get dones k ≡ Some done → slice_get pieces k ≡ Some piece → HaveTrails facts places done piece.trails.items
