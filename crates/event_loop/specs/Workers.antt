-- What a worker is given, and what it gives back.
use Rattle.std.specs.Prelude.{◌≡◌, ◌<◌, ◌≤◌, ◌⊎◌, ⊤, ℕ, List, [], ◌∷◌, ◌++◌, Option, Some, None, length, slice_get, All, take}
use Rattle.rdf_values.specs.{Fault, history, StatementsHaveWords, times}
use Rattle.loop_keys.specs.{JobView, IsNoTake, IsPlainLoop, job_graph, passes_in}
use Rattle.loop_pieces.specs.{HaveTrails, LoopPiece, StandsFor, watched_places}
use Rattle.slot_words.specs.{BookSeen, ClaimsSeen, IsReady, MetBar, RanOut, ShareSeen}
use Rattle.event_loop.specs.EventLoops.{JobFacts, job_facts}
use Rattle.event_loop.specs.declared.workers.Shared.{Shared}
use Rattle.event_loop.specs.declared.workers.SlotRights.{SlotRights}
use Rattle.event_loop.specs.declared.workers.SlotEnd.{SlotEnd}
use Rattle.event_loop.specs.declared.workers.SlotEnd.TheVariants.{Over, Faulted, NoMemory}
use Rattle.rdf_model.specs.{kinds_in}
use Rattle.block_passes.specs.{CountsVectors, IsStateOf, StateView}
use Rattle.cluster_tally.specs.{at_begin, Holds, IsFresh as IsFreshTally, TallyView}
use Rattle.event_loop.specs.declared.state.SlotPhase.{SlotPhase}
use Rattle.event_loop.specs.declared.state.SlotPhase.TheVariants.{Going}
use Rattle.slot_words.specs.Seats as claims
use Rattle.slot_words.specs.Shares as book

-- none of the clusters has a fault
abbrev pub AreSound : List (Option Fault) → List ℕ → Type 0
AreSound faults clusters = (c : ℕ) → 0 < times c clusters → slice_get faults c ≡ Some None

-- where there is a book, the share is one of it that noted n clusters
abbrev pub HasNoted : Option BookSeen → ℕ → Option ShareSeen → Type 0
HasNoted None n None = ⊤
HasNoted (Some b) n (Some s) = book.IsOf b s × (length s.numbers ≡ n)
HasNoted b n s = ⊥

-- where there is a book, its shares have room for so many clusters
abbrev pub HasRoom : ℕ → Option BookSeen → Type 0
HasRoom n None = ⊤
HasRoom n (Some b) = n ≤ b.clusters

-- the script's statements have words, the clusters claimed are the loop's, and the book has room for them
pub record CanRun (job : JobView) (shared : Shared) : Type 0 where
  pub words : StatementsHaveWords (history job.script)
  pub clusters : shared.claims.clusters ≡ length (job_facts job).faults
  pub room : HasRoom shared.claims.clusters shared.book

-- the slot has a seat of these claims and a share of the book, and did nothing with them yet
pub record IsFresh (shared : Shared) (s : SlotRights) : Type 0 where
  pub seat : IsReady shared.claims s.seat
  pub share : HasNoted shared.book 0 s.share

-- no cluster is left for the slot; those that it finished are sound and noted, and the piece is what they come to, with a trail for each
-- watched result
pub record IsOver (c : ClaimsSeen) (b : Option BookSeen) (job : JobFacts) (s : SlotRights) (piece : LoopPiece) : Type 0 where
  pub done : List ℕ
  pub stands : StandsFor job.facts done piece
  pub trails : HaveTrails job.facts job.watched done piece.trails.items
  pub sound : AreSound job.faults done
  pub noted : HasNoted b (length done) s.share
  pub left : RanOut c s.seat done ⊎ MetBar c s.seat done
  pub unlowered : s.seat.lowered ≡ None

-- the slot stopped at the last cluster that it drew, which has that fault; it finished all others, which are sound and noted; and the bar
-- was lowered to the last
pub record MetFault (b : Option BookSeen) (job : JobFacts) (s : SlotRights) (fault : Fault) : Type 0 where
  pub done : List ℕ
  pub last : ℕ
  pub others : s.seat.drawn ≡ done ++ last ∷ []
  pub sound : AreSound job.faults done
  pub noted : HasNoted b (length done) s.share
  pub its_fault : slice_get job.faults last ≡ Some (Some fault)
  pub lowered : s.seat.lowered ≡ Some last

-- how the slot stopped
abbrev pub Stopped : ClaimsSeen → Option BookSeen → JobFacts → SlotEnd → SlotRights → Type 0
Stopped c b job (Over piece) s = IsOver c b job s piece
Stopped c b job (Faulted fault) s = MetFault b job s fault
Stopped c b job NoMemory s = ⊤

-- the slot stopped in that way
pub record HasRun (shared : Shared) (job : JobFacts) (end : SlotEnd) (s : SlotRights) : Type 0 where
  pub seat_of : claims.IsOf shared.claims s.seat
  pub stopped : Stopped shared.claims shared.book job end s

-- ---- what a contract sees of a slot

-- what it reserves for blocks, how many keys of the graph have vectors for values, what the clusters gave, room for so many clusters, those that the slot finished, and whether it goes on
pub record SlotView : Type 0 where
  pub blocks : StateView
  pub vectors : ℕ
  pub tally : TallyView
  pub room : ℕ
  pub done : List ℕ
  pub phase : SlotPhase

-- the slot is one of the loop that is to give that; while it goes on, its tally holds what the finished clusters give
pub record IsSlotOf (job : JobFacts) (s : SlotView) : Type 0 where
  pub blocks : IsStateOf job.job s.blocks
  pub vectors : CountsVectors (job_graph job.job) s.vectors
  pub few : s.vectors < 1099511627776
  pub room : length job.faults ≤ s.room
  pub holds : s.phase ≡ Going → (c : ℕ) → All (λ d. d < c) s.done → Holds job.facts job.watched (at_begin s.done c) s.tally

-- and it finished no cluster
pub record IsFreshSlot (job : JobFacts) (s : SlotView) : Type 0 where
  pub slot : IsSlotOf job s
  pub none : s.done ≡ []
  pub going : s.phase ≡ Going

-- no site and no column in use is a vector, nothing is taken and nothing is watched
pub record IsPlainSlot (j : JobView) : Type 0 where
  pub plain : IsPlainLoop j
  pub no_take : All IsNoTake (kinds_in (passes_in j))
  pub unwatched : (job_facts j).watched ≡ []

-- ---- the passes of a loop, as they are added to a tally

-- the places of the watched passes among the first so many passes
abbrev pub places_before : JobView → ℕ → List ℕ
places_before j n = watched_places (history j.script) (take n (passes_in j))

-- nothing was told to the tally, and it is one of the first so many passes
abbrev pub IsOfPasses : JobView → ℕ → TallyView → Type 0
IsOfPasses j n t = IsFreshTally (kinds_in (take n (passes_in j))) (places_before j n) t
