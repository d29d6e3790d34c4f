-- What the slots of a loop begin with and give back.
use Rattle.std.specs.Prelude.{◌≡◌, ◌<◌, ⊤, ℕ, List, [], ◌∷◌, Option, Some, None, All, flat_map, length, map, option_to_list}
use Rattle.rdf_values.specs.{AreInEntryOrder, below, Fault, first_in, IsUnion}
use Rattle.loop_pieces.specs.{LoopPiece, PartialLine, StandsFor}
use Rattle.merge_core.specs.{Stand}
use Rattle.slot_words.specs.{BookSeen, HaveAllTrails, SeatSeen, ShareSeen}
use Rattle.slot_words.specs.Shares as book
use Rattle.event_loop.specs.EventLoops.{AreNotedPartials, JobFacts}
use Rattle.event_loop.specs.Workers.{HasRun}
use Rattle.event_loop.specs.declared.gather.Made.{Made}
use Rattle.event_loop.specs.declared.gather.LoopOutcome.{LoopOutcome}
use Rattle.event_loop.specs.declared.workers.FinishedSlot.{FinishedSlot}
use Rattle.event_loop.specs.declared.workers.SlotEnd.{SlotEnd}
use Rattle.event_loop.specs.declared.workers.SlotEnd.TheVariants.{Over, Faulted, NoMemory}
use Rattle.event_loop.specs.declared.workers.Shared.{Shared}

-- ---- what they begin with

-- a share of this book that noted nothing
pub record IsBlank (b : BookSeen) (s : ShareSeen) : Type 0 where
  pub of : book.IsOf b s
  pub unnoted : s.numbers ≡ []

-- where there is a book, so many shares of it that noted nothing, and else none
abbrev pub AreBlank : Option BookSeen → ℕ → List ShareSeen → Type 0
AreBlank None n shares = shares ≡ []
AreBlank (Some b) n shares = (length shares ≡ n) × All (IsBlank b) shares

-- there is a book, for so many slots and clusters, where a result is watched
abbrev pub IsOpened : ℕ → ℕ → ℕ → Option BookSeen → Type 0
IsOpened watched slots clusters None = watched ≡ 0
IsOpened watched slots clusters (Some b) = (b.slots ≡ slots) × (b.clusters ≡ clusters)

-- ---- what they give back

-- the fault with which a slot stopped
abbrev pub fault_of : SlotEnd → List Fault
fault_of (Over piece) = []
fault_of (Faulted fault) = fault ∷ []
fault_of NoMemory = []

-- the faults with which slots stopped
abbrev pub end_faults : List FinishedSlot → List Fault
end_faults fs = flat_map (λ (f : FinishedSlot). fault_of f.end) fs

-- no want of memory stopped it
abbrev pub IsServed : SlotEnd → Type 0
IsServed NoMemory = ⊥
IsServed e = ⊤

-- nor the slot that stopped so
abbrev pub HasMemory : FinishedSlot → Type 0
HasMemory f = IsServed f.end

-- the seat of a slot
abbrev pub seat_in : FinishedSlot → SeatSeen
seat_in f = f.slot.seat

-- its piece, where it is over
abbrev pub piece_of : SlotEnd → List LoopPiece
piece_of (Over piece) = piece ∷ []
piece_of (Faulted fault) = []
piece_of NoMemory = []

abbrev pub pieces_in : List FinishedSlot → List LoopPiece
pieces_in fs = flat_map (λ (f : FinishedSlot). piece_of f.end) fs

-- the shares of slots, where they have some
abbrev pub shares_in : List FinishedSlot → List ShareSeen
shares_in fs = flat_map (λ (f : FinishedSlot). option_to_list f.slot.share) fs

-- the slot ran and stopped
abbrev pub HasStopped : Shared → JobFacts → FinishedSlot → Type 0
HasStopped shared job f = HasRun shared job f.end f.slot

-- the job has so many clusters, and a fault of a lower one has a lower entry
pub record AreFacts (clusters : ℕ) (job : JobFacts) : Type 0 where
  pub ranges : length job.facts.ranges ≡ clusters
  pub faults : length job.faults ≡ clusters
  pub order : AreInEntryOrder job.faults

-- the shares are of this book, one for each of some lists of clusters, and noted as many
pub record AreShares (b : BookSeen) (dones : List (List ℕ)) (shares : List ShareSeen) : Type 0 where
  pub many : length shares ≡ length dones
  pub of : All (book.IsOf b) shares
  pub noted : map length (map (λ (s : ShareSeen). s.numbers) shares) ≡ map length dones

-- the slots' pieces, with a trail for each watched result, and where there is a book their shares, are those of these lists of clusters
pub record AreMade (b : Option BookSeen) (job : JobFacts) (dones : List (List ℕ)) (pieces : List LoopPiece) (shares : List ShareSeen) : Type 0 where
  pub stand : Stand (StandsFor job.facts) dones pieces
  pub trails : HaveAllTrails job.facts job.watched dones pieces
  pub noted : (k : BookSeen) → b ≡ Some k → AreShares k dones shares

-- so many slots finished all clusters of the job, each once, and none has a fault
pub record HaveFinished (b : Option BookSeen) (job : JobFacts) (n : ℕ) (made : Made) : Type 0 where
  pub sound : first_in job.faults ≡ None
  pub dones : List (List ℕ)
  pub unite : IsUnion dones (below (length job.faults))
  pub many : length dones ≡ n
  pub are : AreMade b job dones made.pieces made.shares

-- the slots finished all clusters, or the fault is that of the first cluster that has one
abbrev pub IsOutcome : Option BookSeen → JobFacts → ℕ → LoopOutcome → Type 0
IsOutcome b job n (LoopOutcome.Processed made) = HaveFinished b job n made
IsOutcome b job n (LoopOutcome.Faulted fault) = first_in job.faults ≡ Some fault

-- ---- what a loop without a fault is filled with

-- the slots finished all clusters of the job, which has so many watched results; where one is watched, there is a book of as many slots
pub record CanFill (b : Option BookSeen) (watched clusters : ℕ) (job : JobFacts) (made : Made) : Type 0 where
  pub facts : AreFacts clusters job
  pub slots : ℕ
  pub some : 0 < slots
  pub finished : HaveFinished b job slots made
  pub watches : length job.watched ≡ watched
  pub booked : (k : BookSeen) → b ≡ Some k → k.slots ≡ slots
  pub unbooked : b ≡ None → watched ≡ 0

-- the partial results over what the slots noted, which finished these clusters
abbrev pub HaveNoted : JobFacts → ℕ → List (List ℕ) → List (List PartialLine) → Type 0
HaveNoted job k dones partials = (orders : List (List ℕ)) × AreNotedPartials job k orders dones partials
