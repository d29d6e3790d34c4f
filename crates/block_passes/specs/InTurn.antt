-- What stands while the passes of a loop are tried over a block.
use Rattle.std.specs.Prelude.{◌≡◌, ◌<◌, ◌≤◌, ◌+◌, ℕ, List, Some, length, Bool, Option, slice_index_or}
use Rattle.expr_lanes.specs.{EachPlace}
use Rattle.expr_lanes.specs.declared.TheConstants.{MAX_PLACES}
use Rattle.block_cache.specs.{AreReady, IsSpentOver, kinds_of, LaneView}
use Rattle.loop_keys.specs.{AreKeys, ArePlainVersions, Fits, Job, job_graph, job_of, JobView, Row, source_at, version_in, ArePlain}
use Rattle.rdf_model.specs.{for_all}
use Rattle.block_passes.specs.Plans.{IsPlan, PlanView, Chain}
use Rattle.block_passes.specs.Inputs.{IsSettledAt, Spends, AreAtHand, IsWhole, CanServe, IsServedTo}
use Rattle.block_passes.specs.declared.turn.KeptPlaces.{KeptPlaces}
use Rattle.block_passes.specs.declared.turn.Turn.{Turn}
use Rattle.block_passes.specs.declared.turn.Work.{Work}
use Rattle.rdf_values.specs.{EntryFault}
use Rattle.actions.specs.{Sources}
use Rattle.cluster_tally.specs.{BlockStage}
use Rattle.graph_numbers.specs.{Source}
use Rattle.block_passes.specs.Feeds.{AreLanesOf, CanGather, GivesNumber, GivesVector, IsAmid, IsClear, unfed}
use Rattle.block_passes.specs.Tries.{CanSelect, CanServeAll, IsReadyBelow, IsSelectedTo}
use Rattle.block_passes.specs.declared.copies.CopiedVersion.{CopiedVersion}
use Rattle.block_passes.specs.declared.copies.Copies.{Copies}
use Rattle.block_passes.specs.declared.turn.Found.{Found}
use Rattle.block_passes.specs.declared.turn.ActionRead.{ActionRead}

-- the job's parts fit, the keys under each row and the plan are of its loop, and the block has few places, all of them in the table
pub record IsTurnOf {V : Type 0} {D : V → Type 0} {g : _} (j : Job V D g) (p : PlanView) (keys : List Row) (first count : ℕ) : Type 0 where
  pub fits : Fits j
  pub rows : AreKeys (job_graph (job_of j)) keys
  pub plan : IsPlan (job_of j) p
  pub small : count ≤ MAX_PLACES
  pub few : first + count ≤ 1000000
  pub within : first + count ≤ length j.columns.now.table.rows

-- so it is whichever pass has the turn
abbrev pub IsTurn : {V : Type 0} {D : V → Type 0} {g : _} → Turn V D g → Type 0
IsTurn t = IsTurnOf t.job.now t.plan.now t.rows.now t.first t.count

-- so it is, and what the lanes hold of the block is right
pub record IsOver {V : Type 0} {D : V → Type 0} {g : _} (t : Turn V D g) (lanes : List LaneView) : Type 0 where
  pub turn : IsTurn t
  pub ready : AreReady (job_of t.job.now) t.first t.count lanes

-- likewise of what was evaluated, where the search is in the block, and below its limit all that was begun is held
pub record IsKnown {V : Type 0} {D : V → Type 0} {g : _} (t : Turn V D g) (w : Work) : Type 0 where
  pub turn : IsTurn t
  pub ready : AreReady (job_of t.job.now) t.first t.count w.lanes.items
  pub limit : w.found.limit ≤ t.count
  pub settled : (p : ℕ) → p < w.found.limit → IsSettledAt w.lanes.items p

-- the selection was made below the limit
pub record IsSelected (limit : ℕ) (to : KeptPlaces) : Type 0 where
  pub made : to.limit ≡ Some limit
  pub inside : EachPlace to.places (λ p. p < limit)

-- there is as much room for evaluations, and for sites within one another, as before
pub record KeepsRoom (old new : Work) : Type 0 where
  pub scratch : length new.scratch.items ≡ length old.scratch.items
  pub levels : length new.levels.items ≡ length old.levels.items

-- likewise, and only what the loop demands was evaluated
pub record Leaves {V : Type 0} {D : V → Type 0} {g : _} (t : Turn V D g) (old new : Work) (start end : ℕ) : Type 0 where
  pub spends : Spends (job_of t.job.now) t.first t.count old.lanes.items new.lanes.items start end
  pub scratch : length new.scratch.items ≡ length old.scratch.items
  pub levels : length new.levels.items ≡ length old.levels.items

-- ---- What is known of a block whose turn it is, from the structs that carry it.

module _ {V : Type 0} {D : V → Type 0} {g : _} (t : Turn V D g) where
  -- its job
  abbrev pub turn_job : JobView
  turn_job = job_of t.job.now

  -- the source of a version
  abbrev pub source_in_turn : Option ℕ → ℕ → Source
  source_in_turn = source_at turn_job

  -- its plan is of its job
  abbrev pub IsPlanOfTurn : Type 0
  IsPlanOfTurn = IsPlan turn_job t.plan.now

  -- the tally is amid the block
  abbrev pub IsAmidTurn : BlockStage → Type 0
  IsAmidTurn = IsAmid turn_job t.first t.count

  -- a version can be served by the lanes, with so many levels of scratch and of sites that wait
  abbrev pub CanServeWith : Option ℕ → List LaneView → ℕ → ℕ → ℕ → Type 0
  CanServeWith under lanes scratch levels version = CanServe turn_job t.first under t.count (kinds_of lanes) t.cells.now scratch levels version

  -- so can all that the passes read
  abbrev pub CanServeAllWith : List LaneView → ℕ → ℕ → Type 0
  CanServeAllWith lanes scratch levels = CanServeAll turn_job t.first t.count (kinds_of lanes) t.cells.now scratch levels

  -- a version can be served by what was evaluated
  abbrev pub CanServeInTurn : Option ℕ → Work → ℕ → Type 0
  CanServeInTurn under w = CanServeWith under w.lanes.items (length w.scratch.items) (length w.levels.items)

  -- so can all that the passes read
  abbrev pub CanServeAllInTurn : Work → Type 0
  CanServeAllInTurn w = CanServeAllWith w.lanes.items (length w.scratch.items) (length w.levels.items)

  -- the steps of the plan can be selected
  abbrev pub CanSelectInTurn : Work → Type 0
  CanSelectInTurn w = CanSelect turn_job t.first t.count t.plan.now (kinds_of w.lanes.items) t.cells.now (length w.scratch.items) (length w.levels.items)

  -- what filling a site may change and cost
  abbrev pub IsSpentInTurn : Option ℕ → ℕ → List ℕ → Work → Work → ℕ → ℕ → Type 0
  IsSpentInTurn under site sel old new = IsSpentOver turn_job t.first under site sel old.lanes.items new.lanes.items

  -- the selections are right below a limit
  abbrev pub IsReadyInTurn : List Chain → ℕ → List LaneView → List KeptPlaces → Type 0
  IsReadyInTurn = IsReadyBelow turn_job t.first t.count

  -- no pass has a fault
  abbrev pub IsClearInTurn : List Chain → List LaneView → List KeptPlaces → Type 0
  IsClearInTurn chains = IsClear turn_job t.first t.count chains t.plan.now

  -- a selection is served up to its first fault
  abbrev pub IsServedInTurn : (ℕ → Option EntryFault) → List ℕ → KeptPlaces → List LaneView → Found → Found → Type 0
  IsServedInTurn fault = IsServedTo turn_job t.first t.count fault t.pass

  -- a step is selected
  abbrev pub IsSelectedInTurn : List Chain → ℕ → List LaneView → List KeptPlaces → List KeptPlaces → Found → Found → Type 0
  IsSelectedInTurn chains = IsSelectedTo turn_job t.first t.count chains t.pass

  -- nothing is copied of a version that is read in place; else there is what it gives at each place of the selection
  abbrev pub IsCopyInTurn : Option ℕ → List LaneView → List ℕ → ℕ → CopiedVersion → Type 0
  IsCopyInTurn u lanes sel c CopiedVersion.Whole = IsWhole turn_job u (kinds_of lanes) (source_in_turn u c)
  IsCopyInTurn u lanes sel c (CopiedVersion.Numbers numbers) = EachPlace sel (λ p. GivesNumber numbers.items p (version_in turn_job (t.first + p) u c))
  IsCopyInTurn u lanes sel c (CopiedVersion.Vectors vectors) = EachPlace sel (λ p. GivesVector vectors.elements.items vectors.spans.items p (version_in turn_job (t.first + p) u c))

-- ---- of what an action reads

module _ {V : Type 0} {D : V → Type 0} {g : _} (t : Turn V D g) (own : ActionRead) where
  -- all that it reads is at hand at a place
  abbrev pub AreHeldInTurn : List LaneView → ℕ → Type 0
  AreHeldInTurn lanes = AreAtHand (turn_job t) t.first lanes own.under own.inputs.now

  -- it reads sites without vectors alone
  pub record IsPlainRead : Type 0 where
    pub used : ℕ → Bool
    pub sites : ArePlain (turn_job t) used
    pub inputs : ArePlainVersions (turn_job t) used own.under own.inputs.now

  -- all of it can be gathered
  abbrev pub CanGatherInTurn : List LaneView → Type 0
  CanGatherInTurn lanes = CanGather (turn_job t) t.first t.count (kinds_of lanes) t.cells.now own.kind.now own.inputs.now own.under

  -- the lanes are of all that it reads, at each place at which that is at hand
  abbrev pub AreInPlaceInTurn : List LaneView → Sources → Type 0
  AreInPlaceInTurn lanes sources = (p : ℕ) → p < t.count → AreHeldInTurn lanes p → AreLanesOf (for_all (version_in {M = ⊥} (turn_job t) (t.first + p) own.under) own.inputs.now) own.kind.now sources p

  -- what was copied of each version that it reads
  pub record AreCopiedInTurn (lanes : List LaneView) (sel : List ℕ) (copies : Copies) : Type 0 where
    pub first_is : 0 < length own.inputs.now → IsCopyInTurn t own.under lanes sel (slice_index_or own.inputs.now 0 0) copies.first
    pub second_is : 1 < length own.inputs.now → IsCopyInTurn t own.under lanes sel (slice_index_or own.inputs.now 1 0) copies.second
    pub third_is : 2 < length own.inputs.now → IsCopyInTurn t own.under lanes sel (slice_index_or own.inputs.now 2 0) copies.third

  -- the fault of the action at a place
  abbrev pub unfed_in_turn : ℕ → Option EntryFault
  unfed_in_turn = unfed (turn_job t) t.first own.kind.now own.inputs.now own.under
