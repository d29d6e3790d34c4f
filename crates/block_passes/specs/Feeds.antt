-- What the passes of a block feed and count.
use Rattle.std.specs.Prelude.{◌≡◌, ◌<◌, ◌≤◌, ◌+◌, ℕ, ℤ, List, Option, Result, Ok, Err, length, None, Some, slice_get, true}
use Rattle.std.specs.List.{slice_range, AllByRecursion}
use Rattle.rdf_values.specs.{ActionKind, ColType, columns_of, EntryFault, Span, Value}
use Rattle.rdf_model.specs.{Faults, FitsFeed, for_all, Gives, Outcome}
use Rattle.actions.specs.{HasPlace, HasValues, FedLane, lane_value, BatchFault, Sources, span_at, SuitsAt, values_at, Batch, places_of}
use Rattle.expr_lanes.specs.{at_place, is_in}
use Rattle.loop_keys.specs.{JobView, version_in, job_graph, pass_fault, passes_in}
use Rattle.block_passes.specs.Clusters.{entries_from, IsBlockOf}
use Rattle.block_passes.specs.Inputs.{AreAtHand, CanServe}
use Rattle.block_cache.specs.{LaneView, PlaceFault, value_of, AreReady}
use Rattle.block_passes.specs.Searches.{feeding_fault}
use Rattle.graph_numbers.specs.{FilterAt, graph_filters}
use Rattle.cluster_tally.specs.{BlockStage, CanFeedBatch, TallyView}
use Rattle.block_passes.specs.Plans.{PlanView, Chain}
use Rattle.block_passes.specs.Tries.{AreKept, IsOverAll, IsReadBelow, IsReadOf}
use Rattle.block_passes.specs.declared.turn.KeptPlaces.{KeptPlaces}
use Rattle.block_passes.specs.declared.plan.NamedSteps.{NamedSteps}
use Rattle.rdf_model.specs.declared.loop_facts.LoopFacts.{LoopFacts}

-- a number, or why there is none
abbrev pub IsNumberOf : Outcome ⊥ Value → Result ℤ EntryFault → Type 0
IsNumberOf o (Ok z) = o ≡ Gives (Value.Int z)
IsNumberOf o (Err k) = o ≡ Faults k

-- the vector of a place stands among all elements
pub record HasVector (elements : List ℤ) (spans : List Span) (p : ℕ) (vector : List ℤ) : Type 0 where
  pub there : p < length spans
  pub ordered : (span_at spans p).lo ≤ (span_at spans p).hi
  pub within : (span_at spans p).hi ≤ length elements
  pub is : slice_range elements (span_at spans p).lo (span_at spans p).hi ≡ vector

-- the number of a place is what the outcome gives, and so is its vector
abbrev pub GivesNumber : List ℤ → ℕ → Outcome ⊥ Value → Type 0
GivesNumber numbers p o = (p < length numbers) × (o ≡ Gives (Value.Int (at_place numbers p)))

abbrev pub GivesVector : List ℤ → List Span → ℕ → Outcome ⊥ Value → Type 0
GivesVector elements spans p o = (vector : List ℤ) × HasVector elements spans p vector × (o ≡ Gives (Value.Vect vector))

-- ---- What the passes of a block feed.

-- the lane has what the outcome gives at the place
pub record IsLaneOf (o : Outcome ⊥ Value) (l : FedLane) (p : ℕ) : Type 0 where
  pub there : HasPlace l p
  pub value : o ≡ Gives (lane_value l p)

-- the lane has what is held of a key at each place of its block
abbrev pub HasHeld : LaneView → FedLane → Type 0
HasHeld l fed = (p : ℕ) → p < l.count → HasPlace fed p × (lane_value fed p ≡ value_of l p)

-- so have the lanes of all that an action reads, and it takes these values
pub record AreLanesOf (o : Outcome ⊥ (List Value)) (k : ActionKind) (s : Sources) (p : ℕ) : Type 0 where
  pub there : HasValues s p
  pub values : o ≡ Gives (values_at s p)
  pub suits : SuitsAt k s p

-- the fault of feeding an action what it reads, at a place of a block that begins at this entry
abbrev pub unfed : JobView → ℕ → ActionKind → List ℕ → Option ℕ → ℕ → Option EntryFault
unfed j first k inputs u p = feeding_fault k (for_all (version_in {M = ⊥} j (first + p) u) inputs)

-- a fault of a batch as one of a place
abbrev pub of_batch : Option BatchFault → Option PlaceFault
of_batch None = None
of_batch (Some x) = Some (record { place = x.place; kind = x.kind })

-- an action's lanes can be gathered: its versions can be served, one for each of its columns, and come to values that it takes
pub record CanGather (j : JobView) (first count : ℕ) (kinds : List ColType) (cells : List (List ℤ)) (k : ActionKind) (inputs : List ℕ) (u : Option ℕ) : Type 0 where
  pub scratch : ℕ
  pub levels : ℕ
  pub can : AllByRecursion (CanServe j first u count kinds cells scratch levels) inputs
  pub many : length inputs ≡ length (columns_of k)
  pub fits : (p : ℕ) (vs : List Value) → p < count → for_all (version_in {M = ⊥} j (first + p) u) inputs ≡ Gives vs → FitsFeed k vs

-- ---- What a block comes to at the named filters.

-- the stage is amid the block of so many entries from one on
abbrev pub IsAmid : JobView → ℕ → ℕ → BlockStage → Type 0
IsAmid j first count s = IsBlockOf j s.cluster s.entries (entries_from first count) × (s.block ≡ count)

-- so many named filters have taken the block in
abbrev pub at_filter : BlockStage → ℕ → BlockStage
at_filter s n = record { done = s.done; cluster = s.cluster; entries = s.entries; block = s.block; passes = s.passes; filters = n }

-- the selections of each named filter that is covered were made over all of a block, and none of the filters faults in it
pub record AreCountable (j : JobView) (first count : ℕ) (chains : List Chain) (p : PlanView) (kept : List KeptPlaces) : Type 0 where
  pub kept_are : AreKept j first chains count kept
  pub above : (f : ℕ) (x : FilterAt) (s : NamedSteps) → slice_get (graph_filters (job_graph j)) f ≡ Some x → slice_get p.filters f ≡ Some (Some s) → IsOverAll count kept s.above
  pub own : (f : ℕ) (x : FilterAt) (s : NamedSteps) → slice_get (graph_filters (job_graph j)) f ≡ Some x → slice_get p.filters f ≡ Some (Some s) → IsOverAll count kept s.own

-- so many action passes have taken it in
abbrev pub at_pass : BlockStage → ℕ → BlockStage
at_pass s n = record { done = s.done; cluster = s.cluster; entries = s.entries; block = s.block; passes = n; filters = s.filters }

-- no pass faults at any place; the selections of all steps that are fed or counted were made over all of the block; and what the
-- actions read is at hand where their filters are passed
pub record IsClear (j : JobView) (first count : ℕ) (chains : List Chain) (p : PlanView) (lanes : List LaneView) (kept : List KeptPlaces) : Type 0 where
  pub ready : AreReady j first count lanes
  pub countable : AreCountable j first count chains p kept
  pub clear : (n q : ℕ) → n < length (passes_in j) → q < count → pass_fault j (first + q) n ≡ None
  pub read : (n : ℕ) → IsReadBelow j first lanes count n
  pub over : (n : ℕ) (k : ActionKind) (inputs : List ℕ) (u : Option ℕ) → IsReadOf j n k inputs u → (last : ℕ) → slice_get p.passes n ≡ Some last → IsOverAll count kept last

-- ---- What stands before the action passes of a block are fed.

-- the batch has the selected places, and at each of them the lanes are of all that an action reads, where that is at hand
pub record IsBatchOf (j : JobView) (first count : ℕ) (lanes : List LaneView) (k : ActionKind) (inputs : List ℕ) (u : Option ℕ) (sel : List ℕ) (b : Batch) : Type 0 where
  pub places : places_of b.places ≡ sel
  pub gathered : (p : ℕ) → p < count → is_in p sel ≡ true → AreAtHand j first lanes u inputs p → AreLanesOf (for_all (version_in {M = ⊥} j (first + p) u) inputs) k b.sources p

-- the tally can be fed any such batch
abbrev pub CanFeedAny : JobView → ℕ → ℕ → List LaneView → ActionKind → List ℕ → Option ℕ → List ℕ → LoopFacts → List ℕ → BlockStage → TallyView → ℕ → ℕ → Type 0
CanFeedAny j first count lanes k inputs u sel f watched s t place cluster =
    (b : Batch) → IsBatchOf j first count lanes k inputs u sel b → (can : CanFeedBatch f watched s t place cluster b) × (can.kind ≡ k)
