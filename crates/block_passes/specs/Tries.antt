-- Selections that the passes of a block share.
use Rattle.std.specs.Prelude.{◌≡◌, ◌⊎◌, ◌<◌, ◌≤◌, ◌+◌, ℕ, ℤ, List, Option, None, Some, length, nat_lt, slice_get, true}
use Rattle.std.specs.List.{filter, range_with_len, AllByRecursion}
use Rattle.rdf_values.specs.{ActionKind, ColType, EntryFault}
use Rattle.rdf_model.specs.{fault_in, is_true}
use Rattle.block_cache.specs.{AreReady, CanFill, LaneView}
use Rattle.loop_keys.specs.{IsReportPass, job_graph, JobView, key, pass_fault, site_in, truth_in}
use Rattle.block_passes.specs.Searches.{where_passed, Lowers, IsSearched}
use Rattle.block_passes.specs.Plans.{chain_at, PlanView, through_chain, Chain, IsActionOf}
use Rattle.block_passes.specs.declared.turn.Found.{Found}
use Rattle.block_passes.specs.declared.turn.KeptPlaces.{KeptPlaces}
use Rattle.block_passes.specs.declared.plan.Step.{Step}
use Rattle.graph_numbers.specs.{graph_filters, Pass as NumberedPass, report_numbers, ResultAt, through_filter, through_sites}
use Rattle.block_passes.specs.Inputs.{AreAtHand, CanServe, IsServedTo, IsSettledAt}
use Rattle.block_passes.specs.declared.plan.NamedSteps.{NamedSteps}

-- the places below a limit that pass the filters of a chain, in a block that begins at this entry
abbrev pub chosen : JobView → ℕ → Chain → ℕ → List ℕ
chosen j first c limit = filter (λ p. is_true (through_chain j (first + p) c)) (range_with_len 0 limit)

-- the selection was made below a limit, under which the search is now, and none of the filters faults below that
pub record IsMade (j : JobView) (first : ℕ) (c : Chain) (limit made : ℕ) (places : List ℕ) : Type 0 where
  pub under : limit ≤ made
  pub is : places ≡ chosen j first c made
  pub clear : (p : ℕ) → p < limit → fault_in (through_chain j (first + p) c) ≡ None

-- a selection for each chain, right where it was made
pub record AreKept (j : JobView) (first : ℕ) (chains : List Chain) (limit : ℕ) (kept : List KeptPlaces) : Type 0 where
  pub many : length kept ≡ length chains
  pub each : (k made : ℕ) (s : KeptPlaces) → slice_get kept k ≡ Some s → s.limit ≡ Some made → IsMade j first (chain_at chains k) limit made s.places

-- what is known of a block before or after a part of a pass: what is held is right, below the limit all that was begun is held, and the
-- selections are right
pub record IsReadyBelow (j : JobView) (first count : ℕ) (chains : List Chain) (limit : ℕ) (lanes : List LaneView) (kept : List KeptPlaces) : Type 0 where
  pub ready : AreReady j first count lanes
  pub settled : (p : ℕ) → p < limit → IsSettledAt lanes p
  pub kept_are : AreKept j first chains limit kept
  pub within : limit ≤ count

-- left are the places below the limit, unless it is no lower than where the selection was made
abbrev pub IsNarrowed : ℕ → ℕ → KeptPlaces → KeptPlaces → Type 0
IsNarrowed limit made old new = ((made ≤ limit) × (new ≡ old)) ⊎ ((limit < made) × (new.limit ≡ Some limit) × (new.places ≡ filter (λ p. nat_lt p limit) old.places))

-- the selection of a step was made, below a limit of so many places at most
abbrev pub IsMadeAt : ℕ → List KeptPlaces → ℕ → Type 0
IsMadeAt count kept k = (m : KeptPlaces) → slice_get kept k ≡ Some m → (limit : ℕ) × (m.limit ≡ Some limit) × (limit ≤ count)

-- each that was made still is
abbrev pub AreRemade : ℕ → List KeptPlaces → List KeptPlaces → Type 0
AreRemade count old new = (k : ℕ) → IsMadeAt count old k → IsMadeAt count new k

-- the selection of a step was made over all of so many places
abbrev pub IsOverAll : ℕ → List KeptPlaces → ℕ → Type 0
IsOverAll count kept k = (m : KeptPlaces) → slice_get kept k ≡ Some m → m.limit ≡ Some count

-- a part of a pass was tried at the places below the limit, which its first fault lowered; below the new limit all is as before, and what
-- the part makes was made
pub record IsTriedTo (j : JobView) (first count : ℕ) (chains : List Chain) (part : ℕ → Option EntryFault) (pass : ℕ) (lanes : List LaneView) (was kept : List KeptPlaces) (old new : Found) (Made : Type 0) : Type 0 where
  pub ready : IsReadyBelow j first count chains new.limit lanes kept
  pub lowers : Lowers part first pass old new
  pub remade : AreRemade count was kept
  pub made : Made

-- the places of a selection that pass the filter of a site are left below the first that faults in it, which lowers the limit
pub record IsFilteredTo (j : JobView) (first count : ℕ) (u : Option ℕ) (s pass : ℕ) (sel : List ℕ) (to : KeptPlaces) (lanes : List LaneView) (old new : Found) : Type 0 where
  pub tried : KeptPlaces
  pub served : IsServedTo j first count (λ p. fault_in (truth_in j (first + p) u s)) pass sel tried lanes old new
  pub its_limit : to.limit ≡ Some new.limit
  pub left : to.places ≡ filter (λ p. is_true (truth_in j (first + p) u s)) tried.places

-- ---- a step

-- what a selection is made of, for each step with a filter: its site can be filled, and its lane holds truths
pub record CanSelect (j : JobView) (first count : ℕ) (plan : PlanView) (kinds : List ColType) (cells : List (List ℤ)) (scratch levels : ℕ) : Type 0 where
  pub each : (k parent site : ℕ) (u : Option ℕ) → slice_get plan.steps k ≡ Some (Step.Filter parent site u) → CanFill j first u count kinds cells scratch levels site
  pub truths : (k parent site : ℕ) (u : Option ℕ) → slice_get plan.steps k ≡ Some (Step.Filter parent site u) → slice_get kinds (key (job_graph j) site u) ≡ Some ColType.Bool

-- the selection of a step was made below the limit, which its filters lowered
abbrev pub IsSelectedTo : JobView → ℕ → ℕ → List Chain → ℕ → ℕ → List LaneView → List KeptPlaces → List KeptPlaces → Found → Found → Type 0
IsSelectedTo j first count chains pass step lanes was kept old new =
    IsTriedTo j first count chains (λ p. fault_in (through_chain j (first + p) (chain_at chains step))) pass lanes was kept old new (IsOverAll new.limit kept step)

-- likewise of a step with one more filter than the step of the parent, which was selected below the limit
abbrev pub IsNextSelected : JobView → ℕ → ℕ → List Chain → ℕ → ℕ → ℕ → ℕ → Option ℕ → List LaneView → List KeptPlaces → List KeptPlaces → Found → Found → Type 0
IsNextSelected j first count chains pass step parent site u lanes was kept old new =
    IsTriedTo j first count chains (λ p. where_passed (through_chain j (first + p) (chain_at chains parent)) (fault_in (truth_in j (first + p) u site))) pass lanes was kept old new (IsOverAll new.limit kept step)

-- ---- What trying a pass over a block does.

-- the pass of that number is of an action of this kind, which reads these versions
pub record IsReadOf (j : JobView) (pass : ℕ) (k : ActionKind) (inputs : List ℕ) (u : Option ℕ) : Type 0 where
  pub numbered : NumberedPass
  pub result : ResultAt
  pub action : IsActionOf j pass numbered result k
  pub inputs_are : result.inputs ≡ inputs
  pub its_under : numbered.variation ≡ u

-- what an action's pass reads is at hand at the places below a limit that pass its filters
abbrev pub IsReadBelow : JobView → ℕ → List LaneView → ℕ → ℕ → Type 0
IsReadBelow j first lanes limit pass =
    (m : NumberedPass) (r : ResultAt) (k : ActionKind) → IsActionOf j pass m r k
    → (p : ℕ) → p < limit → is_true (through_sites (site_in j (first + p) m.variation) r.filters) ≡ true → AreAtHand j first lanes m.variation r.inputs p

-- ---- reports

-- the fault of a named filter, with those above it, at a place of a block that begins at this entry; and of several in order
abbrev pub filter_fault : JobView → ℕ → ℕ → ℕ → Option EntryFault
filter_fault j first f p = fault_in (through_filter (site_in {M = ⊥} j (first + p) None) (slice_get (graph_filters (job_graph j)) f))

abbrev pub filters_fault : JobView → ℕ → List ℕ → ℕ → Option EntryFault
filters_fault j first fs p = fault_in (report_numbers (site_in {M = ⊥} j (first + p) None) (graph_filters (job_graph j)) fs)

-- the selections of a named filter's steps were made
abbrev pub IsNamedMade : ℕ → PlanView → List KeptPlaces → ℕ → Type 0
IsNamedMade count plan kept f = (s : NamedSteps) → slice_get plan.filters f ≡ Some (Some s) → IsMadeAt count kept s.above × IsMadeAt count kept s.own

-- ---- all passes

-- the selections that a pass takes were made
pub record IsPassMade (j : JobView) (count : ℕ) (plan : PlanView) (kept : List KeptPlaces) (pass : ℕ) : Type 0 where
  pub action : (k : ActionKind) (inputs : List ℕ) (u : Option ℕ) → IsReadOf j pass k inputs u → (last : ℕ) → slice_get plan.passes pass ≡ Some last → IsMadeAt count kept last
  pub report : (own : ℕ) (rep : IsReportPass j pass own) → AllByRecursion (IsNamedMade count plan kept) rep.result.covers

-- a pass was tried: what its action reads is at hand
abbrev pub IsPassTried : JobView → ℕ → ℕ → PlanView → List Chain → ℕ → List LaneView → List KeptPlaces → List KeptPlaces → Found → Found → Type 0
IsPassTried j first count plan chains pass lanes was kept old new =
    IsTriedTo j first count chains (λ p. pass_fault j (first + p) pass) pass lanes was kept old new (IsReadBelow j first lanes new.limit pass × IsPassMade j count plan kept pass)

-- all that the actions of a loop read can be served
abbrev pub CanServeAll : JobView → ℕ → ℕ → List ColType → List (List ℤ) → ℕ → ℕ → Type 0
CanServeAll j first count kinds cells scratch levels =
    (n : ℕ) (k : ActionKind) (inputs : List ℕ) (u : Option ℕ) → IsReadOf j n k inputs u → AllByRecursion (CanServe j first u count kinds cells scratch levels) inputs

-- so many passes were tried over a block: what is known of it, the search so far, what the actions among them read is at hand, and the
-- selections that they take were made
pub record IsSearchedTo (j : JobView) (first count : ℕ) (plan : PlanView) (chains : List Chain) (passes : ℕ) (lanes : List LaneView) (kept : List KeptPlaces) (s : Found) : Type 0 where
  pub ready : IsReadyBelow j first count chains s.limit lanes kept
  pub searched : IsSearched (λ q n. pass_fault j (first + q) n) first count passes s
  pub read : (n : ℕ) → n < passes → IsReadBelow j first lanes s.limit n
  pub made : (n : ℕ) → n < passes → IsPassMade j count plan kept n
