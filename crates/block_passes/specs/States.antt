-- What a slot of a loop reserves for its blocks.
use Rattle.std.specs.Prelude.{◌≡◌, ◌<◌, ◌≤◌, ℕ, ℤ, List, All, Option, None, Some, count_by, length, slice_get}
use Rattle.rdf_values.specs.{ColType, kind_at}
use Rattle.expr_check.specs.{CheckedExpr, is_vector}
use Rattle.expr_lanes.specs.{depth}
use Rattle.expr_lanes.specs.declared.TheConstants.{MAX_PLACES}
use Rattle.block_cache.specs.{AreUnknown, HasColumn, HaveRoom, kinds_of, LaneView, size_for}
use Rattle.graph_numbers.specs.{graph_sites, GraphView, IsSiteExpr, SiteAt}
use Rattle.loop_keys.specs.{AreKeys, job_graph, JobView, key, key_count, Row}
use Rattle.block_passes.specs.Plans.{IsPlan, PlanView}
use Rattle.block_passes.specs.Tries.{CanSelect, IsReadyBelow, CanServeAll}
use Rattle.block_passes.specs.declared.turn.Found.{Found}
use Rattle.block_passes.specs.declared.turn.KeptPlaces.{KeptPlaces}

-- how many places a block has at most; the plan; where what is read stands; the numbers of the table's columns; what is known of each key;
-- how many levels there are for evaluations and for sites within one another; the search; and the selection of each step
pub record StateView : Type 0 where
  pub size : ℕ
  pub plan : PlanView
  pub rows : List Row
  pub cells : List (List ℤ)
  pub lanes : List LaneView
  pub scratch : ℕ
  pub levels : ℕ
  pub found : Found
  pub kept : List KeptPlaces

-- so many levels are enough for each site's expression
abbrev pub AreDeepEnough : GraphView → ℕ → Type 0
AreDeepEnough g levels = (t : ℕ) (x : SiteAt) → slice_get (graph_sites g) t ≡ Some x → depth x.tree ≤ levels

-- each has room for so many entries
abbrev pub HaveCells : ℕ → List (List ℤ) → Type 0
HaveCells size cells = All (λ numbers. length numbers ≡ size) cells

-- the keys of the first so many sites have the kinds of their expressions, under nominal and each variation
abbrev pub HaveKinds : GraphView → ℕ → List ColType → Type 0
HaveKinds g sites kinds = (t : ℕ) (w : Option ℕ) → t < sites → (e : CheckedExpr) × IsSiteExpr g t e × (slice_get kinds (key g t w) ≡ Some e.kind)

-- so many keys have vectors for values
pub record CountsVectors (g : GraphView) (vectors : ℕ) : Type 0 where
  pub kinds : List ColType
  pub many : length kinds ≡ key_count g
  pub have : HaveKinds g (length (graph_sites g)) kinds
  pub count : vectors ≡ count_by is_vector kinds

-- a slot has what the blocks of a loop take: the loop's plan, a lane for each key, of its site's kind, a list of numbers for each column,
-- levels enough for each site, and a selection for each step
pub record IsStateOf (j : JobView) (s : StateView) : Type 0 where
  pub size : s.size ≡ size_for (key_count (job_graph j))
  pub least : 1 ≤ s.size
  pub most : s.size ≤ MAX_PLACES
  pub plan : IsPlan j s.plan
  pub rows : AreKeys (job_graph j) s.rows
  pub cells : length s.cells ≡ length j.dataset.columns
  pub cell_room : HaveCells s.size s.cells
  pub lanes : length s.lanes ≡ key_count (job_graph j)
  pub kinds : HaveKinds (job_graph j) (length (graph_sites (job_graph j))) (kinds_of s.lanes)
  pub lane_room : HaveRoom s.size s.lanes
  pub scratch : AreDeepEnough (job_graph j) s.scratch
  pub levels : s.levels ≡ length (graph_sites (job_graph j))
  pub kept : length s.kept ≡ length s.plan.steps

-- the numbers of each column of numbers are there
abbrev pub AreLoaded : JobView → ℕ → ℕ → List (List ℤ) → Type 0
AreLoaded j first count cells = (col : ℕ) → kind_at j.dataset.columns col ≡ Some ColType.Int → HasColumn j first count cells col

-- a block of so many entries was begun at an entry: nothing is known of it, no selection was made, its filters can be tried, and all that
-- the actions read can be served
pub record IsBegunBlock (j : JobView) (first count : ℕ) (s : StateView) : Type 0 where
  pub found : s.found ≡ record { limit = count; best = None }
  pub unknown : AreUnknown count s.lanes
  pub ready : (p : IsPlan j s.plan) → IsReadyBelow j first count p.chains count s.lanes s.kept
  pub select : CanSelect j first count s.plan (kinds_of s.lanes) s.cells s.scratch s.levels
  pub serve : CanServeAll j first count (kinds_of s.lanes) s.cells s.scratch s.levels
