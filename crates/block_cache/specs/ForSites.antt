-- What filling a site does, from the struct that says which site is wanted over which block.
use Rattle.std.specs.Prelude.{◌+◌, ℕ, List, All, slice_get, ◌≡◌, ◌⊎◌, ◌<◌, ◌≤◌, ◌*◌, Bool, true, false, not, length, take, Option, count_by}
use Rattle.rdf_values.specs.{ColType, Column, fn_names, NumTree, Value}
use Rattle.rdf_model.specs.{call_outcome, evaluate, FitsOutcome, Outcome}
use Rattle.expr_check.specs.{CallsFit, CheckedExpr}
use Rattle.graph_numbers.specs.{cell_value, GraphView, IsSiteExpr, Source}
use Rattle.loop_keys.specs.{IsReadable, job_graph, job_of, JobView, key, key_count, look_at, row_of, source_at, ArePlain, IsSiteOf, MeetsAt}
use Rattle.block_cache.specs.Blocks.{AreReady, HasColumn, HasNumbers, HasSource, cells_at, IsLaneSet, IsTelling, IsTriable}
use Rattle.block_cache.specs.Lanes.{LaneView, IsBegun, IsEvaluated}
use Rattle.block_cache.specs.declared.block.Block.{Block}
use Rattle.std.specs.List.{filter}
use Rattle.expr_lanes.specs.{EachPlace, is_in, Stopped}
use Rattle.expr_lanes.specs.declared.TheConstants.{MAX_PLACES}
use Rattle.block_cache.specs.Fills.{begun_at, begun_count, below_fault, CanFill, holds_at, is_below, IsFilledTo, IsGrownOver, IsPaidOver, IsPassedOver, IsSameAt, IsSpentOver, site_fault, found_or, IsFaultOf, IsSettledTo, IsWaiting, need_at}
use Rattle.block_cache.specs.declared.faults.PlaceFault.{PlaceFault}
use Rattle.block_cache.specs.declared.block.Wanted.{Wanted}

-- ---- what is known of a block, from the struct that carries it

module _ {V : Type 0} {D : V → Type 0} {g : _} (b : Block V D g) where
  -- its job
  abbrev pub block_job : JobView
  block_job = job_of b.at.now.job.now

  -- the graph of its job
  abbrev pub block_graph : GraphView
  block_graph = job_graph block_job

  -- the key of a site in it
  abbrev pub key_over : ℕ → ℕ
  key_over s = key block_graph s b.at.now.under

  -- the source of a version in it
  abbrev pub source_over : ℕ → Source
  source_over version = source_at block_job b.at.now.under version

  -- its table's columns
  abbrev pub columns_over : List Column
  columns_over = block_job.dataset.columns

  -- the table's value of a column at a place
  abbrev pub cell_over : ℕ → ℕ → Outcome ℕ Value
  cell_over p col = cell_value (slice_get (row_of block_job (b.at.now.entry + p)) col)

  -- the calls of a tree fit its functions
  abbrev pub CallsFitOver : NumTree → Type 0
  CallsFitOver = CallsFit (fn_names block_job.dataset.fns)

  -- a lane for each key, of as many places, and what they hold is what the sites come to
  abbrev pub AreReadyOver : List LaneView → Type 0
  AreReadyOver lanes = AreReady block_job b.at.now.entry b.count lanes

  -- the column's numbers at its entries are there
  abbrev pub HasNumbersOver : ℕ → Type 0
  HasNumbersOver col = HasColumn block_job b.at.now.entry b.count b.cells.now col

  -- the version is a column of the table, its numbers loaded, or of a site that has a lane
  pub record IsReadOver (lanes : List LaneView) (version : ℕ) : Type 0 where
    pub readable : IsReadable block_job b.at.now.under version
    pub source : HasSource block_job b.at.now.entry b.at.now.under b.count lanes b.cells.now (source_over version)

  -- and it can be read at all places at once: as numbers of the table, or in a lane without vectors
  pub record IsWholeOver (lanes : List LaneView) (version : ℕ) : Type 0 where
    pub readable : IsReadable block_job b.at.now.under version
    pub source : HasNumbers block_job b.at.now.entry b.at.now.under b.count lanes b.cells.now (source_over version)

  -- what a version comes to at a place by what the lanes hold: a version of which nothing is held is needed
  abbrev pub look_over : List LaneView → ℕ → ℕ → Outcome ℕ Value
  look_over lanes p version = look_at block_job (b.at.now.entry + p) b.at.now.under (cells_at (key_count block_graph) lanes p) version

  -- what a tree comes to so
  abbrev pub outcome_over : List LaneView → NumTree → ℕ → Outcome ℕ Value
  outcome_over lanes tree p = evaluate (look_over lanes p) (call_outcome block_job.dataset.fns) tree

  -- the columns of an expression can be read over it
  abbrev pub AreReadOver : List LaneView → CheckedExpr → Type 0
  AreReadOver lanes e = All (λ (c : ℕ × ColType). IsReadOver lanes c.0) e.kinds

  -- and come to values of their kinds at a place
  abbrev pub FitAt : List LaneView → CheckedExpr → ℕ → Type 0
  FitAt lanes e p = All (λ (c : ℕ × ColType). FitsOutcome c.1 (look_over lanes p c.0)) e.kinds

module _ {V : Type 0} {D : V → Type 0} {g : _} (w : Wanted V D g) where
  abbrev job : JobView
  job = block_job w.block.now

  abbrev first : ℕ
  first = w.block.now.at.now.entry

  abbrev under : Option ℕ
  under = w.block.now.at.now.under

  abbrev count : ℕ
  count = w.block.now.count

  -- the site's key
  abbrev pub own_key : ℕ
  own_key = key_over w.block.now w.site

  -- one evaluation of it can be tried, with so many levels of scratch
  abbrev pub CanTryFor : List LaneView → ℕ → Type 0
  CanTryFor lanes scratch = (e : CheckedExpr) → IsSiteExpr (job_graph job) w.site e → IsTriable job first under count lanes w.block.now.cells.now scratch w.site e

  -- it was evaluated at the selected places: those that are left hold its value, each other one is a stop, and what is held is right
  pub record IsTriedFor (sel left : List ℕ) (before after : List LaneView) (stops more : List Stopped) : Type 0 where
    pub at : IsLaneSet own_key before after
    pub told : ℕ → Outcome ℕ Value
    pub telling : (p : ℕ) → p < count → IsTelling job (first + p) under (cells_at (key_count (job_graph job)) (take own_key before) p) w.site (told p)
    pub evaluated : IsEvaluated told sel left at.own at.lane stops more
    pub ready : AreReady job first count after

  -- memory was wanted in the midst of that: it counts as begun at each of the places, and what was held is held as it was
  pub record IsBegunFor (sel : List ℕ) (before after : List LaneView) : Type 0 where
    pub at : IsLaneSet own_key before after
    pub begun : IsBegun sel at.own at.lane

  -- at the places all that was begun of the sites up to it holds its value
  abbrev pub IsSettledFor : List LaneView → List ℕ → Type 0
  IsSettledFor = IsSettledTo job under w.site

  -- this site gives what its evaluation meets first, in every entry
  pub record IsLeadFor (t : ℕ) : Type 0 where
    pub version : ℕ
    pub source : IsSiteOf t (source_at job under version)
    pub met : (entry : ℕ) → MeetsAt job entry under w.site version

  -- it was evaluated at the places of a group: each holds its value, has a fault that is not below the one found, or waits for a version
  pub record IsAttemptedFor (group : List ℕ) (before after : List LaneView) (needs more : List ℕ) (found : Option PlaceFault) : Type 0 where
    pub grown : (sel : List ℕ) → EachPlace group (λ p. is_in p sel ≡ true) → IsGrownOver job first under w.site sel before after
    pub ready : AreReady job first count after
    pub begun : EachPlace group (λ p. begun_at after own_key p ≡ true)
    pub same : (k p : ℕ) → (k ≡ own_key → ⊥) ⊎ (is_in p group ≡ false) → IsSameAt (key_count (job_graph job)) before after k p
    pub found_is : IsFaultOf (site_fault job first under w.site) group found
    pub waits : EachPlace group (λ p. holds_at after own_key p ≡ false → is_below found p ≡ true → IsWaiting job first under w.site after p (need_at more p))
    pub others : (p : ℕ) → is_in p group ≡ false → need_at more p ≡ need_at needs p
    pub newly : begun_count after ≡ begun_count before + count_by (λ p. not (begun_at before own_key p)) group

  -- memory was wanted while it was: it counts as begun at each of the places, which took a step each at most
  pub record IsBrokenOffFor (group : List ℕ) (before after : List LaneView) (start end : ℕ) : Type 0 where
    pub grown : (sel : List ℕ) → EachPlace group (λ p. is_in p sel ≡ true) → IsGrownOver job first under w.site sel before after
    pub newly : begun_count after ≡ begun_count before + count_by (λ p. not (begun_at before own_key p)) group
    pub few : end ≤ start + length group

  -- its filling has come so far: below the least fault yet each place holds its value, or is open and waits; and what was spent is paid
  pub record IsUnderwayFor (sel : List ℕ) (before : List LaneView) (start : ℕ) (lanes : List LaneView) (fault : Option PlaceFault) (open_places needs : List ℕ) (now : ℕ) : Type 0 where
    pub grown : IsGrownOver job first under w.site sel before lanes
    pub ready : AreReady job first count lanes
    pub inside : EachPlace sel (λ p. p < count)
    pub small : count ≤ MAX_PLACES
    pub settled : EachPlace sel (λ p. is_below fault p ≡ true → (t : ℕ) → t < w.site → begun_at lanes (key (job_graph job) t under) p ≡ true → holds_at lanes (key (job_graph job) t under) p ≡ true)
    pub fault_is : IsFaultOf (site_fault job first under w.site) sel fault
    pub begun : EachPlace sel (λ p. holds_at before own_key p ≡ false → begun_at lanes own_key p ≡ true)
    pub among : EachPlace open_places (λ p. is_in p sel ≡ true)
    pub low : EachPlace open_places (λ p. is_below fault p ≡ true)
    pub lacks : EachPlace open_places (λ p. holds_at lanes own_key p ≡ false)
    pub waits : EachPlace open_places (λ p. IsWaiting job first under w.site lanes p (need_at needs p))
    pub rest : EachPlace sel (λ p. is_below fault p ≡ true → holds_at lanes own_key p ≡ false → is_in p open_places ≡ true)
    pub few : length open_places ≤ MAX_PLACES
    pub paid : now + 2 * begun_count before + count_by (λ p. not (holds_at before own_key p)) sel ≤ start + 2 * begun_count lanes

  -- it was evaluated at the places of a group, and those are open that still lack its value below the least fault
  pub record IsResumedFor (fault : Option PlaceFault) (group was_open : List ℕ) (before after : List LaneView) (needs more now_open : List ℕ) (least : Option PlaceFault) : Type 0 where
    pub found : Option PlaceFault
    pub attempted : IsAttemptedFor group before after needs more found
    pub least_is : least ≡ found_or found fault
    pub open_is : now_open ≡ below_fault least (filter (λ p. not (holds_at after own_key p)) was_open)

  -- it can be filled, with so many levels of scratch and of those that wait
  abbrev pub CanFillFor : List ColType → ℕ → ℕ → Type 0
  CanFillFor kinds scratch levels = CanFill job first under count kinds w.block.now.cells.now scratch levels w.site

  -- what was held is held as it was, only sites that it calls for were begun, and each evaluation that was begun was made twice at most
  abbrev pub IsSpentFor : List ℕ → List LaneView → List LaneView → ℕ → ℕ → Type 0
  IsSpentFor = IsSpentOver job first under w.site

  -- the first fault among the places was found, and left are those below it, each of which holds its value
  abbrev pub IsFilledFor : List ℕ → List ℕ → List LaneView → Option PlaceFault → Type 0
  IsFilledFor = IsFilledTo job first under count w.site

  -- and where it wasn't held, its first evaluation was the last, or is paid by the sites that it lacked
  abbrev pub IsPaidFor : List ℕ → List ℕ → List LaneView → List LaneView → Option PlaceFault → ℕ → ℕ → Type 0
  IsPaidFor = IsPaidOver job first under count w.site

  -- the first fault among the places was found, and left are those below it at which the filter is true
  abbrev pub IsPassedFor : List ℕ → List ℕ → List LaneView → Option PlaceFault → Type 0
  IsPassedFor = IsPassedOver job first under count w.site

  -- the goal holds where it is one of a set of sites without vectors
  abbrev pub IfPlain : Type 0 → Type 0
  IfPlain goal = (used : ℕ → Bool) → ArePlain job used → used w.site ≡ true → goal
