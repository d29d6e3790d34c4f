-- What comes of the blocks of a cluster.
use Rattle.std.specs.Prelude.{◌≡◌, ⊤, ℕ, List, None, Option, Some, Result, Ok, Err, length, slice_get, ◌≤◌, ◌<◌, ◌+◌, ◌-◌, ◌*◌, OnOk, slice_range}
use Rattle.rdf_values.specs.{Span, Value}
use Rattle.rdf_model.specs.{first_fault_from, span_rows}
use Rattle.rdf_model.specs.declared.loop_facts.LoopFacts.{LoopFacts}
use Rattle.cluster_tally.specs.{Holds, Stage, TallyView}
use Rattle.block_laws.specs.{cluster_demands, rows_demand}
use Rattle.loop_keys.specs.{facts_in, job_spans, JobView, passes_in}
use Rattle.loop_pieces.specs.{cluster_fault}
use Rattle.block_passes.specs.declared.turn.BlockStop.{BlockStop}

-- how many pairs of a site and a variation the passes demand of the entries of a cluster's blocks, up to and with the first block in which
-- one faults
abbrev pub demands_in : JobView → ℕ → ℕ → Option Span → ℕ
demands_in j size keys None = 0
demands_in j size keys (Some s) = cluster_demands j.dataset (passes_in j) size keys s.lo s.hi

abbrev pub span_demands : JobView → ℕ → ℕ → ℕ → ℕ
span_demands j size keys cluster = demands_in j size keys (slice_get (job_spans j) cluster)

-- so many entries of the cluster are taken in, and then all
abbrev pub at_entry : List ℕ → ℕ → ℕ → Stage
at_entry done cluster entries = record { done = done; cluster = cluster; entries = entries; passes = 0; filters = 0 }

abbrev pub at_end : LoopFacts → List ℕ → ℕ → Stage
at_end f done cluster = at_entry done cluster (length (span_rows f.spreads (slice_get f.ranges cluster)))

-- no pass faults in the cluster; its first fault; or want of memory
abbrev pub IsClusterAnswer : JobView → ℕ → Result (Unit {0}) BlockStop → Type 0
IsClusterAnswer j cluster (Ok u) = cluster_fault j.dataset (job_spans j) (passes_in j) cluster ≡ None
IsClusterAnswer j cluster (Err (BlockStop.Fault fault)) = cluster_fault j.dataset (job_spans j) (passes_in j) cluster ≡ Some fault
IsClusterAnswer j cluster (Err BlockStop.Memory) = ⊤

-- ---- What a block gives to a loop.

-- so many entries from one on
abbrev pub entries_from : ℕ → ℕ → Span
entries_from first count = record { lo = first; hi = first + count }

-- the rows of a block
abbrev pub block_rows : JobView → Span → List (List Value)
block_rows j b = slice_range j.dataset.rows b.lo b.hi

-- how many evaluations its entries demand
abbrev pub block_demands : JobView → Span → ℕ
block_demands j b = rows_demand j.dataset (passes_in j) (block_rows j b)

-- the block begins at that place of a cluster, has an entry, and all of it is in the cluster
pub record IsBlockOf (j : JobView) (cluster place : ℕ) (b : Span) : Type 0 where
  pub span : Span
  pub its_span : slice_get (job_spans j) cluster ≡ Some span
  pub is : b.lo ≡ span.lo + place
  pub some : b.lo < b.hi
  pub within : b.hi ≤ span.hi
  pub inside : span.hi ≤ length j.dataset.rows

-- the tally has taken in what the loop gives up to the stage, where the block comes next in the cluster
pub record IsBefore (j : JobView) (watched : List ℕ) (s : Stage) (cluster : ℕ) (b : Span) (t : TallyView) : Type 0 where
  pub holds : Holds (facts_in j) watched s t
  pub its_cluster : s.cluster ≡ cluster
  pub next : IsBlockOf j cluster s.entries b
  pub no_pass : s.passes ≡ 0
  pub no_filter : s.filters ≡ 0

-- all of the block is taken in
abbrev pub after_block : Stage → Span → Stage
after_block s b = at_entry s.done s.cluster (s.entries + (b.hi - b.lo))

-- no pass faults in the block; its first fault; or want of memory
abbrev pub IsBlockAnswer : JobView → Span → Result (Unit {0}) BlockStop → Type 0
IsBlockAnswer j b (Ok u) = first_fault_from j.dataset b.lo (block_rows j b) (passes_in j) ≡ None
IsBlockAnswer j b (Err (BlockStop.Fault f)) = first_fault_from j.dataset b.lo (block_rows j b) (passes_in j) ≡ Some f
IsBlockAnswer j b (Err BlockStop.Memory) = ⊤

-- its passes were tried: the answer, what the tally took in where no pass faults, and at most two evaluations for each pair that is
-- demanded; of the tally after a fault or want of memory nothing is said
pub record IsBlockTried (j : JobView) (cluster : ℕ) (b : Span) (before after : TallyView) (first last : ℕ) (result : Result (Unit {0}) BlockStop) : Type 0 where
  pub answer : IsBlockAnswer j b result
  pub holds : (watched : List ℕ) (s : Stage) → IsBefore j watched s cluster b before → OnOk result (Holds (facts_in j) watched (after_block s b) after)
  pub bound : last ≤ first + 2 * block_demands j b
