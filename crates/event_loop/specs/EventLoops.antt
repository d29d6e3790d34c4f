-- What an event loop comes to.
use Rattle.std.specs.Prelude.{ℕ, List, Option, ◌≡◌, ◌<◌, Some, None, length, Bool, ◌++◌, ◌+◌, ◌≤◌, ◌^◌}
use Rattle.rdf_values.specs.{Fault, Function, history, below, first_in, among, Booked, names_of, Pass, passes_of, place, Statement}
use Rattle.rdf_model.specs.declared.loop_facts.LoopFacts.{LoopFacts}
use Rattle.columns.specs.Views.{ColumnsView}
use Rattle.graph_numbers.specs.{GraphView, graph_results, graph_variations, Pass as NumberedPass}
use Rattle.loop_keys.specs.{facts_in, job_spans, JobView, passes_in}
use Rattle.loop_pieces.specs.{cluster_faults, watched_places, PartialLine, StandsFor}
use Rattle.slot_words.specs.{AreNoted, HavePartialsOver, noted_sets}
use Rattle.event_loop.specs.declared.one_loop.FilledLoop.{FilledLoop}
use Rattle.event_loop.specs.declared.one_loop.LoopEnd.{LoopEnd}
use Rattle.event_loop.specs.declared.one_loop.LoopEnd.TheVariants.{Filled, Faulted}
use Rattle.std.specs.Option.{ForSome}
use Rattle.rdf_model.specs.{kinds_in, loop_results}
use Rattle.event_loop.specs.declared.place.PassSpan.{PassSpan}

-- ---- what a loop is to give, as plain data

-- the facts of a loop, for each cluster its first fault or none, the places of the watched passes among the action passes, and what the
-- loop works on
pub record JobFacts : Type 0 where
  pub facts : LoopFacts
  pub faults : List (Option Fault)
  pub watched : List ℕ
  pub job : JobView

-- what the loop of a job is to give
abbrev pub job_facts : JobView → JobFacts
job_facts j = record {
  facts = facts_in j;
  faults = cluster_faults j.dataset (job_spans j) (passes_in j);
  watched = watched_places (history j.script) (passes_in j);
  job = j;
}

-- the loop of that number of a graph, over columns, with functions
abbrev pub job_with : GraphView → ℕ → ColumnsView → List Function → JobView
job_with graph number columns fns = record {
  script = graph.script;
  number = number;
  dataset = record { fns = fns; columns = columns.table.columns; rows = columns.table.rows };
  cuts = columns.cuts;
}

-- the partial results are over the sets of clusters that were noted first, after every k-th one: where a result is watched, the slots
-- finished the clusters in dones, all clusters, each once, and drew the numbers in orders for them
pub record AreNotedPartials (job : JobFacts) (k : ℕ) (orders dones : List (List ℕ)) (partials : List (List PartialLine)) : Type 0 where
  pub noted : 0 < length job.watched → AreNoted orders dones (length job.facts.ranges)
  pub over : HavePartialsOver job.facts job.watched k (noted_sets orders dones (length job.facts.ranges) k) partials

-- no cluster has a fault, the piece is what all of them come to, and the partial results are those of the watched results, over what
-- the slots noted
pub record IsFilled (job : JobFacts) (k : ℕ) (filled : FilledLoop) : Type 0 where
  pub sound : first_in job.faults ≡ None
  pub stands : StandsFor job.facts (below (length job.faults)) filled.piece
  pub orders : List (List ℕ)
  pub dones : List (List ℕ)
  pub partials : AreNotedPartials job k orders dones filled.partials

-- the loop is filled, or its first fault is that of the first cluster that has one
abbrev pub HasEnded : JobFacts → ℕ → LoopEnd → Type 0
HasEnded job k (Filled filled) = IsFilled job k filled
HasEnded job k (Faulted fault) = first_in job.faults ≡ Some fault

-- ---- which loop fills a result, and where the result's passes stand in it

-- the pass is of a result of the graph, under nominal or one of its variations
pub record IsPassOf (g : GraphView) (p : NumberedPass) : Type 0 where
  pub its_result : p.result < length (graph_results g)
  pub its_variation : ForSome p.variation (λ v. v < length (graph_variations g))

-- the result of that name is among these
abbrev pub fills : List ℕ → List Booked → Bool
fills name results = among name (names_of results)

-- the loop that fills the result of that name, where one does
abbrev pub loop_filling : List Statement → List ℕ → Option ℕ
loop_filling script name = place (fills name) (loop_results script)

-- the passes of the result stand together in the loop, behind those that are counted
pub record IsPlaced (script : List Statement) (ps : List Pass) (b : Booked) (p : PassSpan) : Type 0 where
  pub before : List Pass
  pub after : List Pass
  pub passes_are : ps ≡ before ++ (passes_of script b ++ after)
  pub first : p.first ≡ length (kinds_in before)
  pub passes : p.passes ≡ length (kinds_in (passes_of script b))
  pub watched : p.watched ≡ length (watched_places script before)
  pub few : p.first + p.passes ≤ 2 ^ 32
