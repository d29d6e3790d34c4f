-- A tally in the midst of a block of entries: each pass and each filter takes in the whole block at once.
use Rattle.std.specs.Prelude.{◌≡◌, ◌+◌, ◌<◌, ◌≤◌, ℕ, List, Option, None, Some, ◌++◌, flat_map, length, slice_get, slice_set, take, drop}
use Rattle.rdf_values.specs.{ActionKind, feed_fault, Item}
use Rattle.rdf_model.specs.{if_there, list_at, Reach, span_rows}
use Rattle.rdf_model.specs.declared.loop_facts.LoopFacts.{LoopFacts}
use Rattle.actions.specs.{Accumulator, Batch, batch_items, EachPlace, Fed, from_cluster, HasFed, HasValues, places_of, SuitsAt, values_at}
use Rattle.loop_pieces.specs.{Counts}
use Rattle.cluster_tally.specs.Tallies.{Stage, counted, counts_by, taken_in, HoldsUpTo, TallyView}

-- the clusters that were finished, the cluster that is worked on, how many of its entries were taken in before the block, how many the
-- block has, and the action passes and the named filters before these places, which took the block in too
pub record BlockStage : Type 0 where
  pub done : List ℕ
  pub cluster : ℕ
  pub entries : ℕ
  pub block : ℕ
  pub passes : ℕ
  pub filters : ℕ

-- what was counted of named filter i up to the stage
abbrev pub counts_in : LoopFacts → BlockStage → ℕ → Counts
counts_in f s i = counts_by f s.done s.cluster (taken_in s.entries s.block s.filters i) i

-- the tally has taken in what a loop with these facts gives up to the stage
abbrev pub HoldsIn : LoopFacts → List ℕ → BlockStage → TallyView → Type 0
HoldsIn f watched s t = HoldsUpTo f watched s.done s.cluster (taken_in s.entries s.block s.passes) (taken_in s.entries s.block s.filters) t

-- before its block is taken in
abbrev pub block_begin : Stage → ℕ → BlockStage
block_begin s block = record { done = s.done; cluster = s.cluster; entries = s.entries; block = block; passes = 0; filters = 0 }

-- once it is
abbrev pub block_end : BlockStage → Stage
block_end s = record { done = s.done; cluster = s.cluster; entries = s.entries + s.block; passes = 0; filters = 0 }

-- one pass, one filter further
abbrev pub pass_done : BlockStage → BlockStage
pass_done s = record { done = s.done; cluster = s.cluster; entries = s.entries; block = s.block; passes = s.passes + 1; filters = s.filters }

abbrev pub filter_done : BlockStage → BlockStage
filter_done s = record { done = s.done; cluster = s.cluster; entries = s.entries; block = s.block; passes = s.passes; filters = s.filters + 1 }

-- its entries are there
abbrev pub IsWithin : LoopFacts → BlockStage → Type 0
IsWithin f s = s.entries + s.block ≤ length (span_rows f.spreads (slice_get f.ranges s.cluster))

-- what they feed to action pass i
abbrev pub block_items : LoopFacts → BlockStage → ℕ → List Item
block_items f s i = flat_map (λ row. list_at row i) (take s.block (drop s.entries (span_rows f.spreads (slice_get f.ranges s.cluster))))

-- what named filter i does with them
abbrev pub block_reaches : LoopFacts → BlockStage → ℕ → List Reach
block_reaches f s i = flat_map (λ row. if_there (slice_get row i)) (take s.block (drop s.entries (span_rows f.reaches (slice_get f.ranges s.cluster))))

-- ---- feeding

-- the accumulator takes in a batch of a cluster
pub record TakesIn (cluster : ℕ) (batch : Batch) (old now : Accumulator) : Type 0 where
  pub kind : now.kind ≡ old.kind
  pub entries : now.entries ≡ old.entries + length (places_of batch.places)
  pub last : now.last ≡ cluster
  pub fed : (fed : List Fed) → HasFed old fed → HasFed now (fed ++ from_cluster cluster (batch_items old.kind batch))

-- it can do so
pub record CanTakeIn (cluster : ℕ) (batch : Batch) (acc : Accumulator) : Type 0 where
  pub suits : EachPlace batch.places (SuitsAt acc.kind batch.sources)
  pub no_fault : EachPlace batch.places (λ p. feed_fault acc.kind (values_at batch.sources p) ≡ None)
  pub rising : acc.last ≤ cluster
  pub room : acc.entries + length (places_of batch.places) ≤ 1000000

-- the accumulator at the place took it in
pub record TookIn (place cluster : ℕ) (batch : Batch) (old new : List Accumulator) : Type 0 where
  pub acc : Accumulator
  pub its_place : slice_get old place ≡ Some acc
  pub now : Accumulator
  pub takes : TakesIn cluster batch acc now
  pub rest : new ≡ slice_set old place now

-- likewise, where there is one at the place
pub record TookInIfThere (place cluster : ℕ) (batch : Batch) (old new : List (Option Accumulator)) : Type 0 where
  pub none : slice_get old place ≡ Some None → new ≡ old
  pub some : (acc : Accumulator) → slice_get old place ≡ Some (Some acc) → (now : Accumulator) × TakesIn cluster batch acc now × (new ≡ slice_set old place (Some now))

-- the block feeds this batch to the next action pass, which takes it
pub record CanFeedBatch (f : LoopFacts) (watched : List ℕ) (s : BlockStage) (t : TallyView) (pass cluster : ℕ) (batch : Batch) : Type 0 where
  pub holds : HoldsIn f watched s t
  pub at_pass : s.passes ≡ pass
  pub at_cluster : s.cluster ≡ cluster
  pub within : IsWithin f s
  pub kind : ActionKind
  pub its_kind : slice_get f.kinds pass ≡ Some kind
  pub there : EachPlace batch.places (HasValues batch.sources)
  pub suits : EachPlace batch.places (SuitsAt kind batch.sources)
  pub no_fault : EachPlace batch.places (λ p. feed_fault kind (values_at batch.sources p) ≡ None)
  pub few : length (places_of batch.places) ≤ s.block
  pub fed : batch_items kind batch ≡ block_items f s pass

-- the block comes to these counts at the next named filter
pub record CanNoteCounts (f : LoopFacts) (watched : List ℕ) (s : BlockStage) (t : TallyView) (filter : ℕ) (counts : Counts) : Type 0 where
  pub holds : HoldsIn f watched s t
  pub at_filter : s.filters ≡ filter
  pub inside : filter < f.filters
  pub within : IsWithin f s
  pub come_to : counts ≡ counted (block_reaches f s filter)
