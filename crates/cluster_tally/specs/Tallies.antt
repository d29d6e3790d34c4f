-- What a tally holds.
use Rattle.std.specs.Prelude.{◌+◌, ℕ, List, ◌++◌, count_by, flat_map, if◌then◌else◌, nat_lt, slice_get, take, ◌≡◌, ◌≤◌, ◌<◌, ⊤, [], ◌∷◌, All, Option, None, Some, length, map}
use Rattle.rdf_values.specs.{Item, ActionKind, below}
use Rattle.rdf_model.specs.{if_there, is_passed, is_reached, list_at, Reach, span_rows, IsLoopFacts}
use Rattle.rdf_model.specs.declared.loop_facts.LoopFacts.{LoopFacts}
use Rattle.actions.specs.{Fed, from_cluster, Accumulator, HasFed}
use Rattle.loop_pieces.specs.{both, Counts, counts_at, fed_over, entries_over, HaveTrails, WatchPiece}
use Rattle.std.specs.List.Sorted.{IsStrictlyIncreasing}
use Rattle.merge_core.specs.{Noted}

-- ---- how far a slot has come in a loop, and what its clusters and entries so far feed and reach

-- the clusters that were finished, the cluster that is worked on, how many of its entries are taken in, and of the next one the
-- action passes and the named filters before these places
pub record Stage : Type 0 where
  pub done : List ℕ
  pub cluster : ℕ
  pub entries : ℕ
  pub passes : ℕ
  pub filters : ℕ

-- how many entries of the cluster are taken in at a place
abbrev pub taken_in : ℕ → ℕ → ℕ → ℕ → ℕ
taken_in before block limit place = if nat_lt place limit then before + block else before

-- the items that the first n entries of a cluster feed to action pass i
abbrev pub first_items : LoopFacts → ℕ → ℕ → ℕ → List Item
first_items f c n i = flat_map (λ row. list_at row i) (take n (span_rows f.spreads (slice_get f.ranges c)))

-- what named filter i does with the first n entries of a cluster
abbrev pub first_reaches : LoopFacts → ℕ → ℕ → ℕ → List Reach
first_reaches f c n i = flat_map (λ row. if_there (slice_get row i)) (take n (span_rows f.reaches (slice_get f.ranges c)))

-- the counts of what a filter did
abbrev pub counted : List Reach → Counts
counted rs = record { all = count_by is_reached rs; pass = count_by is_passed rs }

-- what action pass i was fed by clusters and by the first n entries of another
abbrev pub fed_by : LoopFacts → List ℕ → ℕ → ℕ → ℕ → List Fed
fed_by f done c n i = fed_over f done i ++ from_cluster c (first_items f c n i)

-- what was counted of named filter i over them
abbrev pub counts_by : LoopFacts → List ℕ → ℕ → ℕ → ℕ → Counts
counts_by f done c n i = both (counts_at f done i) (counted (first_reaches f c n i))

-- the beginning of a cluster
abbrev pub at_begin : List ℕ → ℕ → Stage
at_begin done cluster = record { done = done; cluster = cluster; entries = 0; passes = 0; filters = 0 }

-- the accumulator of each action pass, for each that is watched one of the current cluster alone, the counts of the named filters, and the trails
pub record TallyView : Type 0 where
  pub accs : List Accumulator
  pub watched : List (Option Accumulator)
  pub flow : List Counts
  pub trails : List (List (Noted WatchPiece))

-- an action whose result can be watched
abbrev pub CanWatch : ActionKind → Type 0
CanWatch ActionKind.Count = ⊤
CanWatch (ActionKind.Sum c) = ⊤
CanWatch (ActionKind.Min c) = ⊤
CanWatch (ActionKind.Max c) = ⊤
CanWatch k = ⊥

-- a watcher's accumulator is of its kind, which can be watched
pub record IsWatcher (k : ActionKind) (acc : Accumulator) : Type 0 where
  pub its_kind : acc.kind ≡ k
  pub watch : CanWatch k

-- an accumulator of an action pass, which was fed what clusters and the first n entries of another feed to the pass
pub record IsFedBy (f : LoopFacts) (done : List ℕ) (cluster n i : ℕ) (acc : Accumulator) : Type 0 where
  pub fed : HasFed acc (fed_by f done cluster n i)
  pub few : acc.entries ≤ entries_over f done + n
  pub last : acc.last ≤ cluster

-- that of a watched pass, which was fed what the current cluster feeds alone
pub record IsFedAlone (f : LoopFacts) (cluster n i : ℕ) (acc : Accumulator) : Type 0 where
  pub kind : slice_get f.kinds i ≡ Some acc.kind
  pub watch : CanWatch acc.kind
  pub held : IsFedBy f [] cluster n i acc

-- the places at which there is an accumulator, numbered from n on
abbrev pub places_there : ℕ → List (Option Accumulator) → List ℕ
places_there n [] = []
places_there n (None ∷ accs) = places_there (n + 1) accs
places_there n (Some acc ∷ accs) = n ∷ places_there (n + 1) accs

-- the tally has taken in what a loop with these facts gives by the clusters that are done, and by as many first entries of another as
-- each action pass was fed and each named filter was told
pub record HoldsUpTo (f : LoopFacts) (watched done : List ℕ) (cluster : ℕ) (fed told : ℕ → ℕ) (t : TallyView) : Type 0 where
  pub facts : IsLoopFacts f
  pub rises : IsStrictlyIncreasing done
  pub above : All (λ c. c < cluster) done
  pub kinds : map (λ (acc : Accumulator). acc.kind) t.accs ≡ f.kinds
  pub accs : (i : ℕ) (acc : Accumulator) → slice_get t.accs i ≡ Some acc → IsFedBy f done cluster (fed i) i acc
  pub flow : t.flow ≡ map (λ i. counts_by f done cluster (told i) i) (below f.filters)
  pub many : length t.watched ≡ length t.accs
  pub places : places_there 0 t.watched ≡ watched
  pub alone : (i : ℕ) (acc : Accumulator) → slice_get t.watched i ≡ Some (Some acc) → IsFedAlone f cluster (fed i) i acc
  pub trails : HaveTrails f watched done t.trails

-- up to the stage
abbrev pub Holds : LoopFacts → List ℕ → Stage → TallyView → Type 0
Holds f watched s t = HoldsUpTo f watched s.done s.cluster (taken_in s.entries 1 s.passes) (taken_in s.entries 1 s.filters) t
