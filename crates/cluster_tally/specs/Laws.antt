-- How a tally that was told nothing comes to a later stage.
use Rattle.std.specs.Prelude.{◌≡◌, ℕ, List, [], length, replicate}
use Rattle.rdf_model.specs.{IsLoopFacts}
use Rattle.rdf_model.specs.declared.loop_facts.LoopFacts.{LoopFacts}
use Rattle.loop_pieces.specs.{nothing}
use Rattle.cluster_tally.specs.Blocks.{BlockStage, HoldsIn, block_begin, block_end}
use Rattle.cluster_tally.specs.Feedings.{IsFresh}
use Rattle.cluster_tally.specs.Tallies.{Stage, at_begin, Holds, TallyView}

-- a fresh tally of all passes holds what no cluster gives
abbrev pub FreshHolds : Type 0
FreshHolds =
    (f : LoopFacts) (watched : List ℕ) (t : TallyView) (cluster : ℕ)
    → IsLoopFacts f → IsFresh f.kinds watched t → t.flow ≡ replicate f.filters nothing → Holds f watched (at_begin [] cluster) t

-- before a block a tally holds what it holds between two entries
abbrev pub BeginsBlock : Type 0
BeginsBlock =
    (f : LoopFacts) (watched : List ℕ) (s : Stage) (t : TallyView) (block : ℕ)
    → s.passes ≡ 0 → s.filters ≡ 0 → Holds f watched s t → HoldsIn f watched (block_begin s block) t

-- once all passes and filters took the block in, its entries are taken in
abbrev pub EndsBlock : Type 0
EndsBlock =
    (f : LoopFacts) (watched : List ℕ) (s : BlockStage) (t : TallyView)
    → s.passes ≡ length f.kinds → s.filters ≡ f.filters → HoldsIn f watched s t → Holds f watched (block_end s) t
