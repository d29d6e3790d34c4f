-- The definitions computed: the files of two spans, and what they come to together.
use Rattle.lemmas.proofs.{◌≡◌, ℕ, true, pos, negsuc, List, [], ◌∷◌, refl, Ok, Err, codes, flat_map}
use Rattle.std.specs.Fmt.{digits}
use Rattle.rdf_values.specs.{ColType, Column, line, Scalar}
use Rattle.rdf_values.specs.declared.results.EntryFault.TheVariants.{ZeroDivisor}
use Rattle.shard_lines.specs.{PassShape, ShardLine}
use Rattle.shard_files.specs.{line_text, merge_of, MergeCause, shard_text, ShardLoop, shards_joined, ShardView}
use Rattle.shard_files.specs.declared.shard_loop.ShardLoop.TheVariants.{Whole, Faulted}

abbrev columns : List Column
columns = record { name = codes "pt"; kind = ColType.Int } ∷ record { name = codes "w"; kind = ColType.Int } ∷ record { name = codes "jets"; kind = ColType.Vect } ∷ []

abbrev over : ℕ → ℕ → List ShardLoop → ShardView
over lo hi loops = record { entries = 4; clusters = 2; columns = columns; lo = lo; hi = hi; loops = loops }

-- a Take and a Sum over the first two entries, and over the others
abbrev first : ShardView
first = over 0 1 (Whole (ShardLine.Take (Scalar.Int (pos 10) ∷ Scalar.Int (pos 25) ∷ []) ∷ ShardLine.Sum (pos 3) ∷ []) ∷ [])

abbrev second : ShardView
second = over 1 2 (Whole (ShardLine.Take (Scalar.Int (pos 40) ∷ Scalar.Int (pos 5) ∷ []) ∷ ShardLine.Sum (negsuc 1) ∷ []) ∷ [])

pub the_first_file : shard_text first
    ≡ flat_map line
    (codes "rdfshard 1" ∷ codes "table 4 2" ∷ codes "column pt int" ∷ codes "column w int" ∷ codes "column jets vec" ∷ codes "span 0 1" ∷ codes "loop" ∷ codes "take 2 10 25" ∷ codes "sum 3" ∷ codes "end" ∷ [])
unfolding line_text digits
the_first_file = refl

pub the_second_file : shard_text second
    ≡ flat_map line
    (codes "rdfshard 1" ∷ codes "table 4 2" ∷ codes "column pt int" ∷ codes "column w int" ∷ codes "column jets vec" ∷ codes "span 1 2" ∷ codes "loop" ∷ codes "take 2 40 5" ∷ codes "sum -2" ∷ codes "end" ∷ [])
unfolding line_text digits
the_second_file = refl

abbrev loops : List (List PassShape)
loops = (PassShape.Take ColType.Int ∷ PassShape.Sum ∷ []) ∷ []

abbrev both : List ShardLoop
both = Whole (ShardLine.Take (Scalar.Int (pos 10) ∷ Scalar.Int (pos 25) ∷ Scalar.Int (pos 40) ∷ Scalar.Int (pos 5) ∷ []) ∷ ShardLine.Sum (pos 1) ∷ []) ∷ []

pub both_in_order : merge_of loops (first ∷ second ∷ []) ≡ Ok both
unfolding merge_of shards_joined
both_in_order = refl

pub both_in_the_other_order : merge_of loops (second ∷ first ∷ []) ≡ Ok both
unfolding merge_of shards_joined
both_in_the_other_order = refl

pub one_cluster_is_missing : merge_of loops (first ∷ []) ≡ Err (MergeCause.Cover 1)
unfolding merge_of shards_joined
one_cluster_is_missing = refl

pub one_cluster_stands_twice : merge_of loops (first ∷ second ∷ first ∷ []) ≡ Err (MergeCause.Cover 0)
unfolding merge_of shards_joined
one_cluster_stands_twice = refl

pub another_script : merge_of ((PassShape.Sum ∷ []) ∷ []) (first ∷ second ∷ []) ≡ Err (MergeCause.Shape 0)
unfolding merge_of shards_joined
another_script = refl

-- a fault of the second span
abbrev faulty : ShardView
faulty = over 1 2 (Faulted (record { entry = 3; pass = 0; kind = ZeroDivisor }) ∷ [])

pub a_faulty_file : shard_text faulty
    ≡ flat_map line
    (codes "rdfshard 1" ∷ codes "table 4 2" ∷ codes "column pt int" ∷ codes "column w int" ∷ codes "column jets vec" ∷ codes "span 1 2" ∷ codes "loop" ∷ codes "fault 3 0 2" ∷ codes "end" ∷ [])
unfolding line_text digits
a_faulty_file = refl

pub a_fault_is_the_loops : merge_of loops (first ∷ faulty ∷ []) ≡ Ok (Faulted (record { entry = 3; pass = 0; kind = ZeroDivisor }) ∷ [])
unfolding merge_of shards_joined
a_fault_is_the_loops = refl

-- truth values aren't taken from a column of numbers
abbrev truths : ShardView
truths = over 0 1 (Whole (ShardLine.Take (Scalar.Bool true ∷ []) ∷ ShardLine.Sum (pos 3) ∷ []) ∷ [])

pub values_of_another_sort : merge_of loops (truths ∷ second ∷ []) ≡ Err (MergeCause.Shape 0)
unfolding merge_of shards_joined
values_of_another_sort = refl
