-- The definitions computed: two runs over one table, the file of each, and what they merge to.
use Rattle.lemmas.proofs.{◌≡◌, true, false, pos, List, [], ◌∷◌, Ok, Err, refl, arith, codes, flat_map}
use Rattle.std.specs.Fmt.{digits}
use Rattle.rdf_values.specs.{ColType, cut, is_name, line, Scalar, Script}
use Rattle.rdf_values.specs.declared.results.EntryFault.TheVariants.{ZeroDivisor}
use Rattle.rdf_model.proofs.Analyses.{col, count, define, div, gt, num, print, script, sub, sum, table, take}
use Rattle.shard_lines.specs.{PassShape, ShardLine}
use Rattle.shard_files.specs.{line_text, merge_of, MergeCause, shard_text, ShardLoop, shards_joined, ShardView}
use Rattle.shard_files.specs.declared.shard_loop.ShardLoop.TheVariants.{Whole, Faulted}
use Rattle.shard_spans.specs.{span_shard}
use Rattle.shard_runs.specs.{IsChecked, script_shapes}
use Rattle.rdf_model.proofs.Limits.{of_elements as few_words}

-- t = df.Take("pt")
-- s = df.Sum("w")
-- Print(t)
-- Print(s)
abbrev take_and_sum : Script
take_and_sum = script (take "t" "df" "pt" ∷ sum "s" "df" "w" ∷ print "t" ∷ print "s" ∷ [])

-- n = df.Count()
-- Print(n)
-- d = df.Define("z", "1 / (pt - 5)")
-- s = d.Sum("z")
-- Print(s)
abbrev faulty : Script
faulty = script (count "n" "df" ∷ print "n" ∷ define "d" "df" "z" (div (num 1) (sub (col "pt") (num 5))) ∷ sum "s" "d" "z" ∷ print "s" ∷ [])

-- d = df.Define("z", "pt > 20")
-- t = d.Take("z")
-- Print(t)
abbrev truths : Script
truths = script (define "d" "df" "z" (gt (col "pt") (num 20)) ∷ take "t" "d" "z" ∷ print "t" ∷ [])

-- the script over the table's first two entries, and over the others
abbrev first : Script → ShardView
first s = span_shard s table (cut 4 2 []) 0 1

abbrev second : Script → ShardView
second s = span_shard s table (cut 4 2 []) 1 2

-- ---- what the laws ask for is met

pub the_analysis_is_checked : IsChecked take_and_sum table
unfolding is_name
the_analysis_is_checked = record {
  accepted = refl;
  words = (tt, (tt, (tt, (tt, tt))));
  answers = tt;
  header = record { some = omega arith; few = omega arith; distinct = (refl, tt, (refl, tt, (refl, tt, tt))) };
  named = refl;
  fit = (((tt, omega arith), ((tt, omega arith), ((omega arith, (omega arith, few_words (pos 3 ∷ pos 4 ∷ []) (omega arith, (omega arith, tt)))), tt))), (((tt, omega arith), ((tt, omega arith), ((omega arith, (omega arith, few_words [] tt)), tt))), (((tt, omega arith), ((tt, omega arith), ((omega arith, (omega arith, few_words (pos 50 ∷ []) (omega arith, tt))), tt))), (((tt, omega arith), ((tt, omega arith), ((omega arith, (omega arith, few_words (pos 1 ∷ pos 1 ∷ pos 1 ∷ []) (omega arith, (omega arith, (omega arith, tt))))), tt))), tt))));
  few = omega arith;
}

-- ---- files

pub the_first_file : shard_text (first take_and_sum)
    ≡ flat_map line
    (codes "rdfshard 1" ∷ codes "table 4 2" ∷ codes "column pt int" ∷ codes "column w int" ∷ codes "column jets vec" ∷ codes "span 0 1" ∷ codes "loop" ∷ codes "take 2 10 25" ∷ codes "sum 3" ∷ codes "end" ∷ [])
unfolding line_text digits
the_first_file = refl

pub the_second_file : shard_text (second take_and_sum)
    ≡ flat_map line
    (codes "rdfshard 1" ∷ codes "table 4 2" ∷ codes "column pt int" ∷ codes "column w int" ∷ codes "column jets vec" ∷ codes "span 1 2" ∷ codes "loop" ∷ codes "take 2 40 5" ∷ codes "sum -2" ∷ codes "end" ∷ [])
unfolding line_text digits
the_second_file = refl

-- a fault has the number that its entry has in the table
pub the_faulty_loop_is_the_last : (second faulty).loops ≡ Whole (ShardLine.Count 2 ∷ []) ∷ Faulted (record { entry = 3; pass = 0; kind = ZeroDivisor }) ∷ []
the_faulty_loop_is_the_last = refl

-- ---- merging

abbrev both : List ShardLoop
both = Whole (ShardLine.Take (Scalar.Int (pos 10) ∷ Scalar.Int (pos 25) ∷ Scalar.Int (pos 40) ∷ Scalar.Int (pos 5) ∷ []) ∷ ShardLine.Sum (pos 1) ∷ []) ∷ []

pub both_in_order : merge_of (script_shapes take_and_sum table) (first take_and_sum ∷ second take_and_sum ∷ []) ≡ Ok both
unfolding merge_of shards_joined
both_in_order = refl

pub both_in_the_other_order : merge_of (script_shapes take_and_sum table) (second take_and_sum ∷ first take_and_sum ∷ []) ≡ Ok both
unfolding merge_of shards_joined
both_in_the_other_order = refl

pub another_script_has_other_shapes : merge_of (script_shapes faulty table) (first take_and_sum ∷ second take_and_sum ∷ []) ≡ Err (MergeCause.Shape 0)
unfolding merge_of shards_joined
another_script_has_other_shapes = refl

-- a Take has the kind of a defined column
pub truths_are_taken : script_shapes truths table ≡ (PassShape.Take ColType.Bool ∷ []) ∷ []
truths_are_taken = refl

pub truths_are_merged : merge_of (script_shapes truths table) (second truths ∷ first truths ∷ []) ≡ Ok (Whole (ShardLine.Take (Scalar.Bool false ∷ Scalar.Bool true ∷ Scalar.Bool true ∷ Scalar.Bool false ∷ []) ∷ []) ∷ [])
unfolding merge_of shards_joined
truths_are_merged = refl
