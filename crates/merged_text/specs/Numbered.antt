-- The passes of a loop and the filters of a report by their numbers.
use Rattle.std.specs.Prelude.{◌≡◌, ℕ, Some, List, [], ◌∷◌, option_map, slice_get, unwrap_or}
use Rattle.rdf_model.specs.{FilterCounts}
use Rattle.loop_pieces.specs.{Counts}
use Rattle.graph_numbers.specs.{FilterAt, graph_loops, GraphView, Pass as NumberedPass}
use Rattle.result_text.specs.{counts_seen}

-- the label of the filter of that number
abbrev pub label_of : List FilterAt → ℕ → List ℕ
label_of filters n = unwrap_or (option_map (λ (x : FilterAt). x.label) (slice_get filters n)) []

-- the labels of filters by their numbers, each with its counts
abbrev pub filter_counts : List FilterAt → List ℕ → List Counts → List (List ℕ × FilterCounts)
filter_counts filters [] cs = []
filter_counts filters (n ∷ ns) [] = []
filter_counts filters (n ∷ ns) (c ∷ cs) = (label_of filters n, counts_seen c) ∷ filter_counts filters ns cs

-- the pass of number n in the loop of number l
pub record IsPassIn (g : GraphView) (l n : ℕ) (p : NumberedPass) : Type 0 where
  pub passes : List NumberedPass
  pub its_loop : slice_get (graph_loops g) l ≡ Some passes
  pub its_pass : slice_get passes n ≡ Some p
