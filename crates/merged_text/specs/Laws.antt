-- Laws of printed lines. Each is the contract of a function of this crate, and so proved.
use Rattle.std.specs.Prelude.{◌≡◌, ℕ, List, [], flat_map, if◌then◌else◌, map}
use Rattle.rdf_values.specs.{Pass, same}
use Rattle.rdf_model.specs.{Dataset, pass_lines}
use Rattle.shard_spans.specs.{pass_line}
use Rattle.merged_text.specs.MergedPrints.{lines_of_result}

-- what is printed of a loop's lines for a result is what its passes by themselves print
abbrev pub LinesPrintTheirPasses : Type 0
LinesPrintTheirPasses =
    (d : Dataset) (name : List ℕ) (ps : List Pass)
    → lines_of_result name ps (map (pass_line d) ps) ≡ flat_map (λ p. if same p.result.name name then pass_lines d p else []) ps
