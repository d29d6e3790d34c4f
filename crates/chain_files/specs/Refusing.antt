-- Which parts can't be joined.
use Rattle.std.specs.Prelude.{ℕ, Bool, not, ◌&&◌, List, [], ◌∷◌, position, Option, None}
use Rattle.rdf_values.specs.{Column, same}
use Rattle.shard_lines.specs.{PassShape}
use Rattle.shard_files.specs.{same_columns}
use Rattle.chain_files.specs.Joining.{are_loops}
use Rattle.chain_files.specs.Parts.{PartView}

-- the part is of that script, by its digest, and has those columns
abbrev pub is_of : List ℕ → List Column → PartView → Bool
is_of script columns s = same s.script script && same_columns s.columns columns

-- the place of the first part that is of another script or has other columns than the first part
abbrev pub first_differing : List ℕ → List PartView → Option ℕ
first_differing script [] = None
first_differing script (s ∷ ss) = position (λ t. not (is_of script s.columns t)) (s ∷ ss)

-- the place of the first part without the loops of the script
abbrev pub first_misshapen : List (List PassShape) → List PartView → Option ℕ
first_misshapen loops parts = position (λ (s : PartView). not (are_loops loops s.loops)) parts
