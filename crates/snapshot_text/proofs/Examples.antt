-- The definitions computed: the text of a table of two columns, and of one whose first vector is empty.
use Rattle.lemmas.proofs.{◌≡◌, pos, [], ◌∷◌, refl, codes, flat_map}
use Rattle.std.specs.Fmt.{digits}
use Rattle.rdf_values.specs.{ColType, line, Value}
use Rattle.snapshot_text.specs.{table_text}

pub two_columns : table_text (record {
  columns = record { name = codes "pt"; kind = ColType.Int } ∷ record { name = codes "jets"; kind = ColType.Vect } ∷ [];
  rows = (Value.Int (pos 21) ∷ Value.Vect (pos 3 ∷ pos 4 ∷ []) ∷ []) ∷ (Value.Int (pos 36) ∷ Value.Vect [] ∷ []) ∷ (Value.Int (pos 51) ∷ Value.Vect (pos 50 ∷ []) ∷ []) ∷ [];
})
    ≡ flat_map line (codes "pt:int,jets:vec" ∷ codes "21,3;4" ∷ codes "36," ∷ codes "51,50" ∷ [])
unfolding digits
two_columns = refl

pub an_empty_vector_alone : table_text (record { columns = record { name = codes "jets"; kind = ColType.Vect } ∷ []; rows = (Value.Vect [] ∷ []) ∷ (Value.Vect (pos 50 ∷ []) ∷ []) ∷ [] }) ≡ flat_map line (codes "jets:vec" ∷ codes "\"\"" ∷ codes "50" ∷ [])
unfolding digits
an_empty_vector_alone = refl
