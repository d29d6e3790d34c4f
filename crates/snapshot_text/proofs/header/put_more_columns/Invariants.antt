use Rattle.lemmas.proofs.{◌≡◌, ◌++◌, ◌∷◌, flat_map, take}
use Rattle.snapshot_text.specs.{column_field}
use Rattle.snapshot_text.proofs.header.put_more_columns.Given as goal

abbrev pub invariant-loop-column : goal.invariant-loop-column
invariant-loop-column l = l.text ≡ l.fn.text ++ flat_map (λ c. 44 ∷ column_field c) (take l.column-index l.columns)
