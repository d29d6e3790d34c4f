use Rattle.lemmas.proofs.{◌≡◌, ◌++◌, ◌∷◌, flat_map, take}
use Rattle.rdf_values.specs.{value_of}
use Rattle.snapshot_text.specs.{cell_field}
use Rattle.snapshot_text.proofs.entry.put_more_cells.Given as goal

abbrev pub invariant-loop-cell : goal.invariant-loop-cell
invariant-loop-cell l = l.text ≡ l.fn.text ++ flat_map (λ c. 44 ∷ cell_field (value_of c)) (take l.cell-index l.cells)
