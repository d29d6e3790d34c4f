use Rattle.lemmas.proofs.{subst, sym}
use Rattle.rdf_values.specs.{Cells, count}
use Rattle.friend_join.specs.{AreBelow, IsSmall}
use Rattle.friend_join.proofs.Counting.{entries_at, small_at}
use Rattle.friend_join.proofs.elements.matched_elements.Goals as goal

pub matched_column-elements-requires-clause-below : goal.matched_column-elements-requires-clause-below
matched_column-elements-requires-clause-below c =
    subst (λ (x : Cells). AreBelow (count x) c.args.matches.now) (sym c.cells-item.is) (entries_at c.args.matches.now c.args.columns.now c.loop-cells.cells-index c.cells-item.result c.requires.entries c.loop-cells-test.true)

pub matched_column-elements-requires-clause-small : goal.matched_column-elements-requires-clause-small
matched_column-elements-requires-clause-small c = subst IsSmall (sym c.cells-item.is) (small_at c.args.columns.now c.loop-cells.cells-index c.cells-item.result c.requires.small c.loop-cells-test.true)
