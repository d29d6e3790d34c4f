use Rattle.lemmas.proofs.{◌≡◌, ◌∙◌, ap, arith, false, map, subst, sym, common_steps, take_all}
use Rattle.rdf_values.specs.{Column}
use Rattle.graph.specs.{AreSets, cell_rows}
use Rattle.graph.proofs.Listing.{no_sets}
use Rattle.graph.proofs.tables.Tables.start.Goals as goal

pub returns : goal.returns
returns c names =
    let header = c.args.header.now in
    let cells : c.loop-col.versions.items ≡ cell_rows 0 header = c.loop-col.invariant ∙ ap (cell_rows 0) (take_all c.loop-col.col header (omega arith)) in
    let sets : AreSets (map (λ (x : Column). λ v. false) header) c.in_ok-vec.field-0.items = subst (AreSets _) (sym (c.in_ok-vec.ensures.items_if_clones_equal (λ y r. r))) (no_sets header c.empty.result c.empty.ensures) in
    grind (arith, common_steps)
