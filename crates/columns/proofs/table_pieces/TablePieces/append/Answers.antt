use Rattle.lemmas.proofs.{◌≡◌, ◌≤◌, ◌+◌, ◌∙◌, ap, map, refl, sym}
use Rattle.rdf_values.proofs.KeptLemmas.{length-rows_kept}
use Rattle.columns.specs.{whole}
use Rattle.columns.proofs.InPieces.{holds_joined}
use Rattle.columns.proofs.table_pieces.TablePieces.append.Goals as goal

pub invariant_of-result : goal.invariant_of-result
invariant_of-result c =
    let a = c.into_parts-first in
    let b = c.into_parts-second in
    let columns : b.result.columns ≡ a.result.columns = ap (λ t. t.columns) (sym b.ensures.same) ∙ c.requires.same ∙ ap (λ t. t.columns) a.ensures.same in
    let few : a.result.entries + b.result.entries ≤ 1000000 =
    rw (a.ensures.same, b.ensures.same, length-rows_kept a.result.entries (map whole a.result.pieces.items), length-rows_kept b.result.entries (map whole b.result.pieces.items)) at c.requires.few in
    let second = rw columns at b.ensures.holds in
    holds_joined a.result.columns (map whole a.result.pieces.items) (map whole b.result.pieces.items) _ a.result.entries b.result.entries _ a.ensures.holds second few c.in_ok-append_columns.ensures refl
