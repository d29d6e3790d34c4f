use Rattle.lemmas.proofs.{arith}
use Rattle.rdf_values.proofs.KeptLemmas.{kept_more, stored_at, take_next}
use Rattle.rdf_values.proofs.tables.filling.no_rows.Goals as goal

pub new-requires : goal.new-requires
new-requires = grind (arith, stored_at)

pub loop-column-preserved : goal.loop-column-preserved
loop-column-preserved c =
    let next = take_next c.args.columns.now c.loop-column.column-index c.column-item.result (omega arith) c.column-item.is in
    rw (next, c.in_ok-push.ensures.items) (kept_more _ _ _ c.column-item.result c.loop-column.invariant c.new.ensures)
