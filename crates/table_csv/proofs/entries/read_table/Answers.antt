use Rattle.std.proofs.lemmas.Result.{err_from_is_err_and}
use Rattle.table_csv.specs.{csv_records}
use Rattle.table_csv.proofs.TableSteps.{table_good}
use Rattle.table_csv.proofs.entries.read_table.Goals as goal

pub returns-in_err-heading-clause-value : goal.returns-in_err-heading-clause-value
returns-in_err-heading-clause-value c =
    let p = err_from_is_err_and c.from_residual.result c.from_residual.ensures.1 in
    rw (p.1, p.2) (c.in_err-heading.ensures _ c.open-reader.ensures)

pub read_entries-requires-clause-header : goal.read_entries-requires-clause-header
read_entries-requires-clause-header c = (c.in_ok-heading.ensures _ c.open-reader.ensures).header

pub read_entries-requires-clause-left : goal.read_entries-requires-clause-left
read_entries-requires-clause-left c =
    let i = c.in_ok-heading.ensures _ c.open-reader.ensures in
    (i.left, i.leaves)

pub returns-clause-value : goal.returns-clause-value
returns-clause-value c =
    let i = c.in_ok-heading.ensures _ c.open-reader.ensures in
    rw (table_good (csv_records c.args.bytes.now) _ _ _ i.first i.spells) (c.read_entries.ensures.value i.left i.leaves)
