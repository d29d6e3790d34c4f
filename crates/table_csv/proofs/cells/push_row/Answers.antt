use Rattle.lemmas.proofs.{◌≡◌, arith, inl, inr, length, refl}
use Rattle.std.proofs.lemmas.Result.{err_from_is_err_and}
use Rattle.csv.specs.Records.{fields_of}
use Rattle.rdf_values.specs.{field_count}
use Rattle.table_csv.proofs.RecordSteps.{after_mark, one_if, row_bad, row_many, row_marked, row_plain, row_short}
use Rattle.table_csv.proofs.cells.push_row.Goals as goal

pub returns-then-entry-ge-MAX_ENTRIES : goal.returns-then-entry-ge-MAX_ENTRIES
returns-then-entry-ge-MAX_ENTRIES c = inr (_, refl, row_many c.args.entry _ (fields_of c.args.fields.now) (omega arith))

pub returns-then-len-columns : goal.returns-then-len-columns
returns-then-len-columns = grind (arith, one_if, row_short)

pub returns-in_err-push_cells : goal.returns-in_err-push_cells
returns-in_err-push_cells c =
    let one = one_if c.args.marked in
    let all : length (fields_of c.args.fields.now) ≡ field_count (record { columns = c.args.columns.now; marked = c.args.marked }) = omega (arith, one, c.if-len-columns.false, c.len.ensures, c.from.ensures) in
    let p = err_from_is_err_and c.from_residual.result c.from_residual.ensures.1 in
    rw (p.1, p.2) (elim c.in_err-push_cells.ensures [
      | inl memory ↦ inl memory
      | inr bad ↦ inr (bad.0, bad.1, row_bad c.args.entry _ (fields_of c.args.fields.now) _ (omega arith) all bad.2)
    ])

pub returns-then-not-marked : goal.returns-then-not-marked
returns-then-not-marked = grind (arith, one_if, row_plain)

pub returns : goal.returns
returns c =
    let one = one_if c.args.marked in
    let all : length (fields_of c.args.fields.now) ≡ field_count (record { columns = c.args.columns.now; marked = c.args.marked }) = omega (arith, one, c.if-len-columns.false, c.len.ensures, c.from.ensures) in
    let read = c.in_ok-push_cells.ensures in
    after_mark read.row _ _ c.read_mark.result _ _
    (row_marked c.args.entry c.args.columns.now c.args.marked (fields_of c.args.fields.now) read.row _ (omega arith) all c.if-not-marked.false read.spelt refl)
    read.added
    (rw c.field.ensures at c.read_mark.ensures)
