use Rattle.csv.specs.Records.{fields_of}
use Rattle.table_csv.proofs.TableSteps.{one_record}
use Rattle.table_csv.proofs.pieces.is_head.Goals as goal

pub next-requires-2 : goal.next-requires-2
next-requires-2 c =
    let first = rw c.if-not-branch.false at (c.in_ok-next.ensures _ c.open-reader.ensures) in
    (first.0, first.2)

pub returns : goal.returns
returns c n =
    let first = rw c.if-not-branch.false at (c.in_ok-next.ensures _ c.open-reader.ensures) in
    one_record c.args.bytes.now (fields_of c.next.new.fields) (fields_of c.next-2.new.fields) first.0 c.in_ok-next-2.field-0 c.next-2.new.reader first.1 (c.in_ok-next-2.ensures first.0 first.2) n
