use Rattle.lemmas.proofs.{inr, refl}
use Rattle.csv.specs.Records.{fields_of}
use Rattle.table_csv.proofs.TableSteps.{headed, table_none}
use Rattle.table_csv.proofs.entries.read_heading.Goals as goal

pub returns-then-not-branch : goal.returns-then-not-branch
returns-then-not-branch c left h =
    let none = rw c.if-not-branch.true at (c.in_ok-next.ensures left h) in
    inr (_, refl, table_none left none)

pub returns : goal.returns
returns c left h =
    let first = rw c.if-not-branch.false at (c.in_ok-next.ensures left h) in
    headed c.read_header.result left (fields_of c.next.new.fields) first.0 c.next.new.reader first.1 first.2 first.3 c.read_header.ensures.value
