use Rattle.lemmas.proofs.{◌<◌, ◌∙◌, [], ◌∷◌, arith, sym, length, length-append}
use Rattle.csv.specs.Records.{fields_of}
use Rattle.table_csv.proofs.TableSteps.{NoCut, header_more}
use Rattle.table_csv.proofs.header.read_header.Goals as goal
use Rattle.table_csv.proofs.header.read_header.Goals.{else-i-len-via-then-i-len+in_ok-is_cut+else-branch, else-i-len-via-else-i-len}

pub loop-i-preserved : goal.loop-i-preserved
loop-i-preserved c =
    let no : NoCut c.loop-i.columns (fields_of c.args.header.now) c.loop-i.i = elim c.else-i-len.branch [
      | else-i-len-via-then-i-len+in_ok-is_cut+else-branch w ↦ λ _. rw (← w.as_slice.ensures, ← c.field-text.ensures) (sym w.in_ok-is_cut.ensures ∙ w.if-branch.false)
      | else-i-len-via-else-i-len w ↦ λ q. absurd (omega (arith, q, w.if-i-len.false, c.len.ensures))
    ] in
    let there : c.loop-i.i < length (fields_of c.args.header.now) = omega (arith, c.loop-i-test.true, c.len-i-end.ensures) in
    let some = rw (c.as_slice-in-loop-i.ensures, c.field-text.ensures) at (sym c.in_ok-column.ensures.value ∙ c.in-Some.is) in
    let room = rw (c.as_slice-in-loop-i.ensures, c.in-Some.is) at c.in_ok-column.ensures.room in
    rw c.in_ok-push.ensures.ok (
      c.loop-i.invariant.0 ∙ header_more c.loop-i.columns (fields_of c.args.header.now) c.loop-i.i c.in-Some.column there no some,
      omega (arith, c.loop-i.invariant.1, length-append c.loop-i.columns (c.in-Some.column ∷ [])),
      omega (arith, c.loop-i.invariant.1, room),
    )
