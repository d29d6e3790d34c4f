use Rattle.lemmas.proofs.{◌∙◌, sym, arith}
use Rattle.std.proofs.lemmas.Bool.Decides.{nat_tests}
use Rattle.chain_files.proofs.Refused.{breaks_at_end, breaks_at_line, full, read_next, unended}
use Rattle.chain_files.proofs.reading.read_part.Goals as goal
use Rattle.chain_files.proofs.reading.read_part.Goals.{else-is_empty-via-then-is_empty+else-is_ended, else-is_empty-via-else-is_empty}

pub returns-in-None : goal.returns-in-None
returns-in-None c =
    breaks_at_line c.args.bytes.now c.loop-line.progress c.loop-line.rest.now c.in-Some.line.now c.in-Some.more.now c.loop-line.number c.loop-line.invariant c.in-Some.ensures.cases.0 c.in-Some.ensures.cases.1
    (sym c.in_ok-next.ensures ∙ c.in-None.is)

pub loop-line-preserved : goal.loop-line-preserved
loop-line-preserved c =
    read_next c.args.bytes.now c.loop-line.progress c.loop-line.rest.now c.in-Some.line.now c.in-Some.more.now c.loop-line.number c.loop-line.invariant c.in-Some.ensures.cases.0 c.in-Some-2.next (sym c.in_ok-next.ensures ∙ c.in-Some-2.is)

pub returns-else-is_empty : goal.returns-else-is_empty
returns-else-is_empty c =
    breaks_at_end c.args.bytes.now c.loop-line.progress c.loop-line.rest.now c.loop-line.number c.loop-line.invariant c.in_default.ensures.cases
    (λ e s.
    elim c.else-is_empty.branch [
      | else-is_empty-via-then-is_empty+else-is_ended w ↦ unended w.is_ended.result _ w.is_ended.ensures w.if-is_ended.false s
      | else-is_empty-via-else-is_empty w ↦ full c.loop-line.rest.now e (let no = w.if-is_empty.false in grind (arith, nat_tests))
    ])
