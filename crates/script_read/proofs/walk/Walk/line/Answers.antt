use Rattle.lemmas.proofs.{◌∙◌, ap, sym, true, false, arith, common_steps}
use Rattle.script_read.specs.{token_of}
use Rattle.script_read.proofs.Walked.{line_wanted, took_asking}
use Rattle.script_read.proofs.walk.Walk.line.Goals as goal

pub returns-in_err-name-clause-stuck : goal.returns-in_err-name-clause-stuck
returns-in_err-name-clause-stuck c h k =
    let so_far = line_wanted _ c.in-Word.first.bytes.now false k (ap token_of c.in-Word.is) c.in_ok-first.ensures.sees c.advance.ensures (sym c.is_free.ensures ∙ c.if-is_free.false) in grind (arith, common_steps)

pub returns-then-is_free-clause-stuck : goal.returns-then-is_free-clause-stuck
returns-then-is_free-clause-stuck c h k =
    line_wanted _ c.in-Word.first.bytes.now true k (ap token_of c.in-Word.is) c.in_ok-first.ensures.sees c.advance.ensures (sym c.is_free.ensures ∙ c.if-is_free.true) ∙ c.booking.ensures.stuck h k

pub returns-in_ok-name-clause-took : goal.returns-in_ok-name-clause-took
returns-in_ok-name-clause-took c =
    took_asking c.in-Word.first.bytes.now c.in_ok-name.name.bytes.now _ (ap token_of c.in-Word.is) c.in_ok-first.ensures.sees c.advance.ensures (sym c.is_free.ensures ∙ c.if-is_free.false) c.in_ok-name.ensures.took.0 c.in_ok-name.ensures.took.1 c.asked.ensures
