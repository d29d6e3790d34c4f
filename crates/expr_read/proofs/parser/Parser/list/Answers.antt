use Rattle.lemmas.proofs.{◌∙◌, List, ◌∷◌, sym, subst, ap}
use Rattle.rdf_values.specs.{InList, Mark, Placed, Punct}
use Rattle.expr_read.specs.{BeginsNot, stuck_at}
use Rattle.expr_read.proofs.WholeReads.{stuck_inside, list_more, list_done}
use Rattle.expr_read.proofs.parser.Parser.list.Goals as goal

pub returns-in_err-expect-clause-stuck : goal.returns-in_err-expect-clause-stuck
returns-in_err-expect-clause-stuck c _ s =
    let nor = subst (λ (ts : List Placed). BeginsNot (Punct Mark.CloseBrace) ts) c.if-not-eat.ensures.0 c.in_err-expect.ensures.err.2 in
    c.loop-items.invariant.scans s ∙ c.in_ok-node.ensures.took.scans (InList ∷ s) ∙ stuck_inside InList s _ c.in_ok-node.ensures.stops nor (λ _. c.if-not-eat.ensures.1)
    ∙ ap stuck_at (sym (c.in_err-expect.ensures.err.1 ∙ c.if-not-eat.ensures.0))

pub returns-then-not-eat-clause-took : goal.returns-then-not-eat-clause-took
returns-then-not-eat-clause-took c = rw c.in_ok-push.ensures.ok (list_done c.loop-items.invariant (rw (← c.if-not-eat.ensures.0) at c.in_ok-node.ensures.took) c.in_ok-expect.ensures.ok)

pub loop-items-preserved : goal.loop-items-preserved
loop-items-preserved c = rw c.in_ok-push.ensures.ok (list_more c.loop-items.invariant c.in_ok-node.ensures.took c.if-not-eat.ensures)
