use Rattle.lemmas.proofs.{◌∙◌, List, [], ◌∷◌, sym, subst, ap, refl}
use Rattle.rdf_values.specs.{AfterList, InLists, Mark, NextList, Placed, Punct}
use Rattle.expr_read.specs.{BeginsNot, stuck_at}
use Rattle.expr_read.proofs.WholeReads.{scan_after, lists_more, lists_done, stuck_between, stuck_next}
use Rattle.expr_read.proofs.parser.Parser.lists.Goals as goal

pub returns-in_err-expect-clause-stuck : goal.returns-in_err-expect-clause-stuck
returns-in_err-expect-clause-stuck c _ =
    let nor = subst (λ (ts : List Placed). BeginsNot (Punct Mark.CloseBrace) ts) c.if-not-eat.ensures.0 c.in_err-expect.ensures.err.2 in
    c.loop-lists.invariant.scans ∙ c.in_ok-list.ensures.took.scans (InLists ∷ []) ∙ stuck_between _ c.if-not-eat.ensures.1 nor ∙ ap stuck_at (sym (c.in_err-expect.ensures.err.1 ∙ c.if-not-eat.ensures.0))

pub returns-then-not-eat-clause-took : goal.returns-then-not-eat-clause-took
returns-then-not-eat-clause-took c = rw c.in_ok-push.ensures.ok (lists_done c.loop-lists.invariant (rw (← c.if-not-eat.ensures.0) at c.in_ok-list.ensures.took) c.in_ok-expect.ensures.ok)

pub loop-lists-preserved : goal.loop-lists-preserved
loop-lists-preserved c = rw c.in_ok-push.ensures.ok (lists_more c.loop-lists.invariant c.in_ok-list.ensures.took c.if-not-eat.ensures c.in_ok-expect-2.ensures.ok)

pub returns-in_err-expect-2-clause-stuck : goal.returns-in_err-expect-2-clause-stuck
returns-in_err-expect-2-clause-stuck c _ =
    c.loop-lists.invariant.scans ∙ c.in_ok-list.ensures.took.scans (InLists ∷ []) ∙ scan_after (AfterList, InLists ∷ []) (NextList, InLists ∷ []) c.if-not-eat.ensures refl ∙ stuck_next _ c.in_err-expect-2.ensures.err.2 ∙ ap stuck_at (sym c.in_err-expect-2.ensures.err.1)
