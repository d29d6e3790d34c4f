use Rattle.lemmas.proofs.{common_steps, IfOk-weaker, to_z-of_z, ◌∷◌, ◌∙◌, List, sym, subst, ap, refl, arith, rules}
use Rattle.rdf_values.specs.{BinOp, InCall, InChoice, InIndex, Mark, Op, Operand, Operator, Placed, Punct}
use Rattle.expr_read.specs.{BeginsNot, Stops, stuck_at, token_of}
use Rattle.expr_read.proofs.WholeReads.{took_tighter, took_next, took_number, took_truth, took_name, took_minus_sign, took_not_sign, took_binary, took_conditional, took_pick, took_parens, took_call_none, took_call, took_last, took_more, begins_seen, scan_after, argument_first, stuck_inside, stops_postfix, stops_binary, stops_expr}
use Rattle.expr_read.proofs.parser.Parser.+parse.Goals as goal

pub args-returns-in_err-expect-clause-stuck : goal.args-returns-in_err-expect-clause-stuck
args-returns-in_err-expect-clause-stuck t c _ s =
    let nor = subst (λ (ts : List Placed). BeginsNot (Punct Mark.Close) ts) c.if-eat.ensures.0 c.in_err-expect.ensures.err.2 in
    c.in_ok-first.ensures.took.scans (InCall ∷ s) ∙ stuck_inside InCall s _ c.in_ok-first.ensures.stops nor (λ _. c.if-eat.ensures.1) ∙ ap stuck_at (sym (c.in_err-expect.ensures.err.1 ∙ c.if-eat.ensures.0))

pub expr-returns-then-not-eat-clause-took : goal.expr-returns-then-not-eat-clause-took
expr-returns-then-not-eat-clause-took t c = rw c.if-not-eat.ensures.0 (took_tighter c.in_ok-test.ensures.took)

pub expr-returns-then-not-eat-clause-stops : goal.expr-returns-then-not-eat-clause-stops
expr-returns-then-not-eat-clause-stops t c = subst (Stops 0) (sym c.if-not-eat.ensures.0) (stops_expr _ c.in_ok-test.ensures.stops c.if-not-eat.ensures.1)

pub expr-returns-in_err-expect-clause-stuck : goal.expr-returns-in_err-expect-clause-stuck
expr-returns-in_err-expect-clause-stuck t c _ s =
    c.in_ok-test.ensures.took.scans s ∙ scan_after (Operator, s) (Operand, InChoice ∷ s) c.if-not-eat.ensures refl ∙ c.in_ok-a.ensures.took.scans (InChoice ∷ s)
    ∙ stuck_inside InChoice s _ c.in_ok-a.ensures.stops c.in_err-expect.ensures.err.2 (λ e. absurd (cc e)) ∙ ap stuck_at (sym c.in_err-expect.ensures.err.1)

pub name_or_call-returns-then-not-eat-clause-took : goal.name_or_call-returns-then-not-eat-clause-took
name_or_call-returns-then-not-eat-clause-took t c old b = rw (c.in_ok-name.ensures.ok, c.if-not-eat.ensures.0) (took_name b c.if-not-eat.ensures.1)

pub name_or_call-returns-then-eat-clause-took : goal.name_or_call-returns-then-eat-clause-took
name_or_call-returns-then-eat-clause-took t c old b = rw c.in_ok-name.ensures.ok (took_call_none b c.if-not-eat.ensures c.if-eat.ensures)

pub name_or_call-returns-in_err-args-clause-stuck : goal.name_or_call-returns-in_err-args-clause-stuck
name_or_call-returns-in_err-args-clause-stuck t c = grind (arith, common_steps, argument_first)

pub name_or_call-returns-clause-took : goal.name_or_call-returns-clause-took
name_or_call-returns-clause-took t c old b =
    rw c.in_ok-name.ensures.ok (took_call b c.if-not-eat.ensures c.if-eat.ensures.1 (rw c.if-eat.ensures.0 at c.in_ok-args.ensures.took))

pub postfix-loop-self-init : goal.postfix-loop-self-init
postfix-loop-self-init t c = took_tighter c.in_ok-vector.ensures.took

pub postfix-returns-in_err-expect-clause-stuck : goal.postfix-returns-in_err-expect-clause-stuck
postfix-returns-in_err-expect-clause-stuck t c _ s =
    c.loop-self.invariant.scans s ∙ scan_after (Operator, s) (Operand, InIndex ∷ s) c.loop-self-test.ensures refl ∙ c.in_ok-index.ensures.took.scans (InIndex ∷ s)
    ∙ stuck_inside InIndex s _ c.in_ok-index.ensures.stops c.in_err-expect.ensures.err.2 (λ e. absurd (cc e)) ∙ ap stuck_at (sym c.in_err-expect.ensures.err.1)

pub postfix-returns-clause-stops : goal.postfix-returns-clause-stops
postfix-returns-clause-stops t c = subst (λ (ts : List Placed). Stops 8 ts) (sym c.loop-self-test.ensures.0) (stops_postfix 8 _ (omega arith) (omega arith) c.loop-self-test.ensures.1)

pub primary-returns-in_err-expect-in-Some-Punct-Open-clause-stuck : goal.primary-returns-in_err-expect-in-Some-Punct-Open-clause-stuck
primary-returns-in_err-expect-in-Some-Punct-Open-clause-stuck = grind (arith, begins_seen, scan_after, stuck_inside)

pub primary-returns-in-Some-Number-clause-took : goal.primary-returns-in-Some-Number-clause-took
primary-returns-in-Some-Number-clause-took = grind (arith, common_steps, to_z-of_z, took_number, begins_seen)

pub primary-returns-in-Some-Truth-clause-took : goal.primary-returns-in-Some-Truth-clause-took
primary-returns-in-Some-Truth-clause-took t c = took_truth (begins_seen (ap token_of c.in-Some-Truth.field-0-is) c.in-Some-Truth.ensures.sees c.advance-in-Some-Truth.ensures)

pub primary-returns-in_ok-expect-in-Some-Punct-Open-clause-took : goal.primary-returns-in_ok-expect-in-Some-Punct-Open-clause-took
primary-returns-in_ok-expect-in-Some-Punct-Open-clause-took = grind (arith, begins_seen, took_parens)

pub binary-loop-op-init : goal.binary-loop-op-init
binary-loop-op-init t c = record { took = took_tighter (took_next _ c.in_ok-left.ensures.took); stops = c.in_ok-left.ensures.stops }

pub binary-returns-clause-stops : goal.binary-returns-clause-stops
binary-returns-clause-stops t c =
    subst (λ (ts : List Placed). Stops c.args.level ts) (sym c.in_default.ensures.0)
    (stops_binary c.args.level _ (omega arith) (omega arith) c.loop-op.invariant.stops c.in_default.ensures.1)

pub unary-postfix-requires : goal.unary-postfix-requires
unary-postfix-requires t c =
    let same = c.if-eat.ensures.0 ∙ c.if-eat_minus.ensures.0 in
    (search rules, (subst (λ (ts : List Placed). BeginsNot (Op BinOp.Sub) ts) (sym same) c.if-eat_minus.ensures.1, subst (λ (ts : List Placed). BeginsNot (Punct Mark.Bang) ts) (sym c.if-eat.ensures.0) c.if-eat.ensures.1))

pub unary-returns-clause-took : goal.unary-returns-clause-took
unary-returns-clause-took t c =
    IfOk-weaker c.postfix.result _ _ (λ _ k. took_tighter k) (rw (c.if-eat.ensures.0 ∙ c.if-eat_minus.ensures.0) at c.postfix.ensures.took)

pub args-returns-then-eat-clause-took : goal.args-returns-then-eat-clause-took
args-returns-then-eat-clause-took t c = rw (c.in_ok-boxed.ensures.ok, c.in_ok-boxed-2.ensures.ok) (took_more c.in_ok-first.ensures.took c.if-eat.ensures c.in_ok-rest.ensures.took)

pub args-returns-clause-took : goal.args-returns-clause-took
args-returns-clause-took t c =
    rw (c.in_ok-boxed-3.ensures.ok, c.in_ok-boxed-4.ensures.ok) (took_last (rw (← c.if-eat.ensures.0) at c.in_ok-first.ensures.took) c.in_ok-expect.ensures.ok)

pub expr-returns-clause-took : goal.expr-returns-clause-took
expr-returns-clause-took = grind (arith, took_conditional)

pub postfix-loop-self-preserved : goal.postfix-loop-self-preserved
postfix-loop-self-preserved t c =
    rw (c.in_ok-boxed.ensures.ok, c.in_ok-boxed-2.ensures.ok) (took_pick c.loop-self.invariant c.loop-self-test.ensures c.in_ok-index.ensures.took c.in_ok-expect.ensures.ok)

pub binary-loop-op-preserved : goal.binary-loop-op-preserved
binary-loop-op-preserved = grind (arith, took_binary, took_next)

pub unary-returns-then-eat_minus-clause-took : goal.unary-returns-then-eat_minus-clause-took
unary-returns-then-eat_minus-clause-took t c = rw c.in_ok-boxed.ensures.ok (took_minus_sign c.if-eat_minus.ensures c.in_ok-operand.ensures.took)

pub unary-returns-then-eat-clause-took : goal.unary-returns-then-eat-clause-took
unary-returns-then-eat-clause-took t c = rw c.in_ok-boxed-2.ensures.ok (took_not_sign (rw c.if-eat_minus.ensures.0 at c.if-eat.ensures) c.in_ok-operand-2.ensures.took)
