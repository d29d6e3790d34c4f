use Rattle.lemmas.proofs.{inl, inr, sym, ◌∙◌}
use Rattle.columns.proofs.Clusters.{walk_begin, walk_on}
use Rattle.columns.proofs.marked.ends.Goals as goal
use Rattle.columns.proofs.marked.ends.Goals.{then-is_marked+in_ok-push, then-is_marked-via-then-is_marked, then-is_marked-via-else-is_marked+then-entry-lo, else-is_marked+else-entry-lo}

pub loop-entry-preserved : goal.loop-entry-preserved
loop-entry-preserved c =
    elim c.if-is_marked.branch [
      | then-is_marked+in_ok-push w ↦ rw (w.ends-is, w.lo-is, w.in_ok-push.ensures.ok) (elim w.then-is_marked.branch [
        | then-is_marked-via-then-is_marked m ↦ walk_begin c.args.entries c.args.size c.args.marks.now c.loop-entry.ends c.loop-entry.lo c.loop-entry.entry c.loop-entry.next c.passed-next.result
            c.loop-entry.invariant c.loop-entry-test.true c.passed-next.ensures.passed c.passed-next.ensures.ahead (inl (sym c.is_marked.ensures ∙ m.if-is_marked.true))
        | then-is_marked-via-else-is_marked+then-entry-lo m ↦ walk_begin c.args.entries c.args.size c.args.marks.now c.loop-entry.ends c.loop-entry.lo c.loop-entry.entry c.loop-entry.next c.passed-next.result
            c.loop-entry.invariant c.loop-entry-test.true c.passed-next.ensures.passed c.passed-next.ensures.ahead (inr m.if-entry-lo.true)
      ])
      | else-is_marked+else-entry-lo w ↦ rw (w.ends-is, w.lo-is) (walk_on c.args.entries c.args.size c.args.marks.now c.loop-entry.ends c.loop-entry.lo c.loop-entry.entry c.loop-entry.next c.passed-next.result
          c.loop-entry.invariant c.loop-entry-test.true c.passed-next.ensures.passed c.passed-next.ensures.ahead (sym c.is_marked.ensures ∙ w.if-is_marked.false) w.if-entry-lo.false)
    ]
