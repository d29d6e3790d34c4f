use Rattle.lemmas.proofs.{inl, inr, sym, ◌∙◌}
use Rattle.chain_files.proofs.JoinedLoops.{loops_end, loops_over}
use Rattle.chain_files.proofs.joining.joined_loops.Goals as goal
use Rattle.chain_files.proofs.joining.joined_loops.Goals.{then-number-loops-via-then-number-loops, then-number-loops-via-else-number-loops+then-number-later}

pub returns-then-number-loops : goal.returns-then-number-loops
returns-then-number-loops c = loops_end c.args.loops.now c.loop-one.one-iterator.rest.items c.args.later.now c.loop-one.all _ c.loop-one.number c.loop-one.invariant
    (elim c.then-number-loops.branch [ then-number-loops-via-then-number-loops w ↦ inl w.if-number-loops.true | then-number-loops-via-else-number-loops+then-number-later w ↦ inr w.if-number-later.true ])

pub returns : goal.returns
returns c = loops_over _ c.loop-one.one-iterator.rest.items _ c.loop-one.all _ (sym c.loop-one.one-iterator.rest.ok.0 ∙ c.in-None.ensures.steps.0) c.loop-one.invariant
