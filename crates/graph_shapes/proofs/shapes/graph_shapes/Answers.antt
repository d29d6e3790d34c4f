use Rattle.lemmas.proofs.{arith}
use Rattle.graph_shapes.proofs.Looped.{loop_more, loops_all}
use Rattle.graph_shapes.proofs.shapes.graph_shapes.Goals as goal

pub loop-number-preserved : goal.loop-number-preserved
loop-number-preserved c =
    let end = c.loop-number.invariant.1 in
    (loop_more c.args.graph.now c.loop-number.number c.loop-number.all c.push.new.self c.in_ok-shapes.shapes (omega (arith, c.loop-number-test.true)) c.in_ok-shapes.ensures c.in_ok-push.ensures.ok c.loop-number.invariant.0, end)

pub returns : goal.returns
returns c =
    let end = c.loop-number.invariant.1 in
    loops_all c.args.graph.now c.loop-number.number c.loop-number.all (omega (arith, c.loop-number-test.false)) c.loop-number.invariant.0
