use Rattle.lemmas.proofs.{None, arith, slice_index_or, something_at}
use Rattle.graph_numbers.specs.{Pass}
use Rattle.result_text.specs.{passes_at}
use Rattle.result_text.proofs.PassLines.{pass_there}
use Rattle.merged_text.specs.{IsPassIn}
use Rattle.merged_text.proofs.LoopPasses.{same_length}
use Rattle.graph_shapes.specs.{pass_kind}
use Rattle.graph_shapes.proofs.Looped.{shapes_all, shapes_more}
use Rattle.graph_shapes.proofs.shapes.loop_shapes.Goals as goal

pub pass_shape-shape-requires : goal.pass_shape-shape-requires
pass_shape-shape-requires c =
    let none : Pass = record { result = 0; variation = None } in
    let its : IsPassIn c.args.graph.now c.args.l c.loop-i.i (slice_index_or c.passes-passes.result.now c.loop-i.i none)
    = record { passes = c.passes-passes.result.now; its_loop = c.passes-passes.ensures; its_pass = pass_there c.passes-passes.result.now c.loop-i.i none (omega (arith, c.loop-i-test.true)) } in
    (c.args.l, c.loop-i.i, its)

pub loop-i-preserved : goal.loop-i-preserved
loop-i-preserved c =
    let none : Pass = record { result = 0; variation = None } in
    let g = c.args.graph.now in
    let ps = passes_at g c.args.l in
    let here = something_at ps c.loop-i.i (omega (arith, c.loop-i-test.true, same_length g c.args.l c.passes-passes.result.now c.passes-passes.ensures)) in
    let its : IsPassIn g c.args.l c.loop-i.i (slice_index_or c.passes-passes.result.now c.loop-i.i none)
    = record { passes = c.passes-passes.result.now; its_loop = c.passes-passes.ensures; its_pass = pass_there c.passes-passes.result.now c.loop-i.i none (omega (arith, c.loop-i-test.true)) } in
    shapes_more (pass_kind g) ps c.loop-i.i here.0 c.loop-i.shapes c.push.new.self c.pass_shape-shape.result here.1 (c.pass_shape-shape.ensures c.args.l c.loop-i.i here.0 its here.1) c.in_ok-push.ensures.ok c.loop-i.invariant

pub returns : goal.returns
returns c =
    shapes_all (pass_kind c.args.graph.now) (passes_at c.args.graph.now c.args.l) c.loop-i.i c.loop-i.shapes (omega (arith, c.loop-i-test.false, same_length c.args.graph.now c.args.l c.passes-passes.result.now c.passes-passes.ensures)) c.loop-i.invariant
