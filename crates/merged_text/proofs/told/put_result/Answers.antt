use Rattle.lemmas.proofs.{None, arith, inl, inr, length, refl, slice_index_or, slice_get_read, something_at}
use Rattle.graph_numbers.specs.{Pass}
use Rattle.result_text.specs.{passes_at}
use Rattle.result_text.proofs.PassLines.{pass_there}
use Rattle.merged_text.specs.{IsPassIn}
use Rattle.merged_text.proofs.LoopPasses.{same_length}
use Rattle.merged_text.proofs.Printing.{line_end, line_next}
use Rattle.merged_text.proofs.told.put_result.Goals as goal

pub put_named-requires : goal.put_named-requires
put_named-requires c =
    let none : Pass = record { result = 0; variation = None } in
    let its : IsPassIn c.args.graph.now c.args.l c.loop-i.i (slice_index_or c.passes-passes.result.now c.loop-i.i none)
    = record { passes = c.passes-passes.result.now; its_loop = c.passes-passes.ensures; its_pass = pass_there c.passes-passes.result.now c.loop-i.i none c.if-i-passes.false } in
    record { its_pass = (c.args.l, c.loop-i.i, its) }

pub loop-i-preserved : goal.loop-i-preserved
loop-i-preserved c =
    let none : Pass = record { result = 0; variation = None } in
    let ps = passes_at c.args.graph.now c.args.l in
    let lt = c.if-i-passes.false in
    let here = something_at ps c.loop-i.i (omega (arith, same_length c.args.graph.now c.args.l c.passes-passes.result.now c.passes-passes.ensures)) in
    let its : IsPassIn c.args.graph.now c.args.l c.loop-i.i (slice_index_or c.passes-passes.result.now c.loop-i.i none)
    = record { passes = c.passes-passes.result.now; its_loop = c.passes-passes.ensures; its_pass = pass_there c.passes-passes.result.now c.loop-i.i none c.if-i-passes.false } in
    line_next c.loop-i.text c.put_named.new.text _ c.args.name.now c.loop-i.i ps c.args.lines.now here.0 c.index-lines-i.result here.1 (slice_get_read c.args.lines.now (length c.args.lines.now) c.loop-i.i c.index-lines-i.result refl c.loop-i-test.true c.index-lines-i.is) c.loop-i.invariant (c.in_ok-put_named.ensures c.args.l c.loop-i.i here.0 its here.1)

pub returns-then-i-passes : goal.returns-then-i-passes
returns-then-i-passes c =
    let past = c.if-i-passes.true in
    line_end c.loop-i.text _ c.args.name.now c.loop-i.i (passes_at c.args.graph.now c.args.l) c.args.lines.now (inl (omega (arith, same_length c.args.graph.now c.args.l c.passes-passes.result.now c.passes-passes.ensures))) c.loop-i.invariant

pub returns : goal.returns
returns c =
    let past = c.loop-i-test.false in
    line_end c.loop-i.text _ c.args.name.now c.loop-i.i (passes_at c.args.graph.now c.args.l) c.args.lines.now (inr (omega arith)) c.loop-i.invariant
