use Rattle.lemmas.proofs.{◌∙◌, sym, arith}
use Rattle.entry_fns.specs.{functions_in}
use Rattle.shard_loop.specs.{cuts_of, table_of}
use Rattle.shard_loop.proofs.Looping.{begin_loops, last_loop, loops_many, next_loop, no_loop_left}
use Rattle.shard_loop.proofs.loops.span_loops.Goals as goal

pub loop-number-init : goal.loop-number-init
loop-number-init g c = (begin_loops (cuts_of c.args.columns.now) (table_of c.args.columns.now (functions_in c.args.functions.now)) c.args.clusters.lo c.args.clusters.hi c.args.graph.now.script c.new-loops.result c.new-loops.ensures, c.loops-number-end.ensures ∙ loops_many c.args.graph.now)

pub loop_at-requires-clause-number : goal.loop_at-requires-clause-number
loop_at-requires-clause-number g c = let lt = c.loop-number-test.true in let end = c.loop-number.invariant.1 in omega (arith, loops_many c.args.graph.now)

pub returns-then-over : goal.returns-then-over
returns-then-over g c =
    let lt = c.loop-number-test.true in
    let end = c.loop-number.invariant.1 in
    last_loop (cuts_of c.args.columns.now) (table_of c.args.columns.now (functions_in c.args.functions.now)) c.args.clusters.lo c.args.clusters.hi c.args.graph.now.script c.loop-number.number c.in_ok-one.one c.loop-number.loops c.push.new.self
    (omega arith) c.in_ok-one.ensures (sym c.is_faulty-over.ensures ∙ c.if-over.true) c.in_ok-push.ensures.ok c.loop-number.invariant.0

pub loop-number-preserved : goal.loop-number-preserved
loop-number-preserved g c =
    let lt = c.loop-number-test.true in
    let end = c.loop-number.invariant.1 in (
      next_loop (cuts_of c.args.columns.now) (table_of c.args.columns.now (functions_in c.args.functions.now)) c.args.clusters.lo c.args.clusters.hi c.args.graph.now.script c.loop-number.number c.in_ok-one.one c.loop-number.loops c.push.new.self
          (omega arith) c.in_ok-one.ensures (sym c.is_faulty-over.ensures ∙ c.if-over.false) c.in_ok-push.ensures.ok c.loop-number.invariant.0,
      end,
    )

pub returns : goal.returns
returns g c =
    let past = c.loop-number-test.false in
    let end = c.loop-number.invariant.1 in
    no_loop_left (cuts_of c.args.columns.now) (table_of c.args.columns.now (functions_in c.args.functions.now)) c.args.clusters.lo c.args.clusters.hi c.args.graph.now.script c.loop-number.number c.loop-number.loops (omega arith) c.loop-number.invariant.0
