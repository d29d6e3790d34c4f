use Rattle.lemmas.proofs.{◌∙◌, sym, arith}
use Rattle.entry_fns.specs.{functions_in}
use Rattle.shard_loop.specs.{table_of}
use Rattle.shard_loop.proofs.Looping.{loops_many}
use Rattle.chain_runs.specs.{alone}
use Rattle.chain_loop.proofs.Looping.{begin_loops, last_loop, next_loop, no_loop_left}
use Rattle.chain_loop.proofs.loops.table_loops.Goals as goal

pub loop-number-init : goal.loop-number-init
loop-number-init g c = (
  begin_loops (alone (table_of c.args.table.now.columns.now (functions_in c.args.table.now.functions.now))) c.args.table.now.file c.args.table.now.graph.now.script c.new-loops.result c.new-loops.ensures,
  c.loops-number-end.ensures ∙ loops_many c.args.table.now.graph.now,
)

pub table_loop-requires-clause-number : goal.table_loop-requires-clause-number
table_loop-requires-clause-number g c = let lt = c.loop-number-test.true in let end = c.loop-number.invariant.1 in omega (arith, loops_many c.args.table.now.graph.now)

pub returns-then-over : goal.returns-then-over
returns-then-over g c =
    let lt = c.loop-number-test.true in
    let end = c.loop-number.invariant.1 in
    last_loop (alone (table_of c.args.table.now.columns.now (functions_in c.args.table.now.functions.now))) c.args.table.now.file c.args.table.now.graph.now.script c.loop-number.number c.in_ok-one.one c.loop-number.loops c.push.new.self
    (omega arith) c.in_ok-one.ensures (sym c.is_faulty-over.ensures ∙ c.if-over.true) c.in_ok-push.ensures.ok c.loop-number.invariant.0

pub loop-number-preserved : goal.loop-number-preserved
loop-number-preserved g c =
    let lt = c.loop-number-test.true in
    let end = c.loop-number.invariant.1 in (
      next_loop (alone (table_of c.args.table.now.columns.now (functions_in c.args.table.now.functions.now))) c.args.table.now.file c.args.table.now.graph.now.script c.loop-number.number c.in_ok-one.one c.loop-number.loops c.push.new.self
          (omega arith) c.in_ok-one.ensures (sym c.is_faulty-over.ensures ∙ c.if-over.false) c.in_ok-push.ensures.ok c.loop-number.invariant.0,
      end,
    )

pub returns : goal.returns
returns g c =
    let past = c.loop-number-test.false in
    let end = c.loop-number.invariant.1 in
    no_loop_left (alone (table_of c.args.table.now.columns.now (functions_in c.args.table.now.functions.now))) c.args.table.now.file c.args.table.now.graph.now.script c.loop-number.number c.loop-number.loops (omega arith) c.loop-number.invariant.0
