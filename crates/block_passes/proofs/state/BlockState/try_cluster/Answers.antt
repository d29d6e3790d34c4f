use Rattle.lemmas.proofs.{arith, ◌-◌, ◌∙◌, sym}
use Rattle.block_passes.specs.{at_entry}
use Rattle.block_passes.proofs.ClusterBlocks.{answer_here, at_first, at_next, before, cost_here, ends_within, has_entry, holds_all, short}
use Rattle.block_passes.proofs.state.BlockState.try_cluster.Goals as goal

pub loop-lo-init : goal.loop-lo-init
loop-lo-init g c =
    record { at = at_first _ c.requires.job.job c.args.cluster c.args.self.now.size c.args.keys c.requires.state.least c.span_of-span.result c.span_of-span.ensures c.args.tally.now c.args.steps.now; state = c.requires.state }

pub try_block-requires-clause-before : goal.try_block-requires-clause-before
try_block-requires-clause-before g c =
    let b = c.requires.begin in (
      b.0,
      at_entry b.1 c.args.cluster (c.loop-lo.lo - c.span_of-span.result.lo),
      before _ c.requires.job.job c.args.cluster c.args.self.now.size c.args.keys c.requires.state.least c.span_of-span.result c.span_of-span.ensures c.args.tally.now c.args.steps.now c.loop-lo.lo c.loop-lo.tally c.loop-lo.steps c.loop-lo.invariant.at c.loop-lo-test.true c.block_end-hi.result (rw (c.size.ensures ∙ c.loop-lo.invariant.state.size ∙ sym c.requires.state.size) at c.block_end-hi.ensures) b.0 b.1 b.2,
    )

pub loop-lo-preserved : goal.loop-lo-preserved
loop-lo-preserved g c =
    record {
      at = at_next _ c.requires.job.job c.args.cluster c.args.self.now.size c.args.keys c.requires.state.least c.span_of-span.result c.span_of-span.ensures c.args.tally.now c.args.steps.now c.loop-lo.lo c.loop-lo.tally c.loop-lo.steps c.loop-lo.invariant.at c.loop-lo-test.true c.block_end-hi.result (rw (c.size.ensures ∙ c.loop-lo.invariant.state.size ∙ sym c.requires.state.size) at c.block_end-hi.ensures)
          c.try_block.new.tally c.try_block.new.steps (λ watched done h. c.in-Ok.ensures.tried.holds watched (at_entry done c.args.cluster (c.loop-lo.lo - c.span_of-span.result.lo)) h) c.in-Ok.ensures.tried.answer c.in-Ok.ensures.tried.bound;
      state = c.try_block.ensures.state;
    }

pub returns-in-Err-clause-answer : goal.returns-in-Err-clause-answer
returns-in-Err-clause-answer g c =
    answer_here _ c.requires.job.job c.args.cluster c.args.self.now.size c.args.keys c.requires.state.least c.span_of-span.result c.span_of-span.ensures c.args.tally.now c.args.steps.now c.loop-lo.lo c.loop-lo.tally c.loop-lo.steps c.loop-lo.invariant.at c.loop-lo-test.true c.block_end-hi.result (rw (c.size.ensures ∙ c.loop-lo.invariant.state.size ∙ sym c.requires.state.size) at c.block_end-hi.ensures) c.in-Err.stop c.in-Err.ensures.tried.answer

pub returns-in-Err-clause-bound : goal.returns-in-Err-clause-bound
returns-in-Err-clause-bound g c =
    cost_here _ c.requires.job.job c.args.cluster c.args.self.now.size c.args.keys c.requires.state.least c.span_of-span.result c.span_of-span.ensures c.args.tally.now c.args.steps.now c.loop-lo.lo c.loop-lo.tally c.loop-lo.steps c.loop-lo.invariant.at c.loop-lo-test.true c.block_end-hi.result (rw (c.size.ensures ∙ c.loop-lo.invariant.state.size ∙ sym c.requires.state.size) at c.block_end-hi.ensures) c.try_block.new.steps c.try_block.ensures.tried.bound

pub returns-clause-holds : goal.returns-clause-holds
returns-clause-holds g c = λ watched done h.
    let past = c.loop-lo-test.false in
    holds_all _ c.requires.job.job c.args.cluster c.args.self.now.size c.args.keys c.requires.state.least c.span_of-span.result c.span_of-span.ensures c.args.tally.now c.args.steps.now c.loop-lo.lo c.loop-lo.tally c.loop-lo.steps c.loop-lo.invariant.at (omega (arith, past)) watched done h

pub block_end-hi-requires-clause-within : goal.block_end-hi-requires-clause-within
block_end-hi-requires-clause-within g c = ends_within _ c.requires.job.job c.args.cluster c.args.self.now.size c.args.keys c.requires.state.least c.span_of-span.result c.span_of-span.ensures

pub try_block-requires-clause-small : goal.try_block-requires-clause-small
try_block-requires-clause-small g c =
    let s = short _ c.requires.job.job c.args.cluster c.args.self.now.size c.args.keys c.requires.state.least c.span_of-span.result c.span_of-span.ensures c.args.tally.now c.args.steps.now c.loop-lo.lo c.loop-lo.tally c.loop-lo.steps c.loop-lo.invariant.at c.loop-lo-test.true c.block_end-hi.result (rw (c.size.ensures ∙ c.loop-lo.invariant.state.size ∙ sym c.requires.state.size) at c.block_end-hi.ensures) in
    let same = c.loop-lo.invariant.state.size ∙ sym c.requires.state.size in
    omega (arith, s, same)

pub loop-lo-smaller : goal.loop-lo-smaller
loop-lo-smaller g c =
    let some = has_entry _ c.requires.job.job c.args.cluster c.args.self.now.size c.args.keys c.requires.state.least c.span_of-span.result c.span_of-span.ensures c.args.tally.now c.args.steps.now c.loop-lo.lo c.loop-lo.tally c.loop-lo.steps c.loop-lo.invariant.at c.loop-lo-test.true c.block_end-hi.result (rw (c.size.ensures ∙ c.loop-lo.invariant.state.size ∙ sym c.requires.state.size) at c.block_end-hi.ensures) in
    let lt = c.loop-lo-test.true in
    omega (arith, some, lt)
