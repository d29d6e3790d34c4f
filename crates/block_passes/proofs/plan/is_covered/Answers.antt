use Rattle.lemmas.proofs.{None, false, true, ◌∙◌, get_or}
use Rattle.loop_keys.specs.{job_of}
use Rattle.loop_keys.proofs.ActionLaws.{cover_found, cover_none, covering_is, result_below}
use Rattle.block_passes.proofs.PlanSteps.{covered_is}
use Rattle.block_passes.proofs.plan.is_covered.Goals as goal

pub covered-requires : goal.covered-requires
covered-requires g c = result_below (job_of c.args.job.now) c.loop_passes-passes.result.now c.loop_passes-passes.ensures.passes c.args.filter c.args.job.now.graph.now c.requires.job.graph c.loop-pass.pass-index (record { result = 0; variation = None }) c.loop-pass-test.true

pub returns-then-is_among : goal.returns-then-is_among
returns-then-is_among g c =
    covered_is (job_of c.args.job.now) c.requires.job.job c.args.filter c.requires.filter true
    (cover_found (job_of c.args.job.now) c.loop_passes-passes.result.now c.loop_passes-passes.ensures.passes c.args.filter c.loop-pass.pass-index (record { result = 0; variation = None }) c.loop-pass-test.true
    (covering_is (job_of c.args.job.now) c.args.job.now.graph.now c.requires.job.graph c.args.filter (get_or c.loop_passes-passes.result.now c.loop-pass.pass-index (record { result = 0; variation = None })) c.covered.result.now c.covered.ensures c.is_among.result c.is_among.ensures ∙ c.if-is_among.true))

pub returns : goal.returns
returns g c =
    covered_is (job_of c.args.job.now) c.requires.job.job c.args.filter c.requires.filter false
    (cover_none (job_of c.args.job.now) c.loop_passes-passes.result.now c.loop_passes-passes.ensures.passes c.args.filter c.loop-pass.pass-index c.loop-pass-test.false c.loop-pass.invariant)
