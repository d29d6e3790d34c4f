use Rattle.lemmas.proofs.{refl}
use Rattle.std.proofs.lemmas.Result.{on_err_weaker, on_ok_weaker}
use Rattle.loop_keys.specs.{job_of}
use Rattle.loop_keys.proofs.ActionLaws.{plain_expr}
use Rattle.block_cache.proofs.OverLaws.{begun_over, fits_over, own_at, reads_over, tried_over}
use Rattle.block_cache.proofs.attempt.try_first.Goals as goal

pub try_own-requires-clause-kind : goal.try_own-requires-clause-kind
try_own-requires-clause-kind g c = (c.requires.can _ c.expression.ensures).kind _ (own_at c.args.wanted.now c.args.below.now c.args.others.now c.requires.own c.requires.ready _)

pub try_own-requires-clause-can : goal.try_own-requires-clause-can
try_own-requires-clause-can g c =
    reads_over c.args.wanted.now c.args.below.now c.args.others.now c.requires.own c.requires.ready c.index-others-0-2.result _ c.expression.ensures (c.requires.can _ c.expression.ensures).sources

pub try_own-requires-clause-fit : goal.try_own-requires-clause-fit
try_own-requires-clause-fit g c = fits_over c.args.wanted.now c.args.below.now c.args.others.now c.requires.own c.requires.ready c.index-others-0-2.result _ c.expression.ensures

pub try_own-requires-clause-unknown : goal.try_own-requires-clause-unknown
try_own-requires-clause-unknown g c = c.requires.unknown _ (own_at c.args.wanted.now c.args.below.now c.args.others.now c.requires.own c.requires.ready _)

pub returns-clause-tried : goal.returns-clause-tried
returns-clause-tried g c =
    let unknown = c.requires.unknown _ (own_at c.args.wanted.now c.args.below.now c.args.others.now c.requires.own c.requires.ready c.index-others-0-2.result) in
    on_ok_weaker c.try_own.result
    (λ ev. tried_over c.args.wanted.now c.args.below.now c.args.others.now c.requires.own c.requires.ready _ _ c.expression.ensures _ _ _ _ _ ev unknown _ refl)
    c.try_own.ensures.evaluated

pub returns-clause-begun : goal.returns-clause-begun
returns-clause-begun g c = on_err_weaker c.try_own.result (λ b. begun_over c.args.wanted.now c.args.below.now c.args.others.now c.requires.own c.requires.ready _ _ _ _ b refl) c.try_own.ensures.begun

pub returns-clause-plain : goal.returns-clause-plain
returns-clause-plain g c = λ used p q. c.try_own.ensures.plain (plain_expr (job_of c.args.wanted.now.block.now.at.now.job.now) used c.args.wanted.now.site c.expression.result.now p q c.expression.ensures)
