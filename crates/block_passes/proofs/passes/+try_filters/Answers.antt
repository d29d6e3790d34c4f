use Rattle.lemmas.proofs.{on_ok_weaker}
use Rattle.block_passes.proofs.Selecting.{filters_tried}
use Rattle.block_passes.proofs.Serving.{leaves_then}
use Rattle.block_passes.proofs.passes.+try_filters.Goals as goal

pub returns-clause-leaves : goal.returns-clause-leaves
returns-clause-leaves g t c = leaves_then _ _ _ _ _ _ _ c.try_filter.ensures.leaves c.try_filters.ensures.leaves

pub returns-clause-tried : goal.returns-clause-tried
returns-clause-tried g t c = λ p.
    on_ok_weaker c.try_filters.result
    (filters_tried _ c.args.at.now.first c.args.at.now.count c.args.at.now.plan.now p.chains c.args.at.now.pass c.args.filters.now c.in-Some.rest.now c.in-Some.filter.now c.in-Some.ensures.cases.0 c.try_filter.new.work.lanes.items c.try_filters.new.work.lanes.items c.args.kept.now c.try_filter.new.kept c.try_filters.new.kept c.args.work.now.found c.try_filter.new.work.found c.try_filters.new.work.found
    (c.in_ok-try_filter.ensures.tried p))
    (c.try_filters.ensures.tried p)

pub returns-in_err-try_filter-clause-plain : goal.returns-in_err-try_filter-clause-plain
returns-in_err-try_filter-clause-plain g t c = λ loop. absurd (c.in_err-try_filter.ensures.plain loop)
