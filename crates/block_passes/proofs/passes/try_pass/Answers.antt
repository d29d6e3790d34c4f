use Rattle.lemmas.proofs.{◌∙◌, ap, option_map, slice_get, sym, on_ok_weaker}
use Rattle.graph_numbers.specs.{graph_results, GraphView, ResultAt}
use Rattle.loop_keys.proofs.PassNumbers.{own_covers}
use Rattle.block_passes.proofs.Selecting.{report_tried}
use Rattle.block_passes.proofs.passes.try_pass.Goals as goal

pub returns-in-None-clause-tried : goal.returns-in-None-clause-tried
returns-in-None-clause-tried g c = λ p.
    let rep = c.action_read.ensures.report c.in-None.is in
    let covers = own_covers _ c.args.at.now.pass c.args.own.result rep c.covered.result.now
    (ap (λ (v : GraphView). option_map (λ (x : ResultAt). x.covers) (slice_get (graph_results v) c.args.own.result)) (sym c.requires.turn.fits.graph) ∙ c.covered.ensures) in
    on_ok_weaker c.try_filters.result
    (report_tried _ c.requires.turn.fits.job c.args.at.now.first c.args.at.now.count c.args.at.now.plan.now p.chains c.args.at.now.pass c.args.own.result rep c.covered.result.now covers c.requires.turn.within c.try_filters.new.work.lanes.items c.args.kept.now c.try_filters.new.kept c.args.work.now.found c.try_filters.new.work.found (c.requires.ready p).within)
    (c.try_filters.ensures.tried p)
