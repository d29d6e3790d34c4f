use Rattle.lemmas.proofs.{arith, refl}
use Rattle.std.proofs.lemmas.Result.{on_ok_weaker}
use Rattle.block_passes.specs.{longer, Step, turn_job}
use Rattle.block_passes.proofs.Selecting.{from_inside, next_selected, next_spends}
use Rattle.block_passes.proofs.Demanding.{site_there, site_used}
use Rattle.block_passes.proofs.select.next_places.Goals as goal

pub bounds-above-next : goal.bounds-above-next
bounds-above-next g c =
    let b = (c.requires.turn.plan.steps.each c.args.next.step (Step.Filter c.args.next.parent c.args.next.filter.site c.args.next.filter.under) c.requires.step).before in
    let l = c.requires.above in
    omega (arith, b, l)

pub filter_places-requires : goal.filter_places-requires
filter_places-requires g c =
    let p = c.requires.turn.plan in
    let s = p.steps.each c.args.next.step (Step.Filter c.args.next.parent c.args.next.filter.site c.args.next.filter.under) c.requires.step in
    let r = c.requires.ready p in
    record {
      site = site_there (turn_job c.args.at.now) c.requires.turn.fits.job (longer s.up c.args.next.filter.site c.args.next.filter.under) s.up.sites c.args.next.filter.site refl (p.tried c.args.next.step _ s.own);
      known = record { turn = c.requires.turn; ready = r.ready; limit = r.within; settled = r.settled };
      can = c.requires.can.each c.args.next.step c.args.next.parent c.args.next.filter.site c.args.next.filter.under c.requires.step;
      truth = c.requires.can.truths c.args.next.step c.args.next.parent c.args.next.filter.site c.args.next.filter.under c.requires.step;
      inside =
          from_inside (turn_job c.args.at.now) c.requires.turn.fits.job c.args.at.now.first c.args.at.now.count c.args.at.now.pass c.args.at.now.plan.now p c.args.next.step c.args.next.parent c.args.next.filter.site c.args.next.filter.under c.requires.step
          c.requires.turn.within c.args.above.now c.args.own.now c.requires.above c.args.work.now.lanes.items c.args.work.now.found r c.requires.made c.index-above-next.result c.index-above-next.is;
    }

pub returns : goal.returns
returns g c =
    let plan = c.requires.turn.plan in
    let s = plan.steps.each c.args.next.step (Step.Filter c.args.next.parent c.args.next.filter.site c.args.next.filter.under) c.requires.step in
    record {
      leaves = record {
        spends =
            next_spends (turn_job c.args.at.now) c.requires.turn.fits.job c.args.at.now.first c.args.at.now.count c.args.at.now.pass c.args.at.now.plan.now plan c.args.next.step c.args.next.parent c.args.next.filter.site c.args.next.filter.under c.requires.step
            c.requires.turn.within c.args.above.now c.args.own.now c.requires.above c.args.work.now.lanes.items c.args.work.now.found (c.requires.ready plan) c.requires.made c.index-above-next.result c.index-above-next.is
            c.filter_places.new.work.lanes.items _ _ c.filter_places.ensures.spent;
        scratch = c.filter_places.ensures.room.scratch;
        levels = c.filter_places.ensures.room.levels;
      };
      selected = λ p.
          on_ok_weaker c.filter_places.result
          (next_selected (turn_job c.args.at.now) c.requires.turn.fits.job c.args.at.now.first c.args.at.now.count c.args.at.now.pass c.args.at.now.plan.now p c.args.next.step c.args.next.parent c.args.next.filter.site c.args.next.filter.under c.requires.step
          c.requires.turn.within c.args.above.now c.args.own.now c.requires.above c.args.work.now.lanes.items c.args.work.now.found (c.requires.ready p) c.requires.made c.index-above-next.result c.index-above-next.is
          c.filter_places.new.to _ c.filter_places.new.work.lanes.items c.filter_places.new.work.found refl)
          c.filter_places.ensures.filtered;
      plain = λ loop.
          c.filter_places.ensures.plain loop.used loop.sites
          (site_used (turn_job c.args.at.now) c.requires.turn.fits.job (longer s.up c.args.next.filter.site c.args.next.filter.under) s.up.sites c.args.next.filter.site refl (plan.tried c.args.next.step _ s.own) loop);
    }
