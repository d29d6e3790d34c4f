use Rattle.lemmas.proofs.{◌∙◌, length, ap, arith, subst, sym, slice_get, on_err_weaker, on_ok_weaker, with_items, with_items_is}
use Rattle.actions.specs.{IsTake}
use Rattle.cluster_tally.specs.{CanFeedBatch, TallyView, TookIn, TookInIfThere}
use Rattle.cluster_tally.specs.contracts.tally.Tally.{the_view}
use Rattle.cluster_tally.proofs.BlockFeeds.{can_take, can_take_alone, holds_fed, its_acc, within, within_watched}
use Rattle.cluster_tally.proofs.tally.Tally.feed_batch.Goals as goal

pub feed_watched_batch-requires : goal.feed_watched_batch-requires
feed_watched_batch-requires c =
    let r = c.requires in
    let can = subst (λ (t : TallyView). CanFeedBatch r.0 r.1 r.2 t c.args.pass c.args.cluster c.args.batch.now) (sym c.self.view_is) r.3 in
    let lt = within_watched r.0 r.1 r.2 (the_view c.self.inside) c.args.pass c.args.cluster c.args.batch.now can in
    record {
      within = omega (arith, ap length c.as_mut_slice.ensures.value);
      there = can.there;
      can = λ acc at. can_take_alone r.0 r.1 r.2 (the_view c.self.inside) c.args.pass c.args.cluster c.args.batch.now can acc (ap (λ l. slice_get l c.args.pass) (sym c.as_mut_slice.ensures.value) ∙ at);
    }

pub feed_acc_batch-requires : goal.feed_acc_batch-requires
feed_acc_batch-requires c =
    let r = c.requires in
    let can = subst (λ (t : TallyView). CanFeedBatch r.0 r.1 r.2 t c.args.pass c.args.cluster c.args.batch.now) (sym c.self.view_is) r.3 in
    let lt = within r.0 r.1 r.2 (the_view c.self.inside) c.args.pass c.args.cluster c.args.batch.now can in
    record {
      within = omega (arith, ap length c.as_mut_slice-2.ensures.value);
      there = can.there;
      can = λ acc at. can_take r.0 r.1 r.2 (the_view c.self.inside) c.args.pass c.args.cluster c.args.batch.now can acc (ap (λ l. slice_get l c.args.pass) (sym c.as_mut_slice-2.ensures.value) ∙ at);
    }

pub returns-clause-holds : goal.returns-clause-holds
returns-clause-holds c = λ f watched s can.
    let here = subst (λ (t : TallyView). CanFeedBatch f watched s t c.args.pass c.args.cluster c.args.batch.now) (sym c.self.view_is) can in
    let accs = with_items_is c.self.inside.accs c.feed_acc_batch.new.accs (let k = c.self.inside.accs.ok.0 in omega (arith, c.feed_acc_batch.auto.accs, ap length c.as_mut_slice-2.ensures.value)) in
    let alone = with_items_is c.self.inside.watched c.feed_watched_batch.new.watched (let k = c.self.inside.watched.ok.0 in omega (arith, c.feed_watched_batch.auto.watched, ap length c.as_mut_slice.ensures.value)) in
    let also = subst (TookInIfThere c.args.pass c.args.cluster c.args.batch.now c.self.inside.watched.items) (sym alone)
    (subst (λ l. TookInIfThere c.args.pass c.args.cluster c.args.batch.now l c.feed_watched_batch.new.watched) c.as_mut_slice.ensures.value c.feed_watched_batch.ensures) in
    on_ok_weaker c.feed_acc_batch.result
    (λ (are : TookIn c.args.pass c.args.cluster c.args.batch.now c.as_mut_slice-2.result.now c.feed_acc_batch.new.accs).
    holds_fed f watched s (the_view c.self.inside) c.args.pass c.args.cluster c.args.batch.now here
    (with_items c.self.inside.accs c.feed_acc_batch.new.accs).items (with_items c.self.inside.watched c.feed_watched_batch.new.watched).items
    (subst (TookIn c.args.pass c.args.cluster c.args.batch.now c.self.inside.accs.items) (sym accs) (subst (λ l. TookIn c.args.pass c.args.cluster c.args.batch.now l c.feed_acc_batch.new.accs) c.as_mut_slice-2.ensures.value are))
    also)
    c.feed_acc_batch.ensures.fed

pub returns-clause-memory : goal.returns-clause-memory
returns-clause-memory c = λ f watched s can.
    let here = subst (λ (t : TallyView). CanFeedBatch f watched s t c.args.pass c.args.cluster c.args.batch.now) (sym c.self.view_is) can in
    let its = its_acc f watched s (the_view c.self.inside) c.args.pass c.args.cluster c.args.batch.now here in
    on_err_weaker c.feed_acc_batch.result
    (λ (taken : IsTake its.0.kind). subst IsTake its.2 taken)
    (c.feed_acc_batch.ensures.memory its.0 (ap (λ l. slice_get l c.args.pass) c.as_mut_slice-2.ensures.value ∙ its.1))
