use Rattle.lemmas.proofs.{ℕ, ◌∙◌, subst, sym}
use Rattle.std.proofs.lemmas.Result.{IfOk-weaker}
use Rattle.slot_words.specs.{AreNoted, HaveAllTrails, HavePartialsOver, noted_sets}
use Rattle.event_loop.specs.{HaveNoted}
use Rattle.event_loop.proofs.Ended.{none_watched, noted_in}
use Rattle.event_loop.proofs.filling.lines_in.Goals as goal

pub partial_lines-requires-clause-noted : goal.partial_lines-requires-clause-noted
partial_lines-requires-clause-noted c =
    let job = c.requires.0 in
    let can = c.requires.1 in (
      job.facts,
      job.watched,
      can.finished.dones,
      noted_in c.in-Some.book c.args.book c.args.noting.watched c.args.noting.clusters job _ can c.in-Some.is c.in_ok-orders.orders.slots c.in_ok-orders.ensures.orders c.in_ok-orders.ensures.drawn,
      subst (HaveAllTrails job.facts job.watched can.finished.dones) (sym c.as_slice.ensures) can.finished.are.trails,
      can.watches,
    )

pub returns : goal.returns
returns c = λ job can.
    let os = c.in_ok-orders.orders.slots in
    let dones = can.finished.dones in
    let noted = noted_in c.in-Some.book c.args.book c.args.noting.watched c.args.noting.clusters job _ can c.in-Some.is os c.in_ok-orders.ensures.orders c.in_ok-orders.ensures.drawn in
    IfOk-weaker c.partial_lines.result (HavePartialsOver job.facts job.watched c.args.noting.watch (noted_sets os dones c.args.noting.clusters c.args.noting.watch)) (HaveNoted job c.args.noting.watch dones)
    (λ partials h. (
      os,
      record {
        noted = λ _. subst (AreNoted os dones) (sym can.facts.ranges) noted;
        over = subst (λ (n : ℕ). HavePartialsOver job.facts job.watched c.args.noting.watch (noted_sets os dones n c.args.noting.watch) partials) (sym can.facts.ranges) h;
      },
    ))
    (c.partial_lines.ensures job.facts job.watched dones noted (subst (HaveAllTrails job.facts job.watched dones) (sym c.as_slice.ensures) can.finished.are.trails) can.watches can.facts.ranges)

pub returns-in_default : goal.returns-in_default
returns-in_default c = λ job can.
    subst (HaveNoted job c.args.noting.watch can.finished.dones) (sym c.new.ensures)
    (none_watched job c.args.noting.watch can.finished.dones (can.watches ∙ can.unbooked c.in_default.is))
