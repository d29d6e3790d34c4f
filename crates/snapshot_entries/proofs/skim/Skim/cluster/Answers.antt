use Rattle.lemmas.proofs.{◌<◌, ◌≤◌, length, arith}
use Rattle.snapshot_entries.specs.{data_of, plan_of}
use Rattle.snapshot_entries.proofs.Ranging.{next_entry, skim_stopped}
use Rattle.snapshot_entries.proofs.skim.Skim.cluster.Goals as goal

pub returns-in-Err-clause-answer : goal.returns-in-Err-clause-answer
returns-in-Err-clause-answer g c =
    let p = plan_of c.args.job.now in
    let d = data_of c.args.job.now in
    let e = c.loop-entry.entry in
    let low : c.args.span.lo ≤ e = c.loop-entry.auto.entry in
    let up : e < c.args.span.hi = c.loop-entry-test.true in
    skim_stopped p d c.args.span e low up c.requires.span.within c.loop-entry.invariant.none c.in-Err.stop c.stop_at.result c.loop-entry.text c.entry.new.text c.args.text.now c.entry.new.text c.stop_at.ensures c.in-Err.ensures.answer

pub loop-entry-preserved : goal.loop-entry-preserved
loop-entry-preserved g c =
    let p = plan_of c.args.job.now in
    let d = data_of c.args.job.now in
    let e = c.loop-entry.entry in
    let low : c.args.span.lo ≤ e = c.loop-entry.auto.entry in
    let up : e < c.args.span.hi = c.loop-entry-test.true in
    let most : c.args.span.hi ≤ length d.rows = c.requires.span.within in
    let kept = c.in-Ok.ensures.answer in
    let next = next_entry p d c.args.span.lo e low (omega (arith, up, most)) c.loop-entry.invariant.none kept.0 c.args.text.now c.loop-entry.text c.entry.new.text kept.1 c.loop-entry.invariant.text kept.2 in
    record { of = c.in-Ok.ensures.of; none = next.0; text = next.1 }
