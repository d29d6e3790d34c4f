use Rattle.lemmas.proofs.{◌∙◌, ◌<◌, Some, length, ap, arith}
use Rattle.cluster_tally.proofs.Closing.{begun, closed_next, has_trail, there_is}
use Rattle.cluster_tally.proofs.tally.close_all.Goals as goal

pub loop-i-init : goal.loop-i-init
loop-i-init c = begun _ _ _ c.requires.trails

pub close_one-requires : goal.close_one-requires
close_one-requires c acc is =
    let b = c.loop-i.invariant in
    let lt : c.loop-i.i < length c.args.watched.now = omega (arith, b.same) in
    let fed = c.requires.fed c.loop-i.i acc (there_is c.args.cluster c.args.watched.now c.args.trails.now c.loop-i.i c.loop-i.trail c.loop-i.watched c.loop-i.trails b lt c.index-watched-i.result ∙ ap Some is) in
    (has_trail c.args.cluster c.args.watched.now c.args.trails.now c.loop-i.i c.loop-i.trail c.loop-i.watched c.loop-i.trails b lt c.index-watched-i.result acc is, fed.0, fed.1)

pub loop-i-preserved : goal.loop-i-preserved
loop-i-preserved c =
    let b = c.loop-i.invariant in
    let lt : c.loop-i.i < length c.args.watched.now = omega (arith, b.same) in
    let e = c.in_ok-trail.ensures in
    rw (e.next, e.watcher, e.trails) (closed_next c.args.cluster c.args.watched.now c.args.trails.now c.loop-i.i c.loop-i.trail c.loop-i.watched c.loop-i.trails b lt c.index-watched-i.result)
