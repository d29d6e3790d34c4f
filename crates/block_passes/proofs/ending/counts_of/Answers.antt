use Rattle.block_passes.proofs.Feeding.{above_there, no_counts, own_there, sizes_counted}
use Rattle.block_passes.proofs.ending.counts_of.Goals as goal

pub bounds-kept-named : goal.bounds-kept-named
bounds-kept-named g c = above_there _ c.args.at.now.plan.now c.requires.turn.plan c.args.filter c.requires.filter c.args.at.now.first c.args.at.now.count c.args.kept.now (c.requires.countable c.requires.turn.plan) c.named.result c.named.ensures c.in-Some.named c.in-Some.is

pub bounds-kept-named-in-Some : goal.bounds-kept-named-in-Some
bounds-kept-named-in-Some g c = own_there _ c.args.at.now.plan.now c.requires.turn.plan c.args.filter c.requires.filter c.args.at.now.first c.args.at.now.count c.args.kept.now (c.requires.countable c.requires.turn.plan) c.named.result c.named.ensures c.in-Some.named c.in-Some.is

pub returns-in-None : goal.returns-in-None
returns-in-None g c = λ s amid. no_counts _ c.args.at.now.plan.now c.requires.turn.plan c.args.filter c.requires.filter c.args.at.now.first c.args.at.now.count c.args.kept.now (c.requires.countable c.requires.turn.plan) c.named.result c.named.ensures c.in-None.is c.requires.turn.fits.job s amid

pub returns-in-Some : goal.returns-in-Some
returns-in-Some g c = λ s amid. rw (c.len.ensures.count, c.len-in-Some.ensures.count) (sizes_counted _ c.args.at.now.plan.now c.requires.turn.plan c.args.filter c.requires.filter c.args.at.now.first c.args.at.now.count c.args.kept.now (c.requires.countable c.requires.turn.plan) c.named.result c.named.ensures c.in-Some.named c.in-Some.is c.index-kept-named.result c.index-kept-named-in-Some.result c.requires.turn.fits.job s amid)
