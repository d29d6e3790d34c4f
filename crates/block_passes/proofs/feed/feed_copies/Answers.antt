use Rattle.block_passes.proofs.Feeding.{only_takes}
use Rattle.block_passes.proofs.feed.feed_copies.Goals as goal

pub feed_batch-requires : goal.feed_batch-requires
feed_batch-requires g c = let b = c.requires.feed in (b.0, b.1, b.2, (b.3 (record { places = c.batch_places-places.result; sources = c.gather-sources.result }) (record { places = c.batch_places-places.ensures; gathered = c.gather-sources.ensures _ c.in_ok-copies.ensures.copied })).0)

pub returns-clause-holds : goal.returns-clause-holds
returns-clause-holds g c = λ f watched s any. c.feed_batch.ensures.holds f watched s (any (record { places = c.batch_places-places.result; sources = c.gather-sources.result }) (record { places = c.batch_places-places.ensures; gathered = c.gather-sources.ensures _ c.in_ok-copies.ensures.copied })).0

pub returns-clause-plain : goal.returns-clause-plain
returns-clause-plain g c = λ plain.
    let b = c.requires.feed in
    let can = b.3 (record { places = c.batch_places-places.result; sources = c.gather-sources.result }) (record { places = c.batch_places-places.ensures; gathered = c.gather-sources.ensures _ c.in_ok-copies.ensures.copied }) in
    only_takes c.args.own.now.kind.now can.0.kind can.1 c.feed_batch.result (c.feed_batch.ensures.memory b.0 b.1 b.2 can.0)
