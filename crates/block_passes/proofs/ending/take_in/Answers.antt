use Rattle.lemmas.proofs.{length, refl}
use Rattle.rdf_model.specs.{kinds_in}
use Rattle.cluster_tally.specs.{block_begin}
use Rattle.loop_keys.specs.{passes_in}
use Rattle.block_passes.specs.{at_pass, turn_job}
use Rattle.block_passes.proofs.ClusterBlocks.{all_taken, begun_amid, begun_holds}
use Rattle.block_passes.proofs.ending.take_in.Goals as goal

pub feed_passes-requires-clause-begin : goal.feed_passes-requires-clause-begin
feed_passes-requires-clause-begin g c =
    let b = c.requires.before in (
      b.0,
      block_begin b.1 c.args.at.now.count,
      begun_amid _ c.args.at.now.first c.args.at.now.count c.args.cluster b.0 b.1 c.args.tally.now b.2,
      b.2.its_cluster,
      refl,
      begun_holds _ c.args.at.now.first c.args.at.now.count c.args.cluster b.0 b.1 c.args.tally.now b.2,
    )

pub note_filters-requires-clause-begin : goal.note_filters-requires-clause-begin
note_filters-requires-clause-begin g c =
    let j = turn_job c.args.at.now in
    let b = c.requires.before in
    let amid = begun_amid j c.args.at.now.first c.args.at.now.count c.args.cluster b.0 b.1 c.args.tally.now b.2 in (
      b.0,
      at_pass (block_begin b.1 c.args.at.now.count) (length (kinds_in (passes_in j))),
      amid,
      refl,
      c.in_ok-feed_passes.ensures.holds b.0 (block_begin b.1 c.args.at.now.count) amid b.2.its_cluster refl (begun_holds j c.args.at.now.first c.args.at.now.count c.args.cluster b.0 b.1 c.args.tally.now b.2),
    )

pub returns-clause-holds : goal.returns-clause-holds
returns-clause-holds g c = λ watched s before.
    let j = turn_job c.args.at.now in
    let amid = begun_amid j c.args.at.now.first c.args.at.now.count c.args.cluster watched s c.args.tally.now before in
    all_taken j c.args.at.now.first c.args.at.now.count c.args.cluster watched s c.args.tally.now before c.note_filters.new.tally
    (c.note_filters.ensures watched (at_pass (block_begin s c.args.at.now.count) (length (kinds_in (passes_in j))))
    amid refl
    (c.in_ok-feed_passes.ensures.holds watched (block_begin s c.args.at.now.count) amid before.its_cluster refl (begun_holds j c.args.at.now.first c.args.at.now.count c.args.cluster watched s c.args.tally.now before)))
