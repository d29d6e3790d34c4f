use Rattle.lemmas.proofs.{◌+◌, arith}
use Rattle.loop_keys.specs.{version_in}
use Rattle.block_passes.specs.{unfed, turn_job}
use Rattle.block_passes.proofs.Feeding.{few_fed}
use Rattle.block_passes.proofs.Serving.{none_served}
use Rattle.block_passes.proofs.feed.test_feeding.Goals as goal

pub returns-then-own-lt2-clause-tested : goal.returns-then-own-lt2-clause-tested
returns-then-own-lt2-clause-tested g c =
    let j = turn_job c.args.at.now in
    none_served j c.args.at.now.first c.args.at.now.count (unfed j c.args.at.now.first c.args.own.now.kind.now c.args.own.now.inputs.now c.args.own.now.under) c.args.at.now.pass c.args.to.now c.args.work.now.lanes.items c.args.work.now.found
    c.requires.known.ready c.requires.selected.made c.requires.selected.inside c.requires.known.settled
    (λ p i. few_fed c.args.own.now.kind.now (version_in {M = ⊥} j (c.args.at.now.first + p) c.args.own.now.under) c.args.own.now.inputs.now (omega arith))
