use Rattle.chain_files.specs.{joined_parts}
use Rattle.chain_files.proofs.Keeping.{one_more_joined}
use Rattle.chain_files.proofs.joining.join_all.Goals as goal

pub loop-part-preserved : goal.loop-part-preserved
loop-part-preserved c =
    let loops = c.args.loops.now in
    let kept = c.loop-part.invariant in
    one_more_joined loops c.loop-part.all c.in-Some.part c.in_ok-all.all (joined_parts loops c.args.first c.args.others) c.loop-part.part-iterator.rest.items c.next.new.self.rest.items c.in-Some.ensures.steps.0 c.in_ok-all.ensures kept.0 kept.1
