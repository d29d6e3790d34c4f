use Rattle.chain_files.proofs.Shaped.{all_found}
use Rattle.chain_files.proofs.joining.are_loops.Goals as goal

pub returns : goal.returns
returns c = all_found c.args.loops.now c.args.found.now c.loop-i.i c.loop-i.invariant.rest c.loop-i.invariant.within c.loop-i.auto.i-end c.loop-i-test.false
