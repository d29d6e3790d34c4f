use Rattle.lemmas.proofs.{arith}
use Rattle.snapshot_pieces.proofs.Least.{next_over, next_faulted}
use Rattle.snapshot_pieces.proofs.gather.least_of.Goals as goal

pub loop-i-preserved-in-Over : goal.loop-i-preserved-in-Over
loop-i-preserved-in-Over c = next_over c.args.finished.now c.loop-i.i _ c.loop-i.least c.in-Over.field-0 (omega arith) c.loop-i.invariant c.in-Over.is

pub loop-i-preserved : goal.loop-i-preserved
loop-i-preserved c = next_faulted c.args.finished.now c.loop-i.i _ c.loop-i.least c.in-Faulted.fault c.lesser.result (omega arith) c.loop-i.invariant c.in-Faulted.is c.lesser.ensures
