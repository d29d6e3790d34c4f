use Rattle.graph.proofs.Finished.{booked_now, there_too, filling_is}
use Rattle.graph.proofs.graph.Graph.filling.Goals as goal

pub returns : goal.returns
returns c = filling_is (booked_now c.self.view_is c.self.invariant) c.args.p c.at.result.now (there_too _ c.as_slice.ensures.value c.at.ensures)
