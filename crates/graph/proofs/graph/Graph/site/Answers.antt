use Rattle.graph.proofs.Finished.{booked_now, there_too, site_is}
use Rattle.graph.proofs.graph.Graph.site.Goals as goal

pub returns : goal.returns
returns c = site_is (booked_now c.self.view_is c.self.invariant) c.args.s c.at.result.now (there_too _ c.as_slice.ensures.value c.at.ensures)
