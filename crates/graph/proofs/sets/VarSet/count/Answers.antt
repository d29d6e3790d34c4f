use Rattle.lemmas.proofs.{arith}
use Rattle.graph.proofs.Listing.{none_above}
use Rattle.graph.proofs.sets.VarSet.count.Goals as goal

pub returns-clause-above : goal.returns-clause-above
returns-clause-above c v le = none_above c.args.self.bits v (omega arith) le v (omega arith)
