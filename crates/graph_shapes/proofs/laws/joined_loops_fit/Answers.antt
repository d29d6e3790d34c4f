use Rattle.graph_shapes.proofs.Fitting.{joined_loops_fit}
use Rattle.graph_shapes.proofs.laws.joined_loops_fit.Goals as goal

pub returns : goal.returns
returns c = joined_loops_fit
