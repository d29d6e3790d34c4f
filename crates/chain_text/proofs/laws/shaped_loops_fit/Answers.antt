use Rattle.chain_text.proofs.Fitting.{shaped_loops_fit}
use Rattle.chain_text.proofs.laws.shaped_loops_fit.Goals as goal

pub returns : goal.returns
returns c = shaped_loops_fit
