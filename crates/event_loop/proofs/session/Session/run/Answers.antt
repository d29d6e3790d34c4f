use Rattle.lemmas.proofs.{arith}
use Rattle.graph_numbers.proofs.Placing.{itself}
use Rattle.event_loop.proofs.Found.{many}
use Rattle.event_loop.proofs.session.Session.run.Goals as goal

pub run_loop-requires-clause-job : goal.run_loop-requires-clause-job
run_loop-requires-clause-job = grind (arith, many, itself)
