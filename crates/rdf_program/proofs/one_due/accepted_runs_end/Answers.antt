use Rattle.rdf_program.proofs.Answering.{accepted_runs_end}
use Rattle.rdf_program.proofs.one_due.accepted_runs_end.Goals as goal

pub returns : goal.returns
returns c = accepted_runs_end
