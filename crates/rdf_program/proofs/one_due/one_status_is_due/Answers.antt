use Rattle.rdf_program.proofs.Answering.{settled}
use Rattle.rdf_program.proofs.one_due.one_status_is_due.Goals as goal

pub returns : goal.returns
returns c = record { some = λ fns words files. (settled fns words files).some; one = λ fns words files. (settled fns words files).one }
