use Rattle.rdf_program.proofs.Answering.{due_written, failed_read_written, part_written}
use Rattle.rdf_program.proofs.top.rdf_top.Goals as goal

pub returns-in-Ok-write_whole-clause-due : goal.returns-in-Ok-write_whole-clause-due
returns-in-Ok-write_whole-clause-due g c = λ e. due_written _ _ _ _ _ _ _ c.in-Ok.ensures.answer _ _ e (rw c.as_bytes.ensures at c.in-Ok-write_whole.ensures.all)

pub returns-in-Ok-write_whole-clause-read_line : goal.returns-in-Ok-write_whole-clause-read_line
returns-in-Ok-write_whole-clause-read_line g c =
    λ e. failed_read_written _ _ _ _ _ _ _ c.in-Ok.ensures.answer _ _ e (rw c.as_bytes.ensures at c.in-Ok-write_whole.ensures.all)

pub returns-clause-part : goal.returns-clause-part
returns-clause-part g c = λ e. part_written _ _ _ _ _ _ _ c.in-Ok.ensures.answer _ _ (rw c.as_bytes.ensures at c.in-Err.ensures.part)
