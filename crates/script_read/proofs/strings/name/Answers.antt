use Rattle.rdf_values.specs.scripts.Statements as st
use Rattle.script_read.proofs.strings.name.Goals as goal

pub returns-in-None-clause-err : goal.returns-in-None-clause-err
returns-in-None-clause-err c = st.no_name (rw c.in-None.is at c.in_ok-name.ensures)
