use Rattle.rdf_values.specs.{here, no_label}
use Rattle.rdf_values.specs.scripts.Statements as st
use Rattle.script_read.proofs.strings.maybe_label.Goals as goal

pub returns-in_default-clause-ok : goal.returns-in_default-clause-ok
returns-in_default-clause-ok c = rw c.in_default.is no_label

pub returns-in-None-clause-err : goal.returns-in-None-clause-err
returns-in-None-clause-err c = rw c.in-Some.is (here (st.no_label (rw c.in-None.is at c.in_ok-label.ensures)))
