use Rattle.lemmas.proofs.{rules}
use Rattle.rdf_values.specs.scripts.Statements as st
use Rattle.script_read.proofs.strings.operation.Goals as goal

pub returns-in_default-clause-err : goal.returns-in_default-clause-err
returns-in_default-clause-err c = st.no_operation (λ o e. search rules)
