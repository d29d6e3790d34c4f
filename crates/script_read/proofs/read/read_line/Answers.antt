use Rattle.rdf_values.specs.{at_string, FirstBad, form_strings, RefusesLine}
use Rattle.script_read.specs.{form_of}
use Rattle.script_read.proofs.FirstBads.{handed_on, refused_as}
use Rattle.script_read.proofs.read.read_line.Goals as goal

pub returns-in_err-read_statement-clause-err : goal.returns-in_err-read_statement-clause-err
returns-in_err-read_statement-clause-err c =
    let is_form = rw c.as_slice.ensures.value at c.in_ok-form.ensures.ok in
    handed_on _ _ _ c.from_residual-in_err-read_statement.ensures.1
    (refused_as (FirstBad (form_strings (form_of c.in_ok-form.form))) (RefusesLine c.args.line.now) (λ r bad. at_string c.in_ok-tokens.ensures.ok is_form bad) _ c.in_err-read_statement.ensures.err)
