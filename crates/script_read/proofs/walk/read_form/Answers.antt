use Rattle.lemmas.proofs.{◌∙◌, [], Err, map, sym, ap}
use Rattle.script_read.specs.{placed_of}
use Rattle.script_read.proofs.Walked.{refused_for, left_over}
use Rattle.script_read.proofs.walk.read_form.Goals as goal

pub returns-in-Ok-2-clause-err : goal.returns-in-Ok-2-clause-err
returns-in-Ok-2-clause-err c =
    refused_for c.args.tokens.now (map placed_of c.line.new.self.left.now) c.args.end _ c.stuck.ensures (c.in-Ok-2.ensures.took.took.walks [] ∙ left_over c.line.new.self.left.now (sym c.is_empty.ensures ∙ c.if-is_empty.false)) c.requires

pub returns-in-Err-Unexpected-clause-err : goal.returns-in-Err-Unexpected-clause-err
returns-in-Err-Unexpected-clause-err c =
    refused_for c.args.tokens.now (map placed_of c.line.new.self.left.now) c.args.end _ c.stuck-in-Err-Unexpected.ensures (c.line.ensures.stuck (c.in-Err-Unexpected.is ∙ ap Err c.in-Err-Unexpected.field-0-is) []) c.requires
