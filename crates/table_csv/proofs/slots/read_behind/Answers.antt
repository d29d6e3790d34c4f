use Rattle.lemmas.proofs.{◌∙◌, ◌++◌, refl, sym}
use Rattle.columns.specs.{joined}
use Rattle.table_csv.proofs.TableSteps.{head_answer}
use Rattle.table_csv.proofs.slots.read_behind.Goals as goal

pub returns-clause-value : goal.returns-clause-value
returns-clause-value g c =
    let behind = joined c.args.texts.lines.now ++ c.args.texts.last.now in
    head_answer c.args.head.now behind (c.args.head.now ++ behind) c.read_pieces.result refl c.requires.cut (sym c.has_quote.ensures ∙ c.if-has_quote.false) c.read_pieces.ensures
