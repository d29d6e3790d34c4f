use Rattle.lemmas.proofs.{◌∙◌, sym}
use Rattle.table_csv.specs.{csv_records}
use Rattle.table_csv.proofs.TableSteps.{behind_head, good_answer, piece_of}
use Rattle.table_csv.proofs.pieces.read_piece.Goals as goal

pub read_entries-requires-clause-header : goal.read_entries-requires-clause-header
read_entries-requires-clause-header c =
    (good_answer c.read_heading.result c.in_ok-heading.heading _ _ (sym c.ok.ensures.value ∙ c.in_ok-heading.was) (c.read_heading.ensures _ c.open.ensures)).header

pub returns : goal.returns
returns c =
    let heading = good_answer c.read_heading.result c.in_ok-heading.heading _ _ (sym c.ok.ensures.value ∙ c.in_ok-heading.was) (c.read_heading.ensures _ c.open.ensures) in
    let whole = behind_head c.args.head.now (csv_records c.args.lines.now) _ _ c.requires heading in
    rw c.ok-2.ensures.value (piece_of c.args.head.now c.args.lines.now c.read_entries.result _ (sym c.has_special.ensures ∙ c.if-has_special.false) whole (c.read_entries.ensures.value _ c.open-2.ensures) c.read_entries.ensures.within)
