use Rattle.lemmas.proofs.{◌++◌}
use Rattle.columns.specs.{joined}
use Rattle.table_csv.proofs.TableSteps.{pieces_answer, pieces_columns}
use Rattle.table_csv.proofs.slots.+fn-read_pieces-join+arg2+fn-read_pieces-join+arg3+read_pieces.Goals as goal

pub append_pieces-requires-clause-same : goal.append_pieces-requires-clause-same
append_pieces-requires-clause-same g t c =
    let first = rw c.in_ok-first.was at c.join-first.ensures.first in
    let second = rw c.in_ok-second.was at c.join-first.ensures.second in
    let front = joined c.halved.result.0.lines.now ++ c.halved.result.0.last.now in
    let back = joined c.halved.result.1.lines.now ++ c.halved.result.1.last.now in
    pieces_columns c.args.head.now front back c.in_ok-first.field-0 c.in_ok-second.field-0 c.requires.head first second

pub returns : goal.returns
returns g t c =
    let first = rw c.in_ok-first.was at c.join-first.ensures.first in
    let second = rw c.in_ok-second.was at c.join-first.ensures.second in
    let front = joined c.halved.result.0.lines.now ++ c.halved.result.0.last.now in
    let back = joined c.halved.result.1.lines.now ++ c.halved.result.1.last.now in
    let lines = joined c.args.lines.now ++ c.args.last.now in
    pieces_answer c.args.head.now front back lines c.in_ok-first.field-0 c.in_ok-second.field-0 c.append_pieces.result c.requires.head c.halved.ensures.whole c.halved.ensures.cut first second c.append_pieces.ensures.few c.append_pieces.ensures.table c.append_pieces.ensures.marks
