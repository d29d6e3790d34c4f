use Rattle.entry_fns.specs.{functions_in}
use Rattle.snapshot_program.proofs.Writing.{due_written, failed_read_written, part_written}
use Rattle.snapshot_program.proofs.top.snapshot_top.Goals as goal

pub returns-in-Ok-write_whole-clause-due : goal.returns-in-Ok-write_whole-clause-due
returns-in-Ok-write_whole-clause-due g c = λ final.
    let written = rw c.as_bytes.ensures at c.in-Ok-write_whole.ensures.all in
    due_written (functions_in c.args.functions.now) c.args.words.now (g.S.Shelf.files c.args.shelf.now) (g.S.Shelf.turns c.answer_words.new.shelf) (g.S.Shelf.faults c.args.shelf.now) (g.S.Shelf.faults c.answer_words.new.shelf) c.in-Ok.answer
    c.in-Ok.ensures.answer _ _ final written

pub returns-in-Ok-write_whole-clause-read_line : goal.returns-in-Ok-write_whole-clause-read_line
returns-in-Ok-write_whole-clause-read_line g c = λ e.
    let written = rw c.as_bytes.ensures at c.in-Ok-write_whole.ensures.all in
    failed_read_written (functions_in c.args.functions.now) c.args.words.now (g.S.Shelf.files c.args.shelf.now) (g.S.Shelf.turns c.answer_words.new.shelf) (g.S.Shelf.faults c.args.shelf.now) (g.S.Shelf.faults c.answer_words.new.shelf) c.in-Ok.answer
    c.in-Ok.ensures.answer _ _ e written

pub returns-clause-part : goal.returns-clause-part
returns-clause-part g c = λ e.
    let part = rw c.as_bytes.ensures at c.in-Err.ensures.part in
    part_written (functions_in c.args.functions.now) c.args.words.now (g.S.Shelf.files c.args.shelf.now) (g.S.Shelf.turns c.answer_words.new.shelf) (g.S.Shelf.faults c.args.shelf.now) (g.S.Shelf.faults c.answer_words.new.shelf) c.in-Ok.answer
    c.in-Ok.ensures.answer _ _ part
