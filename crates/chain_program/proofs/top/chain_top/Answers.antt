use Rattle.entry_fns.specs.{functions_in}
use Rattle.chain_program.proofs.Writing.{due_written, never_changed, never_memory, never_write, part_written, read_line_written, unread_of, words_written}
use Rattle.chain_program.proofs.top.chain_top.Goals as goal

pub returns-in-Ok-write_whole-clause-due : goal.returns-in-Ok-write_whole-clause-due
returns-in-Ok-write_whole-clause-due g c =
    let h = c.in-Ok.ensures.answer in
    let written = rw c.as_bytes.ensures at c.in-Ok-write_whole.ensures.all in
    due_written (functions_in c.args.functions.now) c.args.words.now (g.S.Shelf.files c.args.shelf.now) (g.S.Shelf.turns c.answer_words.new.shelf) (g.S.Shelf.faults c.args.shelf.now) (g.S.Shelf.faults c.answer_words.new.shelf) c.in-Ok.answer _ _ h written

pub returns-in-Ok-write_whole-clause-words : goal.returns-in-Ok-write_whole-clause-words
returns-in-Ok-write_whole-clause-words g c =
    let h = c.in-Ok.ensures.answer in
    let written = rw c.as_bytes.ensures at c.in-Ok-write_whole.ensures.all in
    words_written (functions_in c.args.functions.now) c.args.words.now (g.S.Shelf.files c.args.shelf.now) (g.S.Shelf.turns c.answer_words.new.shelf) (g.S.Shelf.faults c.args.shelf.now) (g.S.Shelf.faults c.answer_words.new.shelf) c.in-Ok.answer _ _ h written

pub returns-in-Ok-write_whole-clause-memory : goal.returns-in-Ok-write_whole-clause-memory
returns-in-Ok-write_whole-clause-memory g c =
    let h = c.in-Ok.ensures.answer in
    λ e. absurd (never_memory (functions_in c.args.functions.now) c.args.words.now (g.S.Shelf.files c.args.shelf.now) (g.S.Shelf.turns c.answer_words.new.shelf) (g.S.Shelf.faults c.args.shelf.now) (g.S.Shelf.faults c.answer_words.new.shelf) c.in-Ok.answer h e)

pub returns-in-Ok-write_whole-clause-read : goal.returns-in-Ok-write_whole-clause-read
returns-in-Ok-write_whole-clause-read g c =
    let h = c.in-Ok.ensures.answer in
    λ e. (unread_of (functions_in c.args.functions.now) c.args.words.now (g.S.Shelf.files c.args.shelf.now) (g.S.Shelf.turns c.answer_words.new.shelf) (g.S.Shelf.faults c.args.shelf.now) (g.S.Shelf.faults c.answer_words.new.shelf) c.in-Ok.answer h e).rose

pub returns-in-Ok-write_whole-clause-read_line : goal.returns-in-Ok-write_whole-clause-read_line
returns-in-Ok-write_whole-clause-read_line g c =
    let h = c.in-Ok.ensures.answer in
    let written = rw c.as_bytes.ensures at c.in-Ok-write_whole.ensures.all in
    read_line_written (functions_in c.args.functions.now) c.args.words.now (g.S.Shelf.files c.args.shelf.now) (g.S.Shelf.turns c.answer_words.new.shelf) (g.S.Shelf.faults c.args.shelf.now) (g.S.Shelf.faults c.answer_words.new.shelf) c.in-Ok.answer _ _ h written

pub returns-in-Ok-write_whole-clause-changed : goal.returns-in-Ok-write_whole-clause-changed
returns-in-Ok-write_whole-clause-changed g c =
    let h = c.in-Ok.ensures.answer in
    never_changed (functions_in c.args.functions.now) c.args.words.now (g.S.Shelf.files c.args.shelf.now) (g.S.Shelf.turns c.answer_words.new.shelf) (g.S.Shelf.faults c.args.shelf.now) (g.S.Shelf.faults c.answer_words.new.shelf) c.in-Ok.answer h

pub returns-in-Ok-write_whole-clause-write : goal.returns-in-Ok-write_whole-clause-write
returns-in-Ok-write_whole-clause-write g c =
    let h = c.in-Ok.ensures.answer in
    λ e. absurd (never_write (functions_in c.args.functions.now) c.args.words.now (g.S.Shelf.files c.args.shelf.now) (g.S.Shelf.turns c.answer_words.new.shelf) (g.S.Shelf.faults c.args.shelf.now) (g.S.Shelf.faults c.answer_words.new.shelf) c.in-Ok.answer h e)

pub returns-in-Ok-write_whole-clause-part : goal.returns-in-Ok-write_whole-clause-part
returns-in-Ok-write_whole-clause-part g c =
    let h = c.in-Ok.ensures.answer in
    λ e. absurd (never_write (functions_in c.args.functions.now) c.args.words.now (g.S.Shelf.files c.args.shelf.now) (g.S.Shelf.turns c.answer_words.new.shelf) (g.S.Shelf.faults c.args.shelf.now) (g.S.Shelf.faults c.answer_words.new.shelf) c.in-Ok.answer h e)

pub returns-clause-part : goal.returns-clause-part
returns-clause-part g c =
    let h = c.in-Ok.ensures.answer in
    let part = rw c.as_bytes.ensures at c.in-Err.ensures.part in
    λ e. part_written (functions_in c.args.functions.now) c.args.words.now (g.S.Shelf.files c.args.shelf.now) (g.S.Shelf.turns c.answer_words.new.shelf) (g.S.Shelf.faults c.args.shelf.now) (g.S.Shelf.faults c.answer_words.new.shelf) c.in-Ok.answer _ _ h part
