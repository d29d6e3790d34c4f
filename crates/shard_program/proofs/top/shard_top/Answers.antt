use Rattle.entry_fns.specs.{functions_in}
use Rattle.shard_program.proofs.Topping.{due_written, is_written, part_written}
use Rattle.shard_program.proofs.top.shard_top.Goals as goal

pub returns-in-Ok-write_whole-clause-due : goal.returns-in-Ok-write_whole-clause-due
returns-in-Ok-write_whole-clause-due g c = λ final.
    let fns = functions_in c.args.functions.now in
    let is = is_written fns c.args.words.now (g.S.Shelf.files c.args.shelf.now) (g.S.Shelf.turns c.answer_words.new.shelf) (g.S.Shelf.faults c.args.shelf.now) (g.S.Shelf.faults c.answer_words.new.shelf) c.in-Ok.answer c.in-Ok.ensures.answer in
    let written = rw c.as_bytes.ensures at c.in-Ok-write_whole.ensures.all in
    due_written fns c.args.words.now (g.S.Shelf.files c.args.shelf.now) (g.S.Shelf.turns c.answer_words.new.shelf) (g.S.Shelf.faults c.args.shelf.now) (g.S.Shelf.faults c.answer_words.new.shelf) c.in-Ok.answer is _ _ final written

pub returns-clause-part : goal.returns-clause-part
returns-clause-part g c = λ e.
    let fns = functions_in c.args.functions.now in
    let is = is_written fns c.args.words.now (g.S.Shelf.files c.args.shelf.now) (g.S.Shelf.turns c.answer_words.new.shelf) (g.S.Shelf.faults c.args.shelf.now) (g.S.Shelf.faults c.answer_words.new.shelf) c.in-Ok.answer c.in-Ok.ensures.answer in
    let part = rw c.as_bytes.ensures at c.in-Err.ensures.part in
    part_written fns c.args.words.now (g.S.Shelf.files c.args.shelf.now) (g.S.Shelf.turns c.answer_words.new.shelf) (g.S.Shelf.faults c.args.shelf.now) (g.S.Shelf.faults c.answer_words.new.shelf) c.in-Ok.answer is _ _ part
