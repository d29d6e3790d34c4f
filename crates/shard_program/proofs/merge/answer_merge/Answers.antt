use Rattle.entry_fns.specs.{functions_in}
use Rattle.shard_program.specs.{IsDueToFiles}
use Rattle.shard_program.proofs.FileReading.{script_read_ok}
use Rattle.shard_program.proofs.merge.answer_merge.Goals as goal

pub returns-in-Whole-clause-answer : goal.returns-in-Whole-clause-answer
returns-in-Whole-clause-answer g c =
    let fns = functions_in c.args.functions.now in
    let read = rw c.in-Whole.is at c.in_ok-script.ensures.read in
    script_read_ok (λ f script d. IsDueToFiles fns script c.args.merging.now.files f d) (g.S.Shelf.files c.args.shelf.now) (g.S.Shelf.turns c.answer_files.new.shelf) (g.S.Shelf.faults c.args.shelf.now) c.args.merging.now.script (g.S.Shelf.faults c.read_script_file.new.shelf)
    (g.S.Shelf.faults c.answer_files.new.shelf) c.in-Whole.script c.answer_files.result c.read_script_file.ensures.later (rw c.as_str.ensures at read.holds) (rw (c.read_script_file.ensures.same, c.as_slice.ensures) at c.answer_files.ensures.answer)
