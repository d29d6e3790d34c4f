use Rattle.entry_fns.specs.{functions_in}
use Rattle.input_files.specs.{WithTableFile}
use Rattle.shard_due.specs.{IsDueToTable, statuses}
use Rattle.shard_program.proofs.FileReading.{script_read_ok}
use Rattle.shard_program.proofs.run.answer_run.Goals as goal

pub returns-in-Whole-clause-answer : goal.returns-in-Whole-clause-answer
returns-in-Whole-clause-answer g c =
    let fns = functions_in c.args.functions.now in
    let run = c.args.run.now in
    let read = rw c.in-Whole.is at c.in_ok-script.ensures.read in
    script_read_ok (λ f script d. WithTableFile statuses run.table (f run.table) (λ table e. IsDueToTable fns run.size run.clusters script table e) d) (g.S.Shelf.files c.args.shelf.now) (g.S.Shelf.turns c.answer_script.new.shelf) (g.S.Shelf.faults c.args.shelf.now)
    run.script (g.S.Shelf.faults c.read_script_file.new.shelf) (g.S.Shelf.faults c.answer_script.new.shelf) c.in-Whole.script c.answer_script.result c.read_script_file.ensures.later (rw c.as_str.ensures at read.holds) (rw c.read_script_file.ensures.same at c.answer_script.ensures.answer)
