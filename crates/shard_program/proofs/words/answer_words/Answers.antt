use Rattle.lemmas.proofs.{◌∙◌, ap, Some}
use Rattle.entry_fns.specs.{functions_in}
use Rattle.shard_words.specs.declared.command.ShardCommand.TheVariants.{Run}
use Rattle.shard_program.proofs.Asking.{run_fits_asked}
use Rattle.shard_program.proofs.Topping.{command_answer}
use Rattle.shard_program.proofs.words.answer_words.Goals as goal

pub answer_run-requires-clause-size : goal.answer_run-requires-clause-size
answer_run-requires-clause-size g c κs within = run_fits_asked c.args.words.now _ c.in-Some.command c.in-Run.run' c.in_ok-command.ensures c.in-Some.is c.in-Run.is

pub returns-in-Run-clause-answer : goal.returns-in-Run-clause-answer
returns-in-Run-clause-answer g c =
    command_answer (functions_in c.args.functions.now) c.args.words.now (g.S.Shelf.files c.args.shelf.now) (g.S.Shelf.faults c.args.shelf.now) (g.S.Shelf.faults c.answer_run.new.shelf) _ c.in_ok-command.ensures (g.S.Shelf.turns c.answer_run.new.shelf) (Run c.in-Run.run')
    c.answer_run.result (c.in-Some.is ∙ ap Some c.in-Run.is) c.answer_run.ensures.answer
