use Rattle.std.proofs.lemmas.Result.{IfOk-weaker, on_ok_weaker}
use Rattle.rdf_program.proofs.Answering.{answers_words, entries_fit, settings_fit, turns_besides}
use Rattle.rdf_program.proofs.words.answer_words.Goals as goal

pub answer_files-requires-clause-settings : goal.answer_files-requires-clause-settings
answer_files-requires-clause-settings g c κs within = settings_fit c.args.words.now _ c.in-Some.command c.in_ok-command.ensures c.in-Some.is

pub answer_made-requires-clause-entries : goal.answer_made-requires-clause-entries
answer_made-requires-clause-entries g c κs within = entries_fit c.args.words.now _ c.in-Some.command c.in_ok-command.ensures c.in-Some.is _ _ c.in-Generated.is

pub answer_made-requires-clause-settings : goal.answer_made-requires-clause-settings
answer_made-requires-clause-settings g c κs within = settings_fit c.args.words.now _ c.in-Some.command c.in_ok-command.ensures c.in-Some.is

pub returns-in-Files-clause-turns : goal.returns-in-Files-clause-turns
returns-in-Files-clause-turns g c =
    on_ok_weaker c.answer_files.result
    (turns_besides _ _ _ c.in_ok-command.ensures c.in-Some.is _ _ _ _ _ _ _ _ _ c.in-Files.is
    (cc (c.as_str.ensures, c.in-Files.script-is)) (cc (c.as_str-in-Files.ensures, c.in-Files.table-is)) (cc c.in-Files.friend-is)) c.answer_files.ensures.turns

pub returns-in-Generated-clause-answer : goal.returns-in-Generated-clause-answer
returns-in-Generated-clause-answer g c =
    IfOk-weaker c.answer_made.result _ _ (λ a h. answers_words _ _ _ c.in_ok-command.ensures c.in-Some.is _ _ _ _ _ a _ c.in-Generated.is h) c.answer_made.ensures
