use Rattle.std.proofs.lemmas.Result.{on_ok_weaker}
use Rattle.entry_fns.specs.{functions_in}
use Rattle.chain_due.specs.{IsDueToCommand}
use Rattle.chain_program.specs.{IsAnswer, IsDueToText}
use Rattle.chain_program.proofs.Commanding.{command_answers, command_refused, command_turns}
use Rattle.chain_program.proofs.Staging.{if_ok}
use Rattle.chain_program.proofs.words.answer_asked.Goals as goal

pub returns-in-Whole-clause-turns : goal.returns-in-Whole-clause-turns
returns-in-Whole-clause-turns g c =
    let read = rw (c.in-Whole.is, c.script_in.ensures) at c.in_ok-text.ensures.read in
    let first = rw c.script_in.ensures at c.in_ok-text.ensures.turns in
    let others = rw c.in_ok-text.ensures.same at c.answer_command.ensures.turns in
    on_ok_weaker c.answer_command.result
    (λ h. command_turns c.args.command.now (g.S.Shelf.files c.args.shelf.now) c.in-Whole.text (g.S.Shelf.turns c.args.shelf.now) (g.S.Shelf.turns c.read_script.new.shelf) (g.S.Shelf.turns c.answer_command.new.shelf) first read h) others

pub returns-in-Whole-clause-answer : goal.returns-in-Whole-clause-answer
returns-in-Whole-clause-answer g c =
    let fns = functions_in c.args.means.now.functions.now in
    let command = c.args.command.now in
    let told = g.S.Shelf.files c.args.shelf.now in
    let turns = g.S.Shelf.turns c.answer_command.new.shelf in
    let f0 = g.S.Shelf.faults c.args.shelf.now in
    let f1 = g.S.Shelf.faults c.read_script.new.shelf in
    let f2 = g.S.Shelf.faults c.answer_command.new.shelf in
    let read = rw (c.in-Whole.is, c.script_in.ensures) at c.in_ok-text.ensures.read in
    let answer = rw c.in_ok-text.ensures.same at c.answer_command.ensures.answer in
    if_ok c.answer_command.result (IsAnswer (IsDueToText fns command c.in-Whole.text) told turns f1 f2) (IsAnswer (IsDueToCommand fns command) told turns f0 f2)
    (λ a h. command_answers fns command told c.in-Whole.text turns f0 f1 f2 a c.in_ok-text.ensures.later read h) answer

pub returns-in-Refused-clause-answer : goal.returns-in-Refused-clause-answer
returns-in-Refused-clause-answer g c =
    command_refused (functions_in c.args.means.now.functions.now) c.args.command.now (g.S.Shelf.files c.args.shelf.now) (g.S.Shelf.turns c.read_script.new.shelf) (g.S.Shelf.faults c.args.shelf.now) (g.S.Shelf.faults c.read_script.new.shelf) c.in-Refused.answer
    (rw (c.in-Refused.is, c.script_in.ensures) at c.in_ok-text.ensures.read)
