use Rattle.std.proofs.Common.{◌≡◌, ◌∙◌, Some, sym}
use Rattle.std.proofs.lemmas.Result.{IfOk-weaker}
use Rattle.entry_fns.specs.{functions_in}
use Rattle.snapshot_words.specs.{asked_of}
use Rattle.snapshot_program.proofs.Answering.{inputs_answer, refusal_answer}
use Rattle.snapshot_program.proofs.words.answer_words.Goals as goal

pub returns-in-Both-clause-answer : goal.returns-in-Both-clause-answer
returns-in-Both-clause-answer g c =
    let asked : asked_of c.args.words.now ≡ Some c.in-Some.command = sym c.in_ok-command.ensures ∙ c.in-Some.is in
    let read = rw c.in-Both.is at c.in_ok-inputs.ensures.read in
    IfOk-weaker c.answer_over.result _ _
    (λ a h.
    inputs_answer (functions_in c.args.functions.now) c.args.words.now c.in-Some.command asked (g.S.Shelf.files c.args.shelf.now) (g.S.Shelf.turns c.read_inputs.new.shelf) (g.S.Shelf.faults c.args.shelf.now)
    (g.S.Shelf.faults c.read_inputs.new.shelf) c.in-Both.inputs a read h) c.answer_over.ensures

pub returns-clause-answer : goal.returns-clause-answer
returns-clause-answer g c =
    let asked : asked_of c.args.words.now ≡ Some c.in-Some.command = sym c.in_ok-command.ensures ∙ c.in-Some.is in
    let read = rw c.in-Refused.is at c.in_ok-inputs.ensures.read in
    refusal_answer (functions_in c.args.functions.now) c.args.words.now c.in-Some.command asked (g.S.Shelf.files c.args.shelf.now) (g.S.Shelf.turns c.read_inputs.new.shelf) (g.S.Shelf.faults c.args.shelf.now)
    (g.S.Shelf.faults c.read_inputs.new.shelf) c.in-Refused.answer read
