use Rattle.std.proofs.lemmas.Result.{IfOk-weaker}
use Rattle.rdf_program.proofs.Answering.{friend_answer, turned_to_friend, turned_to_table}
use Rattle.rdf_program.proofs.input.answer_files.Goals as goal

pub returns-in-Refused-2-clause-turns : goal.returns-in-Refused-2-clause-turns
returns-in-Refused-2-clause-turns g c =
    turned_to_table _ _ _ _ _ (rw c.in-Whole.is at c.in_ok-script.ensures.read).holds _ _ _ c.in_ok-script.ensures.turns c.in_ok-columns-in-None.ensures.turns

pub returns-in-Whole-2-clause-turns : goal.returns-in-Whole-2-clause-turns
returns-in-Whole-2-clause-turns g c =
    let read = rw c.in-Whole.is at c.in_ok-script.ensures.read in
    IfOk-weaker c.answer_script.result _ _ (λ _ _. turned_to_table _ _ _ _ _ read.holds _ _ _ c.in_ok-script.ensures.turns c.in_ok-columns-in-None.ensures.turns)
    c.answer_script.ensures

pub returns-in-Refused-3-clause-turns : goal.returns-in-Refused-3-clause-turns
returns-in-Refused-3-clause-turns g c =
    turned_to_table _ _ _ _ _ (rw c.in-Whole.is at c.in_ok-script.ensures.read).holds _ _ _ c.in_ok-script.ensures.turns c.in_ok-marked-in-Some.ensures.turns

pub returns-in-Whole-3-clause-turns : goal.returns-in-Whole-3-clause-turns
returns-in-Whole-3-clause-turns g c =
    let read = rw c.in-Whole.is at c.in_ok-script.ensures.read in
    let table = rw c.in_ok-script.ensures.same at (rw c.in-Whole-3.is at c.in_ok-marked-in-Some.ensures.read) in
    let turned =
    turned_to_friend _ _ _ _ _ read.holds _ table.holds _ c.in-Some.is _ _ _ _ c.in_ok-script.ensures.turns c.in_ok-marked-in-Some.ensures.turns
    c.answer_with_friend.ensures.turns in
    IfOk-weaker c.answer_with_friend.result _ _ (λ _ _. turned) c.answer_with_friend.ensures.answer

pub returns-in-Whole-3-clause-answer : goal.returns-in-Whole-3-clause-answer
returns-in-Whole-3-clause-answer g c =
    let read = rw c.in-Whole.is at c.in_ok-script.ensures.read in
    let table = rw c.in_ok-script.ensures.same at (rw c.in-Whole-3.is at c.in_ok-marked-in-Some.ensures.read) in
    let answer = rw (c.in_ok-marked-in-Some.ensures.same, c.in_ok-script.ensures.same) at c.answer_with_friend.ensures.answer in
    IfOk-weaker c.answer_with_friend.result _ _
    (λ a h.
    friend_answer _ _ _ _ _ read.holds _ table.holds _ c.in-Some.is _ _ _ _ _ _ _ _ _ a c.in_ok-script.ensures.later c.in_ok-marked-in-Some.ensures.later
    c.answer_with_friend.ensures.turns h) answer
