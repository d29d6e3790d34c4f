use Rattle.entry_fns.specs.{functions_in}
use Rattle.chain_files.specs.{in_order}
use Rattle.chain_due.specs.{IsJoinDue, IsJoined, WithFitting}
use Rattle.chain_program.specs.{AreTurned, IsAnswer, IsJoinedBy, IsPartFile}
use Rattle.chain_program.specs.Answers.{Answers}
use Rattle.chain_program.proofs.Joining.{joinable}
use Rattle.chain_program.proofs.Refusing.{joined, no_parts, unfitting}
use Rattle.chain_program.proofs.Staging.{always_ok, if_ok}
use Rattle.chain_program.proofs.join.join_files.Goals as goal

pub returns-in-Refused-clause-answer : goal.returns-in-Refused-clause-answer
returns-in-Refused-clause-answer g c =
    no_parts (g.S.Shelf.files c.args.shelf.now) c.args.joining.now.parts (g.S.Shelf.turns c.read_parts.new.shelf) (g.S.Shelf.faults c.args.shelf.now) (g.S.Shelf.faults c.read_parts.new.shelf) c.in-Refused.answer
    (λ ss e. WithFitting (functions_in c.args.functions.now) c.args.text.bytes c.args.text.script c.args.joining.now.parts ss (λ d. IsJoined (functions_in c.args.functions.now) c.args.text.script (in_order ss) d) e)
    (rw (c.in-Refused.is, c.as_slice-names.ensures) at c.in_ok-parts.ensures.read)

pub join_fitting-requires : goal.join_fitting-requires
join_fitting-requires g c = joinable (functions_in c.args.functions.now) c.args.text.bytes c.args.text.script c.in-Whole.parts c.in-Whole-2.fitting (rw (c.in-Whole-2.is, c.as_slice.ensures) at c.in_ok-fitting.ensures)

pub returns-in-Whole-2-clause-turns : goal.returns-in-Whole-2-clause-turns
returns-in-Whole-2-clause-turns g c =
    let told = g.S.Shelf.files c.args.shelf.now in
    always_ok c.join_fitting.result (AreTurned (IsPartFile told) c.args.joining.now.parts (g.S.Shelf.turns c.args.shelf.now) (g.S.Shelf.turns c.read_parts.new.shelf)) (rw c.as_slice-names.ensures at c.in_ok-parts.ensures.turns)

pub returns-in-Whole-2-clause-answer : goal.returns-in-Whole-2-clause-answer
returns-in-Whole-2-clause-answer g c =
    let told = g.S.Shelf.files c.args.shelf.now in
    let turns = g.S.Shelf.turns c.read_parts.new.shelf in
    let f0 = g.S.Shelf.faults c.args.shelf.now in
    let f1 = g.S.Shelf.faults c.read_parts.new.shelf in
    let fns = functions_in c.args.functions.now in
    let fit = rw (c.in-Whole-2.is, c.as_slice.ensures) at c.in_ok-fitting.ensures in
    let parts = rw (c.in-Whole.is, c.as_slice-names.ensures) at c.in_ok-parts.ensures.read in
    if_ok c.join_fitting.result (Answers (IsJoinedBy c.in-Whole-2.fitting.shapes (in_order c.in-Whole.parts))) (IsAnswer (IsJoinDue fns c.args.text.bytes c.args.text.script c.args.joining.now.parts) told turns f0 f1)
    (λ a h. joined told c.args.joining.now.parts turns f0 f1 a fns c.args.text.bytes c.args.text.script c.in-Whole.parts parts c.in-Whole-2.fitting fit h) c.join_fitting.ensures

pub returns-in-Refused-2-clause-answer : goal.returns-in-Refused-2-clause-answer
returns-in-Refused-2-clause-answer g c =
    let fns = functions_in c.args.functions.now in
    let names = c.args.joining.now.parts in
    let parts = rw (c.in-Whole.is, c.as_slice-names.ensures) at c.in_ok-parts.ensures.read in
    let refused = rw (c.in-Refused-2.is, c.as_slice.ensures, c.as_slice-names.ensures) at c.in_ok-fitting.ensures in
    unfitting (g.S.Shelf.files c.args.shelf.now) names (g.S.Shelf.turns c.read_parts.new.shelf) (g.S.Shelf.faults c.args.shelf.now) (g.S.Shelf.faults c.read_parts.new.shelf) c.in-Refused-2.answer fns c.args.text.bytes c.args.text.script c.in-Whole.parts parts
    (λ ss d. IsJoined fns c.args.text.script (in_order ss) d) refused
