use Rattle.lemmas.proofs.{[], ◌∷◌}
use Rattle.entry_fns.specs.{functions_in}
use Rattle.chain_due.specs.{IsEachPrinted, IsPrintDue}
use Rattle.chain_program.specs.{AreTurned, IsAnswer, IsPartFile, IsPrintedBy}
use Rattle.chain_program.specs.Answers.{Answers}
use Rattle.chain_program.proofs.Joining.{only_one, printable}
use Rattle.chain_program.proofs.Refusing.{printed, unfitting}
use Rattle.chain_program.proofs.Staging.{always_ok, if_ok}
use Rattle.chain_program.proofs.print.print_file.Goals as goal

pub print_fitting-requires-clause-part : goal.print_fitting-requires-clause-part
print_fitting-requires-clause-part g c =
    let hold = rw (c.in-Whole.is, c.from_ref-names.ensures.value) at c.in_ok-parts.ensures.read in
    let fit = rw (c.in-Whole-2.is, c.as_slice.ensures) at c.in_ok-fitting.ensures in
    printable (functions_in c.args.functions.now) c.args.text.bytes c.args.text.script c.in-Whole.parts c.at.result.now c.in-Whole-2.fitting hold.valid (only_one c.in-Whole.parts c.at.result.now hold.many c.at.ensures) fit

pub returns-in-Whole-2-clause-turns : goal.returns-in-Whole-2-clause-turns
returns-in-Whole-2-clause-turns g c =
    let told = g.S.Shelf.files c.args.shelf.now in
    always_ok c.print_fitting.result (AreTurned (IsPartFile told) (c.args.printing.now.part ∷ []) (g.S.Shelf.turns c.args.shelf.now) (g.S.Shelf.turns c.read_parts.new.shelf)) (rw c.from_ref-names.ensures.value at c.in_ok-parts.ensures.turns)

pub returns-in-Whole-2-clause-answer : goal.returns-in-Whole-2-clause-answer
returns-in-Whole-2-clause-answer g c =
    let told = g.S.Shelf.files c.args.shelf.now in
    let turns = g.S.Shelf.turns c.read_parts.new.shelf in
    let f0 = g.S.Shelf.faults c.args.shelf.now in
    let f1 = g.S.Shelf.faults c.read_parts.new.shelf in
    let fns = functions_in c.args.functions.now in
    let name = c.args.printing.now.part in
    let count = c.args.printing.now.count in
    let part = c.at.result.now in
    let hold = rw (c.in-Whole.is, c.from_ref-names.ensures.value) at c.in_ok-parts.ensures.read in
    let fit = rw (c.in-Whole-2.is, c.as_slice.ensures) at c.in_ok-fitting.ensures in
    let one = only_one c.in-Whole.parts part hold.many c.at.ensures in
    if_ok c.print_fitting.result (Answers (IsPrintedBy c.in-Whole-2.fitting.graph count part)) (IsAnswer (IsPrintDue fns c.args.text.bytes c.args.text.script count name) told turns f0 f1)
    (λ a h. printed told name turns f0 f1 a fns c.args.text.bytes c.args.text.script c.in-Whole.parts part count c.in-Whole-2.fitting hold one fit h) c.print_fitting.ensures

pub returns-clause-answer : goal.returns-clause-answer
returns-clause-answer g c =
    let fns = functions_in c.args.functions.now in
    let names = c.args.printing.now.part ∷ [] in
    let hold = rw (c.in-Whole.is, c.from_ref-names.ensures.value) at c.in_ok-parts.ensures.read in
    let refused = rw (c.in-Refused-2.is, c.as_slice.ensures, c.from_ref-names.ensures.value) at c.in_ok-fitting.ensures in
    unfitting (g.S.Shelf.files c.args.shelf.now) names (g.S.Shelf.turns c.read_parts.new.shelf) (g.S.Shelf.faults c.args.shelf.now) (g.S.Shelf.faults c.read_parts.new.shelf) c.in-Refused-2.answer fns c.args.text.bytes c.args.text.script c.in-Whole.parts hold
    (λ ss d. IsEachPrinted fns c.args.text.script c.args.printing.now.count ss d) refused
