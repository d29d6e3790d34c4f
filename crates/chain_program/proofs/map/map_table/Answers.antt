use Rattle.lemmas.proofs.{◌∙◌, ◌⊎◌, ◌≡◌, [], ◌∷◌, ap, subst, sym}
use Rattle.entry_fns.specs.{functions_in}
use Rattle.input_files.specs.{due_of}
use Rattle.chain_files.specs.{digest_of, IsPart}
use Rattle.chain_due.specs.{IsMapDue, IsText}
use Rattle.chain_due.specs.declared.status.ChainStatus.TheVariants.{Done, TooLong}
use Rattle.chain_program.specs.{AreTurned, IsAnswer, IsTableFile}
use Rattle.chain_program.specs.declared.answer.Answer.{Answer}
use Rattle.chain_program.proofs.Mapping.{map_due, mapped, mapped_is_part}
use Rattle.chain_program.proofs.Staging.{always_ok, if_ok}
use Rattle.chain_program.proofs.Turning.{turned_one}
use Rattle.chain_program.proofs.map.map_table.Goals as goal

pub new-part-requires : goal.new-part-requires
new-part-requires g c =
    let fns = functions_in c.args.means.now.functions.now in
    let read = rw c.in-Whole.is at c.in_ok-first.ensures.read in
    let digest = c.in_ok-script_digest.ensures.digest ∙ ap digest_of c.as_slice.ensures in
    let part = mapped fns c.args.text.bytes c.args.text.script c.args.mapping.now.number read.0 c.in-Whole.first c.from.result c.in_ok-script_digest.field-0 read.2 c.from.ensures digest in
    subst IsPart (sym part) (mapped_is_part fns c.args.text.bytes c.args.text.script c.args.mapping.now.number read.0 c.in-Whole.first c.requires.number c.requires.words c.answers_have_64_bits.ensures read.2)

pub returns-clause-turns : goal.returns-clause-turns
returns-clause-turns g c =
    let told = g.S.Shelf.files c.args.shelf.now in
    let before = g.S.Shelf.turns c.args.shelf.now in
    let after = g.S.Shelf.turns c.first_table.new.shelf in
    let turns = rw c.as_str-name.ensures at c.in_ok-first.ensures.turns in
    always_ok c.bounded.result (AreTurned (IsTableFile told) (c.args.mapping.now.table ∷ []) before after) (turned_one (IsTableFile told) c.args.mapping.now.table [] before after turns)

pub returns-clause-answer : goal.returns-clause-answer
returns-clause-answer g c =
    let fns = functions_in c.args.means.now.functions.now in
    let bytes = c.args.text.bytes in
    let script = c.args.text.script in
    let number = c.args.mapping.now.number in
    let name = c.args.mapping.now.table in
    let told = g.S.Shelf.files c.args.shelf.now in
    let turns = g.S.Shelf.turns c.first_table.new.shelf in
    let f0 = g.S.Shelf.faults c.args.shelf.now in
    let f1 = g.S.Shelf.faults c.first_table.new.shelf in
    let read = rw (c.in-Whole.is, c.as_str-name.ensures) at c.in_ok-first.ensures.read in
    let digest = c.in_ok-script_digest.ensures.digest ∙ ap digest_of c.as_slice.ensures in
    let part = c.new-part.ensures ∙ mapped fns bytes script number read.0 c.in-Whole.first c.from.result c.in_ok-script_digest.field-0 read.2 c.from.ensures digest in
    if_ok c.bounded.result (λ (a : Answer). IsText Done c.in_ok-printed.printed (due_of a.status a.text) × ((a.status ≡ Done) ⊎ (a.status ≡ TooLong))) (IsAnswer (IsMapDue fns bytes script number name) told turns f0 f1)
    (λ a h. map_due fns bytes script number told name turns f0 f1 a read.0 c.in-Whole.first c.new-part.result c.in_ok-printed.printed read.1 read.2 part c.in_ok-printed.ensures h) c.bounded.ensures
