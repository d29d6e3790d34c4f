use Rattle.lemmas.proofs.{◌∙◌, Some, ap, sym}
use Rattle.entry_fns.specs.{functions_in}
use Rattle.input_files.specs.{HoldsTheTable}
use Rattle.chain_program.specs.{HoldsTable, IsTableFile}
use Rattle.chain_program.proofs.Chaining.{graph_fits, run_answers, run_begins, run_refused}
use Rattle.chain_program.proofs.Staging.{from_told}
use Rattle.chain_program.proofs.Turning.{first_alone, first_and_more}
use Rattle.chain_program.proofs.run.run_tables.Goals as goal

pub returns-in-Refused-clause-turns : goal.returns-in-Refused-clause-turns
returns-in-Refused-clause-turns g c =
    first_alone (IsTableFile (g.S.Shelf.files c.args.shelf.now)) c.args.running.now.tables c.as_str-name.result.now (g.S.Shelf.turns c.args.shelf.now) (g.S.Shelf.turns c.first_table.new.shelf) (c.at.ensures ∙ ap Some (sym c.as_str-name.ensures)) c.in_ok-first.ensures.turns

pub other_tables-requires-clause-first : goal.other_tables-requires-clause-first
other_tables-requires-clause-first g c κs within =
    let read = rw c.in-Whole.is at c.in_ok-first.ensures.read in
    run_begins (functions_in c.args.means.now.functions.now) c.args.script read.0 c.in-Whole.first read.2 (g.S.Shelf.files c.args.shelf.now) (g.S.Shelf.files c.first_table.new.shelf) c.args.running.now.tables c.as_slice-tables.result.now c.as_str-name.result.now
    c.in_ok-first.ensures.same c.as_slice-tables.ensures (c.at.ensures ∙ ap Some (sym c.as_str-name.ensures)) read.1

pub chain_text-requires : goal.chain_text-requires
chain_text-requires g c =
    let read = rw c.in-Whole.is at c.in_ok-first.ensures.read in
    let all = rw c.in-Whole-2.is at c.in_ok-loops.ensures.read in
    graph_fits (functions_in c.args.means.now.functions.now) c.args.script read.0 c.in-Whole.first read.2 (g.S.Shelf.files c.first_table.new.shelf) c.args.running.now.tables c.as_slice-tables.result.now c.in-Whole-2.loops c.as_slice-in-Whole-2.result.now
    c.as_slice-tables.ensures c.requires.some c.requires.few c.requires.words c.answers_have_64_bits.ensures all c.as_slice-in-Whole-2.ensures

pub returns-in-Whole-2-clause-turns : goal.returns-in-Whole-2-clause-turns
returns-in-Whole-2-clause-turns g c =
    let told = g.S.Shelf.files c.args.shelf.now in
    let name = c.as_str-name.result.now in
    let read = rw c.in-Whole.is at c.in_ok-first.ensures.read in
    let more = rw (c.as_slice-tables.ensures, c.in_ok-first.ensures.same) at c.in_ok-loops.ensures.turns in
    first_and_more (IsTableFile told) c.args.running.now.tables name (g.S.Shelf.turns c.args.shelf.now) (g.S.Shelf.turns c.first_table.new.shelf) (g.S.Shelf.turns c.other_tables.new.shelf) (c.at.ensures ∙ ap Some (sym c.as_str-name.ensures)) c.in_ok-first.ensures.turns
    (from_told told name (HoldsTheTable read.0) (λ files. HoldsTable (files name)) read.1 (λ files k. (read.0, k))) more

pub returns-in-Whole-2-clause-answer : goal.returns-in-Whole-2-clause-answer
returns-in-Whole-2-clause-answer g c =
    let read = rw c.in-Whole.is at c.in_ok-first.ensures.read in
    let all = rw c.in-Whole-2.is at c.in_ok-loops.ensures.read in
    run_answers (functions_in c.args.means.now.functions.now) c.args.script read.0 c.in-Whole.first read.2 (g.S.Shelf.files c.args.shelf.now) (g.S.Shelf.files c.first_table.new.shelf) c.args.running.now.tables c.as_slice-tables.result.now
    (g.S.Shelf.turns c.other_tables.new.shelf) (g.S.Shelf.faults c.args.shelf.now) (g.S.Shelf.faults c.other_tables.new.shelf) _ c.new.result c.in-Whole-2.loops c.as_slice-in-Whole-2.result.now
    c.in_ok-first.ensures.same c.as_slice-tables.ensures all c.as_slice-in-Whole-2.ensures (c.new.ensures.0 ∙ c.printed_status.ensures) c.in_ok-printed-in-Whole-2.ensures.status (c.new.ensures.1 ∙ c.in_ok-printed-in-Whole-2.ensures.bytes)

pub returns-clause-turns : goal.returns-clause-turns
returns-clause-turns g c =
    let told = g.S.Shelf.files c.args.shelf.now in
    let name = c.as_str-name.result.now in
    let read = rw c.in-Whole.is at c.in_ok-first.ensures.read in
    let more = rw (c.as_slice-tables.ensures, c.in_ok-first.ensures.same) at c.in_ok-loops.ensures.turns in
    first_and_more (IsTableFile told) c.args.running.now.tables name (g.S.Shelf.turns c.args.shelf.now) (g.S.Shelf.turns c.first_table.new.shelf) (g.S.Shelf.turns c.other_tables.new.shelf) (c.at.ensures ∙ ap Some (sym c.as_str-name.ensures)) c.in_ok-first.ensures.turns
    (from_told told name (HoldsTheTable read.0) (λ files. HoldsTable (files name)) read.1 (λ files k. (read.0, k))) more

pub returns-clause-answer : goal.returns-clause-answer
returns-clause-answer g c =
    let read = rw c.in-Whole.is at c.in_ok-first.ensures.read in
    let stop = rw c.in-Refused-2.is at c.in_ok-loops.ensures.read in
    run_refused (functions_in c.args.means.now.functions.now) c.args.script read.0 c.in-Whole.first read.2 (g.S.Shelf.files c.args.shelf.now) (g.S.Shelf.files c.first_table.new.shelf) c.args.running.now.tables c.as_slice-tables.result.now
    (g.S.Shelf.turns c.other_tables.new.shelf) (g.S.Shelf.faults c.args.shelf.now) (g.S.Shelf.faults c.first_table.new.shelf) (g.S.Shelf.faults c.other_tables.new.shelf) c.in-Refused-2.answer c.in_ok-first.ensures.same c.as_slice-tables.ensures c.in_ok-first.ensures.later stop
