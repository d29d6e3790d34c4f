use Rattle.entry_fns.specs.{functions_in}
use Rattle.table_csv.specs.{marked_in}
use Rattle.chain_program.proofs.Chaining.{over_of}
use Rattle.chain_program.proofs.first_table.first_table.Goals as goal

pub returns-in_ok-first_loops-in-Whole-2-clause-read : goal.returns-in_ok-first_loops-in-Whole-2-clause-read
returns-in_ok-first_loops-in-Whole-2-clause-read g c =
    let read = rw c.in-Whole.is at c.in_ok-columns.ensures.read in
    let books = rw c.in-Whole-2.is at c.in_ok-booked.ensures in (
      marked_in c.in-Whole.columns,
      read.holds,
      over_of (functions_in c.args.means.now.functions.now) c.args.script c.args.file (marked_in c.in-Whole.columns) c.in-Whole-2.booked c.in_ok-first_loops-in-Whole-2.field-0 books c.in_ok-first_loops-in-Whole-2.ensures,
    )
