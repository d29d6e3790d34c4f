use Rattle.lemmas.proofs.{arith, subst}
use Rattle.graph.specs.{AreTables, statements}
use Rattle.graph.proofs.Finished.{gain_fits, empty, none_refused}
use Rattle.graph.proofs.book.+book_lines.Goals as goal

pub returns-in_default-clause-booked : goal.returns-in_default-clause-booked
returns-in_default-clause-booked t c =
    subst (λ ls. AreTables c.args.header.now c.args.names.now (statements ls) c.in_ok-start.field-0) (empty c.args.lines.now c.in_default.ensures.cases) (c.in_ok-start.ensures c.args.names.now)

pub returns-in-Err-Cause-clause-refused : goal.returns-in-Err-Cause-clause-refused
returns-in-Err-Cause-clause-refused = grind (arith, none_refused)

pub add-requires : goal.add-requires
add-requires t c = gain_fits c.args.header.now c.args.names.now (statements c.in-Some.before.now) c.in-Some.last.now.statement c.in_ok-tables.tables c.in-Ok.gain c.in_ok-tables.ensures.booked c.in-Ok.ensures.gained
