use Rattle.entry_fns.specs.{functions_in}
use Rattle.chain_program.proofs.Accepting.{not_booked}
use Rattle.chain_program.proofs.booking.book_over.Goals as goal

pub returns : goal.returns
returns g c =
    not_booked (functions_in c.args.means.now.functions.now) c.args.script _ c.args.columns.table.columns _ _ c.in-Err-At.line _ c.in-Err-At.cause _ c.in_ok-refused_script-in-Err-At.field-0
    c.columns-2.ensures.value c.names.ensures c.in-Err-At.field-0-is c.in-Err-At.ensures (cc c.in-Err-At.line-is) (cc c.in-Err-At.cause-is) c.in_ok-refused_script-in-Err-At.ensures
