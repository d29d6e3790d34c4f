use Rattle.script_read.proofs.FirstBads.{handed_on, refused_later, good_expression}
use Rattle.script_read.proofs.statement.booking.Goals as goal

pub returns-in_err-maybe_label-in-Filter-clause-err : goal.returns-in_err-maybe_label-in-Filter-clause-err
returns-in_err-maybe_label-in-Filter-clause-err c =
    rw c.in-Filter.is (handed_on _ _ _ c.from_residual-in_err-maybe_label-in-Filter.ensures.1
    (refused_later _ _ _ (good_expression _ _ c.in_ok-expression-in-Filter.ensures.ok) c.in_err-maybe_label-in-Filter.ensures.err))
