use Rattle.rdf_values.proofs.OneScript.{good_names}
use Rattle.script_read.proofs.FirstBads.{handed_on, refused_here, refused_later, refused_before, refused_after, good_values}
use Rattle.script_read.proofs.statement.vary_all.Goals as goal

pub returns-in_err-names-2-clause-err : goal.returns-in_err-names-2-clause-err
returns-in_err-names-2-clause-err c =
    handed_on _ _ _ c.from_residual-in_err-names-2.ensures.1
    (refused_after _ _ _ (good_names _ _ c.in_ok-names.ensures.ok)
    (refused_later _ _ _ (good_values _ _ c.in_ok-values.ensures.ok)
    (refused_before _ _ _ c.in_err-names-2.ensures.err)))

pub returns-in_err-name-clause-err : goal.returns-in_err-name-clause-err
returns-in_err-name-clause-err c =
    handed_on _ _ _ c.from_residual-in_err-name.ensures.1
    (refused_after _ _ _ (good_names _ _ c.in_ok-names.ensures.ok)
    (refused_later _ _ _ (good_values _ _ c.in_ok-values.ensures.ok)
    (refused_after _ _ _ (good_names _ _ c.in_ok-names-2.ensures.ok)
    (refused_here _ _ _ c.in_err-name.ensures.err))))
