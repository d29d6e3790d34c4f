use Rattle.rdf_values.proofs.OneScript.{good_name, good_names}
use Rattle.script_read.proofs.FirstBads.{handed_on, refused_later, refused_before, refused_after, good_values}
use Rattle.script_read.proofs.Walked.{says_vary}
use Rattle.script_read.proofs.statement.vary_one.Goals as goal

pub returns-clause-ok : goal.returns-clause-ok
returns-clause-ok c =
    rw (c.in_ok-push.ensures.ok, c.new-columns.ensures) (says_vary _ _ _ _ _ _ _ _ _ _ c.in_ok-column.ensures.ok c.in_ok-values.ensures.ok c.in_ok-tags.ensures.ok c.in_ok-name.ensures.ok)

pub returns-in_err-tags-clause-err : goal.returns-in_err-tags-clause-err
returns-in_err-tags-clause-err c =
    handed_on _ _ _ c.from_residual-in_err-tags.ensures.1
    (refused_later _ _ _ (good_name _ _ c.in_ok-column.ensures.ok)
    (refused_later _ _ _ (good_values _ _ c.in_ok-values.ensures.ok)
    (refused_before _ _ _ c.in_err-tags.ensures.err)))

pub returns-in_err-name-clause-err : goal.returns-in_err-name-clause-err
returns-in_err-name-clause-err c =
    handed_on _ _ _ c.from_residual-in_err-name.ensures.1
    (refused_later _ _ _ (good_name _ _ c.in_ok-column.ensures.ok)
    (refused_later _ _ _ (good_values _ _ c.in_ok-values.ensures.ok)
    (refused_after _ _ _ (good_names _ _ c.in_ok-tags.ensures.ok) c.in_err-name.ensures.err)))
