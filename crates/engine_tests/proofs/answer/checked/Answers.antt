use Rattle.engine_tests.proofs.Fitting.{all_fit}
use Rattle.engine_tests.proofs.answer.checked.Goals as goal

pub returns-clause-fit : goal.returns-clause-fit
returns-clause-fit g c = all_fit _ _ _ _ c.in_ok-scope.ensures c.in_ok-check.ensures.kinds
