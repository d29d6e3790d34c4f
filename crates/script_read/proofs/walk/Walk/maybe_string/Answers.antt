use Rattle.lemmas.proofs.{arith, refl}
use Rattle.std.proofs.lemmas.Grind.{common_steps}
use Rattle.script_read.specs.{MaybeString, one_string_wants}
use Rattle.script_read.proofs.Walked.{took_some, walk_over}
use Rattle.script_read.proofs.walk.Walk.maybe_string.Goals as goal

pub returns-in_err-text-clause-stuck : goal.returns-in_err-text-clause-stuck
returns-in_err-text-clause-stuck c h k = let begins = walk_over MaybeString one_string_wants k c.if-eat.ensures refl in grind (arith, common_steps)

pub returns-then-eat-clause-took : goal.returns-then-eat-clause-took
returns-then-eat-clause-took c = took_some c.if-eat.ensures c.in_ok-text.ensures.took
