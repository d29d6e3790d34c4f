use Rattle.lemmas.proofs.{◌∙◌, sym}
use Rattle.chain_words.proofs.Bounds.{asked_fits}
use Rattle.chain_program.proofs.words.answer_words.Goals as goal

pub answer_asked-requires-clause-limits : goal.answer_asked-requires-clause-limits
answer_asked-requires-clause-limits g c κs within = asked_fits c.args.words.now c.in-Some.command (sym c.in_ok-command.ensures ∙ c.in-Some.is)
