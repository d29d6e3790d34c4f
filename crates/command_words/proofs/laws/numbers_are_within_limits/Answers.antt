use Rattle.command_words.proofs.Taken.{asked_fits}
use Rattle.command_words.proofs.laws.numbers_are_within_limits.Goals as goal

pub returns : goal.returns
returns c = asked_fits
