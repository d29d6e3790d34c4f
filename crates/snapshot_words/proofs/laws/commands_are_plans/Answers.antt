use Rattle.snapshot_words.proofs.Bounds.{asked_fits}
use Rattle.snapshot_words.proofs.laws.commands_are_plans.Goals as goal

pub returns : goal.returns
returns c = asked_fits
