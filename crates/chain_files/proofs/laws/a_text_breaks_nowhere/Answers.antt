use Rattle.chain_files.proofs.OnePart.{a_text_breaks_nowhere}
use Rattle.chain_files.proofs.laws.a_text_breaks_nowhere.Goals as goal

pub returns : goal.returns
returns c = a_text_breaks_nowhere
