use Rattle.chain_files.proofs.OnePart.{a_text_is_of_one_part}
use Rattle.chain_files.proofs.laws.a_text_is_of_one_part.Goals as goal

pub returns : goal.returns
returns c = a_text_is_of_one_part
