use Rattle.merged_text.proofs.SamePasses.{lines_print_their_passes}
use Rattle.merged_text.proofs.laws.lines_print_their_passes.Goals as goal

pub returns : goal.returns
returns c = lines_print_their_passes
