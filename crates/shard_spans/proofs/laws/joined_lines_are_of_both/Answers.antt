use Rattle.shard_spans.proofs.LinesOfBoth.{joined_lines_are_of_both}
use Rattle.shard_spans.proofs.laws.joined_lines_are_of_both.Goals as goal

pub returns : goal.returns
returns c = joined_lines_are_of_both
