-- Laws of lines. Each is the contract of a function of this crate, and so proved.
use Rattle.std.specs.Prelude.{◌≡◌, ℕ, List, Some}
use Rattle.shard_lines.specs.Lines.{AreLimits, FitsLine, line_words}
use Rattle.shard_lines.specs.Reading.{line_of_words}
use Rattle.shard_lines.specs.declared.limits.LineLimits.{LineLimits}
use Rattle.shard_lines.specs.declared.shard_line.ShardLine.{ShardLine}

-- the words of a line within the limits are read as that line
abbrev pub LinesReadBack : Type 0
LinesReadBack = (m : LineLimits) (l : ShardLine) → AreLimits m → FitsLine m l → line_of_words m (line_words l) ≡ Some l

-- words that are read as a line are its words, and it is within the limits
abbrev pub ReadLinesFit : Type 0
ReadLinesFit = (m : LineLimits) (ws : List (List ℕ)) (l : ShardLine) → AreLimits m → line_of_words m ws ≡ Some l → (line_words l ≡ ws) × FitsLine m l
