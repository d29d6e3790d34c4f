-- The line of a pass: what it says, its limits, and its words.
use Rattle.std.specs.Prelude.{◌≡◌, ◌≤◌, ◌<◌, ◌^◌, ⊤, ℕ, ℤ, nat_abs, Bool, true, false, ◌||◌, List, [], ◌∷◌, length, map, flat_map, Option, Some, None, codes, decimal}
use Rattle.std.specs.Fmt.{signed_decimal}
use Rattle.std.specs.List.{join_with_byte, list_all}
use Rattle.rdf_values.specs.{Has64Bits, Scalar}
use Rattle.loop_pieces.specs.{Counts}
use Rattle.histograms.specs.{CellSum}
use Rattle.shard_lines.specs.declared.limits.LineLimits.{LineLimits}
use Rattle.shard_lines.specs.declared.shard_line.ShardLine.{ShardLine}

-- ---- limits

-- limits that a reader can keep: of counts in 63 bits, of sums in 127
pub record AreLimits (m : LineLimits) : Type 0 where
  pub count : m.count < 2 ^ 63
  pub sum : m.sum < 2 ^ 127
  pub cell_sum : m.cell_sum < 2 ^ 127
  pub cell_squares : m.cell_squares < 2 ^ 127

abbrev pub is_number : Scalar → Bool
is_number (Scalar.Int z) = true
is_number (Scalar.Bool b) = false

abbrev pub is_truth : Scalar → Bool
is_truth (Scalar.Int z) = false
is_truth (Scalar.Bool b) = true

-- all are numbers, or all are truth values
abbrev pub are_alike : List Scalar → Bool
are_alike xs = list_all is_number xs || list_all is_truth xs

abbrev pub FitsScalar : Scalar → Type 0
FitsScalar (Scalar.Int z) = Has64Bits z
FitsScalar (Scalar.Bool b) = ⊤

-- each item fits
abbrev pub EachFits : {A : Type 0} → (A → Type 0) → List A → Type 0
EachFits Fits [] = ⊤
EachFits Fits (x ∷ xs) = Fits x × EachFits Fits xs

-- a list has at most that many values, where there is a limit
abbrev pub IsShort : Option ℕ → ℕ → Type 0
IsShort None n = ⊤
IsShort (Some most) n = n ≤ most

-- the absolute value is at most that
abbrev pub IsSmall : ℕ → ℤ → Type 0
IsSmall most z = nat_abs z ≤ most

abbrev pub FitsCell : LineLimits → CellSum → Type 0
FitsCell m c = IsSmall m.cell_sum c.sum × IsSmall m.cell_squares c.squares

abbrev pub FitsCount : LineLimits → Counts → Type 0
FitsCount m c = (c.all ≤ m.count) × (c.pass ≤ m.count)

abbrev pub FitsExtreme : Option ℤ → Type 0
FitsExtreme None = ⊤
FitsExtreme (Some z) = Has64Bits z

-- values of one sort, in 64 bits, and not too many
pub record FitsTake (m : LineLimits) (xs : List Scalar) : Type 0 where
  pub alike : are_alike xs ≡ true
  pub fit : EachFits FitsScalar xs
  pub short : IsShort m.values (length xs)

-- what the line holds is within the limits
abbrev pub FitsLine : LineLimits → ShardLine → Type 0
FitsLine m (ShardLine.Count n) = n ≤ m.count
FitsLine m (ShardLine.Sum z) = IsSmall m.sum z
FitsLine m (ShardLine.Number z) = Has64Bits z
FitsLine m (ShardLine.Extreme z) = FitsExtreme z
FitsLine m (ShardLine.Take xs) = FitsTake m xs
FitsLine m (ShardLine.Cells cs) = EachFits (FitsCell m) cs
FitsLine m (ShardLine.Report cs) = EachFits (FitsCount m) cs

abbrev pub FitLines : LineLimits → List ShardLine → Type 0
FitLines m ls = EachFits (FitsLine m) ls

-- ---- words

abbrev pub scalar_word : Scalar → List ℕ
scalar_word (Scalar.Int z) = signed_decimal z
scalar_word (Scalar.Bool true) = codes "true"
scalar_word (Scalar.Bool false) = codes "false"

abbrev pub extreme_word : Option ℤ → List ℕ
extreme_word None = codes "none"
extreme_word (Some z) = signed_decimal z

-- a sum and its squares
abbrev pub cell_words : CellSum → List (List ℕ)
cell_words c = signed_decimal c.sum ∷ signed_decimal c.squares ∷ []

abbrev pub count_words : Counts → List (List ℕ)
count_words c = decimal c.all ∷ decimal c.pass ∷ []

-- the words of what a pass came to
abbrev pub line_words : ShardLine → List (List ℕ)
line_words (ShardLine.Count n) = codes "count" ∷ decimal n ∷ []
line_words (ShardLine.Sum z) = codes "sum" ∷ signed_decimal z ∷ []
line_words (ShardLine.Number z) = codes "number" ∷ signed_decimal z ∷ []
line_words (ShardLine.Extreme z) = codes "extreme" ∷ extreme_word z ∷ []
line_words (ShardLine.Take xs) = codes "take" ∷ decimal (length xs) ∷ map scalar_word xs
line_words (ShardLine.Cells cs) = codes "cells" ∷ decimal (length cs) ∷ flat_map cell_words cs
line_words (ShardLine.Report cs) = codes "report" ∷ decimal (length cs) ∷ flat_map count_words cs

-- words with one space between
abbrev pub joined_words : List (List ℕ) → List ℕ
joined_words ws = join_with_byte 32 ws
