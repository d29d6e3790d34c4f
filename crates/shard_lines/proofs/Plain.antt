-- No byte of a word is a space or a line's end, so that the words of a line are found again.
use Rattle.lemmas.proofs.{◌≡◌, ◌≢◌, ◌<◌, ℕ, suc, pos, negsuc, ℤ, Bool, true, false, ◌&&◌, List, [], ◌∷◌, length, map, flat_map, refl, ap, ◌∙◌, arith, codes, decimal, Option, None, Some, ◌==◌, nat_lt, both_true, ltb-true, nat_tests, signed_decimal}
use Rattle.rdf_values.specs.{Scalar}
use Rattle.loop_pieces.specs.{Counts}
use Rattle.histograms.specs.{CellSum}
use Rattle.shard_lines.specs.{cell_words, count_words, extreme_word, joined_words, line_words, scalar_word, ShardLine, words_in}
use Rattle.shard_lines.proofs.Cutting.{Spaceless, cut_at, cut_none}
use Rattle.shard_lines.proofs.Numerals.{Digits, decimal_digits}

abbrev pub Plain : List ℕ → Type 0
Plain [] = Unit {0}
Plain (b ∷ bs) = (32 < b) × Plain bs

abbrev pub AllPlain : List (List ℕ) → Type 0
AllPlain [] = Unit {0}
AllPlain (w ∷ ws) = Plain w × AllPlain ws

-- ---- words

digits_plain : (ds : List ℕ) → Digits ds → Plain ds
digits_plain [] h = tt
digits_plain (d ∷ ds) h = (let low = h.0 in omega arith, digits_plain ds h.2)

pub decimal_plain : (n : ℕ) → Plain (decimal n)
decimal_plain n = digits_plain (decimal n) (decimal_digits n)

pub signed_plain : (z : ℤ) → Plain (signed_decimal z)
signed_plain (pos n) = decimal_plain n
signed_plain (negsuc n) = (omega arith, decimal_plain (suc n))

abbrev pub are_plain : List ℕ → Bool
are_plain [] = true
are_plain (b ∷ bs) = nat_lt 32 b && are_plain bs

-- a word that is written out
pub written : (w : List ℕ) → are_plain w ≡ true → Plain w
written [] h = tt
written (b ∷ bs) h = let both = both_true (nat_lt 32 b) (are_plain bs) h in (ltb-true 32 b both.0, written bs both.1)

scalar_plain : (x : Scalar) → Plain (scalar_word x)
scalar_plain (Scalar.Int z) = signed_plain z
scalar_plain (Scalar.Bool true) = written (codes "true") refl
scalar_plain (Scalar.Bool false) = written (codes "false") refl

scalars_plain : (xs : List Scalar) → AllPlain (map scalar_word xs)
scalars_plain [] = tt
scalars_plain (x ∷ xs) = (scalar_plain x, scalars_plain xs)

extreme_plain : (z : Option ℤ) → Plain (extreme_word z)
extreme_plain None = written (codes "none") refl
extreme_plain (Some z) = signed_plain z

cells_plain : (cs : List CellSum) → AllPlain (flat_map cell_words cs)
cells_plain [] = tt
cells_plain (c ∷ cs) = (signed_plain c.sum, (signed_plain c.squares, cells_plain cs))

counts_plain : (cs : List Counts) → AllPlain (flat_map count_words cs)
counts_plain [] = tt
counts_plain (c ∷ cs) = (decimal_plain c.all, (decimal_plain c.pass, counts_plain cs))

pub line_plain : (l : ShardLine) → AllPlain (line_words l)
line_plain (ShardLine.Count n) = (written (codes "count") refl, (decimal_plain n, tt))
line_plain (ShardLine.Sum z) = (written (codes "sum") refl, (signed_plain z, tt))
line_plain (ShardLine.Number z) = (written (codes "number") refl, (signed_plain z, tt))
line_plain (ShardLine.Extreme z) = (written (codes "extreme") refl, (extreme_plain z, tt))
line_plain (ShardLine.Take xs) = (written (codes "take") refl, (decimal_plain (length xs), scalars_plain xs))
line_plain (ShardLine.Cells cs) = (written (codes "cells") refl, (decimal_plain (length cs), cells_plain cs))
line_plain (ShardLine.Report cs) = (written (codes "report") refl, (decimal_plain (length cs), counts_plain cs))

pub line_some : (l : ShardLine) → line_words l ≢ []
line_some (ShardLine.Count n) e = cc e
line_some (ShardLine.Sum z) e = cc e
line_some (ShardLine.Number z) e = cc e
line_some (ShardLine.Extreme z) e = cc e
line_some (ShardLine.Take xs) e = cc e
line_some (ShardLine.Cells cs) e = cc e
line_some (ShardLine.Report cs) e = cc e

-- ---- words are found again

no_space : (b : ℕ) → 32 < b → (b == 32) ≡ false
no_space b h = grind (arith, nat_tests)

spaceless : (w : List ℕ) → Plain w → Spaceless w
spaceless [] h = tt
spaceless (b ∷ bs) h = (no_space b h.0, spaceless bs h.1)

pub words_found : (ws : List (List ℕ)) → ws ≢ [] → AllPlain ws → words_in (joined_words ws) ≡ ws
words_found [] n h = absurd (n refl)
words_found (w ∷ []) n h = cut_none w (spaceless w h.0)
words_found (w ∷ v ∷ ws) n h = cut_at w 32 (joined_words (v ∷ ws)) (spaceless w h.0) refl ∙ ap (λ t. w ∷ t) (words_found (v ∷ ws) (λ e. cc e) h.1)
