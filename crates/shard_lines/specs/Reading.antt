-- The line that words are, within limits: each line has one text.
use Rattle.std.specs.Prelude.{ℕ, ℤ, Bool, true, false, List, [], ◌∷◌, length, Option, Some, None, option_map, if◌then◌else◌, ◌==◌, nat_le, bytes_eq, codes, decimal}
use Rattle.std.specs.List.{slice_split}
use Rattle.rdf_values.specs.{integer_of, magnitude_of, negative, positive, same, Scalar}
use Rattle.loop_pieces.specs.{Counts}
use Rattle.histograms.specs.{CellSum}
use Rattle.shard_lines.specs.Lines.{are_alike}
use Rattle.shard_lines.specs.declared.limits.LineLimits.{LineLimits}
use Rattle.shard_lines.specs.declared.line_kind.LineKind.{LineKind}
use Rattle.shard_lines.specs.declared.shard_line.ShardLine.{ShardLine}

-- ---- words

abbrev pub is_space : ℕ → Bool
is_space b = b == 32

-- the words of a line's text
abbrev pub words_in : List ℕ → List (List ℕ)
words_in text = slice_split is_space text

-- the words behind one, each of which follows a space
abbrev pub words_behind : List ℕ → List (List ℕ)
words_behind [] = []
words_behind (b ∷ bs) = words_in bs

-- ---- numbers

-- the number with a sign, where its absolute value is at most that
abbrev pub sum_of_word : ℕ → List ℕ → Option ℤ
sum_of_word most [] = None
sum_of_word most (b ∷ bs) = if b == 45 then negative (magnitude_of most bs) else positive (magnitude_of most (b ∷ bs))

abbrev pub scalar_of : List ℕ → Option Scalar
scalar_of w = if same w (codes "true") then Some (Scalar.Bool true) else (if same w (codes "false") then Some (Scalar.Bool false) else option_map Scalar.Int (integer_of w))

abbrev pub extreme_of_word : List ℕ → Option (Option ℤ)
extreme_of_word w = if same w (codes "none") then Some None else option_map Some (integer_of w)

-- ---- lists

-- a first item and others, where all are there
abbrev pub onto : {A : Type 0} → Option A → Option (List A) → Option (List A)
onto None o = None
onto (Some x) None = None
onto (Some x) (Some xs) = Some (x ∷ xs)

-- each word is an item
abbrev pub each_of : {A : Type 0} → (List ℕ → Option A) → List (List ℕ) → Option (List A)
each_of read [] = Some []
each_of read (w ∷ ws) = onto (read w) (each_of read ws)

-- each two words are an item
abbrev pub pairs_of : {A : Type 0} → (List ℕ → List ℕ → Option A) → List (List ℕ) → Option (List A)
pairs_of read [] = Some []
pairs_of read (w ∷ []) = None
pairs_of read (w ∷ v ∷ ws) = onto (read w v) (pairs_of read ws)

abbrev pub both_of : {A B C : Type 0} → (A → B → C) → Option A → Option B → Option C
both_of make None o = None
both_of make (Some x) None = None
both_of make (Some x) (Some y) = Some (make x y)

abbrev pub cell_of : LineLimits → List ℕ → List ℕ → Option CellSum
cell_of m w v = both_of (λ s q. record { sum = s; squares = q }) (sum_of_word m.cell_sum w) (sum_of_word m.cell_squares v)

abbrev pub counts_of_words : LineLimits → List ℕ → List ℕ → Option Counts
counts_of_words m w v = both_of (λ a p. record { all = a; pass = p }) (magnitude_of m.count w) (magnitude_of m.count v)

-- the items, where the word is their number
abbrev pub numbered : {A : Type 0} → List ℕ → Option (List A) → Option (List A)
numbered w None = None
numbered w (Some xs) = if bytes_eq w (decimal (length xs)) then Some xs else None

-- a word that says how many items follow, and the items
abbrev pub list_of : {A : Type 0} → (List (List ℕ) → Option (List A)) → List (List ℕ) → Option (List A)
list_of read [] = None
list_of read (w ∷ ws) = numbered w (read ws)

-- ---- lines

abbrev pub is_short : Option ℕ → ℕ → Bool
is_short None n = true
is_short (Some most) n = nat_le n most

-- values of one sort, and not too many
abbrev pub one_sort : LineLimits → Option (List Scalar) → Option (List Scalar)
one_sort m None = None
one_sort m (Some xs) = if are_alike xs then (if is_short m.values (length xs) then Some xs else None) else None

-- the item that a lone word is
abbrev pub lone : {A : Type 0} → (List ℕ → Option A) → List (List ℕ) → Option A
lone read [] = None
lone read (w ∷ []) = read w
lone read (w ∷ v ∷ ws) = None

-- the kind of a line, by its first word
abbrev pub kind_of_word : List ℕ → Option LineKind
kind_of_word w =
    if same w (codes "count") then Some LineKind.Count
    else (if same w (codes "sum") then Some LineKind.Sum
    else (if same w (codes "number") then Some LineKind.Number
    else (if same w (codes "extreme") then Some LineKind.Extreme
    else (if same w (codes "take") then Some LineKind.Take
    else (if same w (codes "cells") then Some LineKind.Cells
    else (if same w (codes "report") then Some LineKind.Report else None))))))

-- the line of that kind, by its other words
abbrev pub line_behind : LineLimits → LineKind → List (List ℕ) → Option ShardLine
line_behind m LineKind.Count ws = option_map ShardLine.Count (lone (magnitude_of m.count) ws)
line_behind m LineKind.Sum ws = option_map ShardLine.Sum (lone (sum_of_word m.sum) ws)
line_behind m LineKind.Number ws = option_map ShardLine.Number (lone integer_of ws)
line_behind m LineKind.Extreme ws = option_map ShardLine.Extreme (lone extreme_of_word ws)
line_behind m LineKind.Take ws = option_map ShardLine.Take (one_sort m (list_of (each_of scalar_of) ws))
line_behind m LineKind.Cells ws = option_map ShardLine.Cells (list_of (pairs_of (cell_of m)) ws)
line_behind m LineKind.Report ws = option_map ShardLine.Report (list_of (pairs_of (counts_of_words m)) ws)

abbrev pub line_of_kind : LineLimits → Option LineKind → List (List ℕ) → Option ShardLine
line_of_kind m None ws = None
line_of_kind m (Some kind) ws = line_behind m kind ws

-- the line that the words are
abbrev pub line_of_words : LineLimits → List (List ℕ) → Option ShardLine
line_of_words m [] = None
line_of_words m (w ∷ ws) = line_of_kind m (kind_of_word w) ws
