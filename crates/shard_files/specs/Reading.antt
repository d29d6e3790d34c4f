-- Reading a shard: the line that words are, and what was read so far, line after line.
use Rattle.std.specs.Prelude.{ℕ, ◌&&◌, ◌||◌, List, [], ◌∷◌, ◌++◌, length, Option, Some, None, option_map, option_and_then, if◌then◌else◌, nat_eq, nat_le, nat_lt, codes}
use Rattle.rdf_values.specs.{ColType, EntryFault, has_name, is_name, magnitude_of, same}
use Rattle.rdf_values.specs.declared.results.EntryFault.TheVariants.{Overflow, ZeroDivisor, Index, EmptyVector, Lengths, VaryCount, Weight, Function}
use Rattle.shard_lines.specs.{both_of, line_of_words}
use Rattle.shard_files.specs.Shards.{ShardView, shard_limits}
use Rattle.shard_files.specs.declared.file_line.FileLine.{FileLine}
use Rattle.shard_files.specs.declared.file_word.FileWord.{FileWord}
use Rattle.shard_files.specs.declared.progress.Progress.{Progress}
use Rattle.shard_files.specs.declared.progress.Stage.{Stage}
use Rattle.shard_files.specs.declared.shard_loop.ShardLoop.TheVariants.{Whole, Faulted}

-- ---- lines

abbrev pub name_of : List ℕ → Option (List ℕ)
name_of w = if is_name w then Some w else None

-- the kind of a column of a table
abbrev pub stored_kind_of : List ℕ → Option ColType
stored_kind_of w = if same w (codes "int") then Some ColType.Int else (if same w (codes "vec") then Some ColType.Vect else None)

abbrev pub fault_of_number : ℕ → Option EntryFault
fault_of_number n =
    if nat_eq n 1 then Some Overflow
    else (if nat_eq n 2 then Some ZeroDivisor
    else (if nat_eq n 3 then Some Index
    else (if nat_eq n 4 then Some EmptyVector
    else (if nat_eq n 5 then Some Lengths
    else (if nat_eq n 6 then Some VaryCount
    else (if nat_eq n 7 then Some Weight
    else (if nat_eq n 8 then Some Function else None)))))))

abbrev pub fault_kind_of : List ℕ → Option EntryFault
fault_kind_of w = option_and_then fault_of_number (magnitude_of 8 w)

abbrev pub table_of_words : List ℕ → List ℕ → Option FileLine
table_of_words w v = both_of FileLine.Table (magnitude_of 1000000 w) (magnitude_of 1000000 v)

abbrev pub column_of_words : List ℕ → List ℕ → Option FileLine
column_of_words w v = both_of (λ name kind. FileLine.Column (record { name = name; kind = kind })) (name_of w) (stored_kind_of v)

abbrev pub span_of_words : List ℕ → List ℕ → Option FileLine
span_of_words w v = both_of FileLine.Span (magnitude_of 1000000 w) (magnitude_of 1000000 v)

-- a fault, where its parts are there
abbrev pub fault_from : Option ℕ → Option ℕ → Option EntryFault → Option FileLine
fault_from None number kind = None
fault_from (Some entry) None kind = None
fault_from (Some entry) (Some number) None = None
fault_from (Some entry) (Some number) (Some kind) = Some (FileLine.Fault (record { entry = entry; pass = number; kind = kind }))

abbrev pub fault_of_words : List ℕ → List ℕ → List ℕ → Option FileLine
fault_of_words w v u = fault_from (magnitude_of 999999 w) (magnitude_of 8255 v) (fault_kind_of u)

abbrev pub version_of : List (List ℕ) → Option FileLine
version_of [] = None
version_of (w ∷ []) = if same w (codes "1") then Some FileLine.Version else None
version_of (w ∷ v ∷ ws) = None

-- a line without further words
abbrev pub bare : FileLine → List (List ℕ) → Option FileLine
bare l [] = Some l
bare l (w ∷ ws) = None

-- a line of two further words
abbrev pub two_of : (List ℕ → List ℕ → Option FileLine) → List (List ℕ) → Option FileLine
two_of read [] = None
two_of read (w ∷ []) = None
two_of read (w ∷ v ∷ []) = read w v
two_of read (w ∷ v ∷ u ∷ ws) = None

-- a line of three further words
abbrev pub three_of : (List ℕ → List ℕ → List ℕ → Option FileLine) → List (List ℕ) → Option FileLine
three_of read [] = None
three_of read (w ∷ []) = None
three_of read (w ∷ v ∷ []) = None
three_of read (w ∷ v ∷ u ∷ []) = read w v u
three_of read (w ∷ v ∷ u ∷ t ∷ ws) = None

abbrev pub file_word_of : List ℕ → Option FileWord
file_word_of w =
    if same w (codes "rdfshard") then Some FileWord.Version
    else (if same w (codes "table") then Some FileWord.Table
    else (if same w (codes "column") then Some FileWord.Column
    else (if same w (codes "span") then Some FileWord.Span
    else (if same w (codes "loop") then Some FileWord.Loop
    else (if same w (codes "fault") then Some FileWord.Fault
    else (if same w (codes "end") then Some FileWord.End else None))))))

-- the line with that first word, by its other words
abbrev pub file_line_behind : FileWord → List (List ℕ) → Option FileLine
file_line_behind FileWord.Version ws = version_of ws
file_line_behind FileWord.Table ws = two_of table_of_words ws
file_line_behind FileWord.Column ws = two_of column_of_words ws
file_line_behind FileWord.Span ws = two_of span_of_words ws
file_line_behind FileWord.Loop ws = bare FileLine.Loop ws
file_line_behind FileWord.Fault ws = three_of fault_of_words ws
file_line_behind FileWord.End ws = bare FileLine.End ws

abbrev pub file_line_by : Option FileWord → List ℕ → List (List ℕ) → Option FileLine
file_line_by None w ws = option_map FileLine.Pass (line_of_words shard_limits (w ∷ ws))
file_line_by (Some word) w ws = file_line_behind word ws

-- the line that the words are
abbrev pub file_line_of : List (List ℕ) → Option FileLine
file_line_of [] = None
file_line_of (w ∷ ws) = file_line_by (file_word_of w) w ws

-- ---- what was read so far

abbrev pub on_first : Progress → FileLine → Option Progress
on_first p FileLine.Version = Some (record p { stage = Stage.Head })
on_first p l = None

abbrev pub on_head : Progress → FileLine → Option Progress
on_head p (FileLine.Table entries clusters) = Some (record p { stage = Stage.Columns; entries = entries; clusters = clusters })
on_head p l = None

abbrev pub on_columns : Progress → FileLine → Option Progress
on_columns p (FileLine.Column c) = if has_name p.columns c.name || nat_le 64 (length p.columns) then None else Some (record p { columns = p.columns ++ c ∷ [] })
on_columns p (FileLine.Span lo hi) = if nat_lt 0 (length p.columns) && (nat_le lo hi && nat_le hi p.clusters) then Some (record p { stage = Stage.Between; lo = lo; hi = hi }) else None
on_columns p l = None

abbrev pub on_between : Progress → FileLine → Option Progress
on_between p FileLine.Loop = Some (record p { stage = Stage.Within })
on_between p FileLine.End = Some (record p { stage = Stage.Ended })
on_between p l = None

-- the loop is whole
abbrev pub closed : Stage → Progress → Option Progress
closed next p = if nat_lt 0 (length p.lines) then Some (record p { stage = next; loops = p.loops ++ Whole p.lines ∷ []; lines = [] }) else None

abbrev pub on_within : Progress → FileLine → Option Progress
on_within p (FileLine.Pass l) = Some (record p { lines = p.lines ++ l ∷ [] })
on_within p (FileLine.Fault f) = if nat_eq (length p.lines) 0 then Some (record p { stage = Stage.Faulted; loops = p.loops ++ Faulted f ∷ [] }) else None
on_within p FileLine.Loop = closed Stage.Within p
on_within p FileLine.End = closed Stage.Ended p
on_within p l = None

abbrev pub on_faulted : Progress → FileLine → Option Progress
on_faulted p FileLine.End = Some (record p { stage = Stage.Ended })
on_faulted p l = None

abbrev pub step_at : Stage → Progress → FileLine → Option Progress
step_at Stage.First p l = on_first p l
step_at Stage.Head p l = on_head p l
step_at Stage.Columns p l = on_columns p l
step_at Stage.Between p l = on_between p l
step_at Stage.Within p l = on_within p l
step_at Stage.Faulted p l = on_faulted p l
step_at Stage.Ended p l = None

-- what was read with one more line, where it may follow
abbrev pub step : Progress → FileLine → Option Progress
step p l = step_at p.stage p l

abbrev pub step_on : Progress → Option FileLine → Option Progress
step_on p None = None
step_on p (Some l) = step p l

-- the shard that was read
abbrev pub shard_of : Progress → ShardView
shard_of p = record { entries = p.entries; clusters = p.clusters; columns = p.columns; lo = p.lo; hi = p.hi; loops = p.loops }
