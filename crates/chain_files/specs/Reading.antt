-- Reading a part: the line that words are, and what was read so far, line after line.
use Rattle.std.specs.Prelude.{ℕ, ℤ, nat_abs, Bool, true, ◌&&◌, ◌||◌, ◌*◌, ◌-◌, ◌^◌, List, [], ◌∷◌, ◌++◌, length, Option, Some, None, option_map, if◌then◌else◌, nat_eq, nat_le, nat_lt, codes}
use Rattle.std.specs.List.{list_all}
use Rattle.rdf_values.specs.{EntryFault, has_name, magnitude_of, same}
use Rattle.loop_pieces.specs.{Counts}
use Rattle.histograms.specs.{CellSum}
use Rattle.shard_lines.specs.{both_of, line_of_words, lone, ShardLine}
use Rattle.shard_files.specs.{fault_kind_of, name_of, stored_kind_of}
use Rattle.chain_files.specs.Parts.{PartView, is_digest, widest}
use Rattle.chain_files.specs.declared.part_line.PartLine.{PartLine}
use Rattle.chain_files.specs.declared.part_word.PartWord.{PartWord}
use Rattle.chain_files.specs.declared.progress.PartProgress.{PartProgress}
use Rattle.chain_files.specs.declared.progress.PartStage.{PartStage}
use Rattle.chain_files.specs.declared.part_loop.PartLoop.TheVariants.{Whole, Faulted}

-- ---- lines

abbrev pub files_of_words : List ℕ → List ℕ → Option PartLine
files_of_words w v = both_of PartLine.Files (magnitude_of 16777216 w) (magnitude_of 16777216 v)

abbrev pub entries_of_word : List ℕ → Option PartLine
entries_of_word w = option_map PartLine.Entries (magnitude_of 16777216000000 w)

abbrev pub script_of_word : List ℕ → Option PartLine
script_of_word w = if is_digest w then Some (PartLine.Script w) else None

abbrev pub column_of_words : List ℕ → List ℕ → Option PartLine
column_of_words w v = both_of (λ name kind. PartLine.Column (record { name = name; kind = kind })) (name_of w) (stored_kind_of v)

-- a fault, where its parts are there
abbrev pub fault_from : Option ℕ → Option ℕ → Option ℕ → Option EntryFault → Option PartLine
fault_from None entry number kind = None
fault_from (Some f) None number kind = None
fault_from (Some f) (Some entry) None kind = None
fault_from (Some f) (Some entry) (Some number) None = None
fault_from (Some f) (Some entry) (Some number) (Some kind) = Some (PartLine.Fault (record { file = f; entry = entry; pass = number; kind = kind }))

abbrev pub fault_of_words : List ℕ → List ℕ → List ℕ → List ℕ → Option PartLine
fault_of_words w v u t = fault_from (magnitude_of 16777215 w) (magnitude_of 999999 v) (magnitude_of 8255 u) (fault_kind_of t)

abbrev pub version_of_word : List ℕ → Option PartLine
version_of_word w = if same w (codes "1") then Some PartLine.Version else None

-- a line without further words
abbrev pub bare : PartLine → List (List ℕ) → Option PartLine
bare l [] = Some l
bare l (w ∷ ws) = None

-- a line of two further words
abbrev pub two_of : (List ℕ → List ℕ → Option PartLine) → List (List ℕ) → Option PartLine
two_of read [] = None
two_of read (w ∷ []) = None
two_of read (w ∷ v ∷ []) = read w v
two_of read (w ∷ v ∷ u ∷ ws) = None

-- a line of four further words
abbrev pub four_of : (List ℕ → List ℕ → List ℕ → List ℕ → Option PartLine) → List (List ℕ) → Option PartLine
four_of read [] = None
four_of read (w ∷ []) = None
four_of read (w ∷ v ∷ []) = None
four_of read (w ∷ v ∷ u ∷ []) = None
four_of read (w ∷ v ∷ u ∷ t ∷ []) = read w v u t
four_of read (w ∷ v ∷ u ∷ t ∷ s ∷ ws) = None

abbrev pub part_word_of : List ℕ → Option PartWord
part_word_of w =
    if same w (codes "rdfpart") then Some PartWord.Version
    else (if same w (codes "files") then Some PartWord.Files
    else (if same w (codes "entries") then Some PartWord.Entries
    else (if same w (codes "script") then Some PartWord.Script
    else (if same w (codes "column") then Some PartWord.Column
    else (if same w (codes "loop") then Some PartWord.Loop
    else (if same w (codes "fault") then Some PartWord.Fault
    else (if same w (codes "end") then Some PartWord.End else None)))))))

-- the line with that first word, by its other words
abbrev pub part_line_behind : PartWord → List (List ℕ) → Option PartLine
part_line_behind PartWord.Version ws = lone version_of_word ws
part_line_behind PartWord.Files ws = two_of files_of_words ws
part_line_behind PartWord.Entries ws = lone entries_of_word ws
part_line_behind PartWord.Script ws = lone script_of_word ws
part_line_behind PartWord.Column ws = two_of column_of_words ws
part_line_behind PartWord.Loop ws = bare PartLine.Loop ws
part_line_behind PartWord.Fault ws = four_of fault_of_words ws
part_line_behind PartWord.End ws = bare PartLine.End ws

abbrev pub part_line_by : Option PartWord → List ℕ → List (List ℕ) → Option PartLine
part_line_by None w ws = option_map PartLine.Pass (line_of_words widest (w ∷ ws))
part_line_by (Some word) w ws = part_line_behind word ws

-- the line that the words are
abbrev pub part_line_of : List (List ℕ) → Option PartLine
part_line_of [] = None
part_line_of (w ∷ ws) = part_line_by (part_word_of w) w ws

-- ---- what so many entries come to

abbrev pub is_small : ℕ → ℤ → Bool
is_small most z = nat_le (nat_abs z) most

abbrev pub is_cell_within : ℕ → CellSum → Bool
is_cell_within n c = is_small (n * 2 ^ 43) c.sum && is_small (n * 2 ^ 74) c.squares

abbrev pub is_count_within : ℕ → Counts → Bool
is_count_within n c = nat_le c.all n && nat_le c.pass n

-- so many entries can come to the line
abbrev pub is_within : ℕ → ShardLine → Bool
is_within n (ShardLine.Count k) = nat_le k n
is_within n (ShardLine.Sum z) = is_small (n * 2 ^ 75) z
is_within n (ShardLine.Number z) = true
is_within n (ShardLine.Extreme z) = true
is_within n (ShardLine.Take xs) = nat_le (length xs) n
is_within n (ShardLine.Cells cs) = list_all (is_cell_within n) cs
is_within n (ShardLine.Report cs) = list_all (is_count_within n) cs

-- ---- what was read so far

abbrev pub on_first : PartProgress → PartLine → Option PartProgress
on_first p PartLine.Version = Some (record p { stage = PartStage.Files })
on_first p l = None

abbrev pub on_files : PartProgress → PartLine → Option PartProgress
on_files p (PartLine.Files first end) = if nat_lt first end then Some (record p { stage = PartStage.Entries; first_file = first; end_file = end }) else None
on_files p l = None

abbrev pub on_entries : PartProgress → PartLine → Option PartProgress
on_entries p (PartLine.Entries n) = if nat_le n (1000000 * (p.end_file - p.first_file)) then Some (record p { stage = PartStage.Script; entries = n }) else None
on_entries p l = None

abbrev pub on_script : PartProgress → PartLine → Option PartProgress
on_script p (PartLine.Script w) = Some (record p { stage = PartStage.Columns; script = w })
on_script p l = None

-- the columns are read, and there is one
abbrev pub behind_columns : PartStage → PartProgress → Option PartProgress
behind_columns next p = if nat_lt 0 (length p.columns) then Some (record p { stage = next }) else None

abbrev pub on_columns : PartProgress → PartLine → Option PartProgress
on_columns p (PartLine.Column c) = if has_name p.columns c.name || nat_le 64 (length p.columns) then None else Some (record p { columns = p.columns ++ c ∷ [] })
on_columns p PartLine.Loop = behind_columns PartStage.Within p
on_columns p PartLine.End = behind_columns PartStage.Ended p
on_columns p l = None

-- the loop is whole
abbrev pub closed : PartStage → PartProgress → Option PartProgress
closed next p = if nat_lt 0 (length p.lines) then Some (record p { stage = next; loops = p.loops ++ Whole p.lines ∷ []; lines = [] }) else None

abbrev pub on_within : PartProgress → PartLine → Option PartProgress
on_within p (PartLine.Pass l) = if is_within p.entries l then Some (record p { lines = p.lines ++ l ∷ [] }) else None
on_within p (PartLine.Fault f) =
    if nat_eq (length p.lines) 0 && (nat_le p.first_file f.file && nat_lt f.file p.end_file) then Some (record p { stage = PartStage.Faulted; loops = p.loops ++ Faulted f ∷ [] }) else None
on_within p PartLine.Loop = closed PartStage.Within p
on_within p PartLine.End = closed PartStage.Ended p
on_within p l = None

abbrev pub on_faulted : PartProgress → PartLine → Option PartProgress
on_faulted p PartLine.End = Some (record p { stage = PartStage.Ended })
on_faulted p l = None

abbrev pub step_at : PartStage → PartProgress → PartLine → Option PartProgress
step_at PartStage.First p l = on_first p l
step_at PartStage.Files p l = on_files p l
step_at PartStage.Entries p l = on_entries p l
step_at PartStage.Script p l = on_script p l
step_at PartStage.Columns p l = on_columns p l
step_at PartStage.Within p l = on_within p l
step_at PartStage.Faulted p l = on_faulted p l
step_at PartStage.Ended p l = None

-- what was read with one more line, where it may follow
abbrev pub step : PartProgress → PartLine → Option PartProgress
step p l = step_at p.stage p l

abbrev pub step_on : PartProgress → Option PartLine → Option PartProgress
step_on p None = None
step_on p (Some l) = step p l

-- the part that was read
abbrev pub part_of : PartProgress → PartView
part_of p = record { first_file = p.first_file; end_file = p.end_file; entries = p.entries; script = p.script; columns = p.columns; loops = p.loops }
