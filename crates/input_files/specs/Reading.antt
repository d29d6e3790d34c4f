-- What reading a script's file, or a table's, comes to.
use Rattle.std.specs.Prelude.{◌≡◌, ◌<◌, ◌≤◌, ℕ, List, Bool, Option, Some, None, Result, Ok, Err, length, All, MatchResult}
use Rattle.rdf_values.specs.{Memory, history, IsBookable, IsScript, long_table_line, MarkedTable, no_file_line, read_failed_line, RefusesScript, Script, script_cause_line, ScriptCause, StatementsHaveWords, table_cause_line, table_of, TableCause}
use Rattle.rdf_outside.specs.{ReadRefusal, Rose, TurnStop}
use Rattle.input_files.specs.declared.whole_file.Fetched.{Fetched}
use Rattle.input_files.specs.declared.whole_file.Fetched.TheVariants.{Whole as WholeFile, Absent, TooLong, Failed}
use Rattle.columns.specs.Views.{ColumnsView}
use Rattle.table_csv.specs.{columns_over, csv_records, marked_in, MarkedPieces}
use Rattle.table_csv.specs.declared.refusal.TableRefusal.{TableRefusal}
use Rattle.input_files.specs.Due.{Due, FileStatuses, WithScriptFile, WithTableFile, due_of, max_script, max_table}
use Rattle.input_files.specs.declared.refuse.FileCause.{FileCause}
use Rattle.input_files.specs.declared.refuse.FileCause.TheVariants.{ReadFailed, NoFile, ScriptRefused, TableRefused}
use Rattle.input_files.specs.declared.refuse.ReadFile.{ReadFile}
use Rattle.input_files.specs.declared.refuse.ReadFile.TheVariants.{Whole, Refused}

-- ---- what reading a file by its name gives

-- what a shelf that tells its files has under a name, where it tells
abbrev pub Tells : Option (List ℕ → Option (List ℕ)) → List ℕ → (Option (List ℕ) → Type 0) → Type 0
Tells None name P = Unit {0}
Tells (Some files) name P = P (files name)

abbrev pub IsLongerThan : ℕ → Option (List ℕ) → Type 0
IsLongerThan max None = ⊥
IsLongerThan max (Some bytes) = max < length bytes

-- the whole file, if it is there and has at most max bytes, as what holds them; or a read that failed
abbrev pub IsFetchedIn : {T : Type 0} → (T → List ℕ) → ℕ → Option (List ℕ → Option (List ℕ)) → List ℕ → ℕ → ℕ → Fetched T → Type 0
IsFetchedIn bytes_of max files name before now (WholeFile holder) = Tells files name (λ file. file ≡ Some (bytes_of holder)) × (length (bytes_of holder) ≤ max)
IsFetchedIn bytes_of max files name before now Absent = Tells files name (λ file. file ≡ None)
IsFetchedIn bytes_of max files name before now TooLong = Tells files name (IsLongerThan max)
IsFetchedIn bytes_of max files name before now Failed = Rose before now

abbrev pub IsFetched : ℕ → Option (List ℕ → Option (List ℕ)) → List ℕ → ℕ → ℕ → Fetched (List ℕ) → Type 0
IsFetched max files name before now fetched = IsFetchedIn (λ bytes. bytes) max files name before now fetched

-- ---- what the steps of a fetch come to

-- what a whole read is as a fetch
abbrev pub fetched_by : {T : Type 0} → Result T ReadRefusal → Result (Fetched T) Memory
fetched_by (Ok holder) = Ok (WholeFile holder)
fetched_by (Err ReadRefusal.Memory) = Err (record {})
fetched_by (Err ReadRefusal.Failed) = Ok Failed
fetched_by (Err ReadRefusal.TooLarge) = Ok TooLong

-- what is left where no file was turned to
abbrev pub missed_by : {T : Type 0} → Result Bool TurnStop → Result (Fetched T) Memory
missed_by (Ok found) = Ok Absent
missed_by (Err TurnStop.Memory) = Err (record {})
missed_by (Err TurnStop.Failed) = Ok Failed

-- the causes as statuses of their own
abbrev pub causes : FileStatuses FileCause
causes = record { read_failed = ReadFailed; no_file = NoFile; script_refused = ScriptRefused; table_refused = TableRefused }

-- the status of a program for a cause
abbrev pub status_for : {S : Type 0} → FileStatuses S → FileCause → S
status_for statuses ReadFailed = statuses.read_failed
status_for statuses NoFile = statuses.no_file
status_for statuses ScriptRefused = statuses.script_refused
status_for statuses TableRefused = statuses.table_refused

-- the cause and line that are due to the file, or the line of a read that failed
abbrev pub Refuses : (Option (List ℕ) → Due FileCause → Type 0) → Option (List ℕ → Option (List ℕ)) → List ℕ → ℕ → ℕ → FileCause → List ℕ → Type 0
Refuses IsDueTo files name before now ReadFailed line = Rose before now × (line ≡ read_failed_line name)
Refuses IsDueTo files name before now cause line = Tells files name (λ file. IsDueTo file (due_of cause line))

-- ---- scripts

-- the file holds the script
abbrev pub HoldsTheScript : Script → Option (List ℕ) → Type 0
HoldsTheScript script None = ⊥
HoldsTheScript script (Some bytes) = (length bytes ≤ max_script) × IsScript bytes script

-- what is due to the file where it holds no script
abbrev pub RefusesScriptFile : List ℕ → Option (List ℕ) → Due FileCause → Type 0
RefusesScriptFile name file due = WithScriptFile causes name file (λ script d. ⊥) due

-- a script that can be booked
pub record IsScriptRead (files : Option (List ℕ → Option (List ℕ))) (name : List ℕ) (script : Script) : Type 0 where
  pub holds : Tells files name (HoldsTheScript script)
  pub bookable : IsBookable script
  pub words : StatementsHaveWords (history script)

-- the script that the file holds, or why it holds none
abbrev pub ReadsScriptFile : Option (List ℕ → Option (List ℕ)) → List ℕ → ℕ → ℕ → ReadFile Script → Type 0
ReadsScriptFile files name before now (Whole script) = IsScriptRead files name script
ReadsScriptFile files name before now (Refused r) = Refuses (RefusesScriptFile name) files name before now r.cause r.line

-- the script that the text is, or the line of its refusal
abbrev pub ReadsScriptText : List ℕ → ReadFile Script → Type 0
ReadsScriptText bytes (Whole script) = IsScript bytes script × IsBookable script × StatementsHaveWords (history script)
ReadsScriptText bytes (Refused r) = (r.cause ≡ ScriptRefused) × ((c : ScriptCause) × RefusesScript bytes c × (r.line ≡ script_cause_line c))

-- ---- tables

abbrev pub marked_table : MarkedPieces → MarkedTable
marked_table m = record { table = m.table; marks = m.marks }

-- the file holds the table
abbrev pub HoldsTheTable : MarkedTable → Option (List ℕ) → Type 0
HoldsTheTable table None = ⊥
HoldsTheTable table (Some bytes) = (length bytes ≤ max_table) × (table_of (csv_records bytes) ≡ Ok table)

-- what is due to the file where it holds no table
abbrev pub RefusesTableFile : List ℕ → Option (List ℕ) → Due FileCause → Type 0
RefusesTableFile name file due = WithTableFile causes name file (λ table d. ⊥) due

-- what was fetched of a table's file, or why it isn't the whole file
abbrev pub IsTaken : {T : Type 0} → List ℕ → Fetched T → ReadFile T → Type 0
IsTaken name (Fetched.Whole holder) read = read ≡ Whole holder
IsTaken name fetched (Whole holder) = ⊥
IsTaken name Fetched.Absent (Refused r) = (r.cause ≡ NoFile) × (r.line ≡ no_file_line name)
IsTaken name Fetched.TooLong (Refused r) = (r.cause ≡ TableRefused) × (r.line ≡ long_table_line)
IsTaken name Fetched.Failed (Refused r) = (r.cause ≡ ReadFailed) × (r.line ≡ read_failed_line name)

-- a table whose marks are entries of it
pub record IsTableRead (files : Option (List ℕ → Option (List ℕ))) (name : List ℕ) (m : MarkedPieces) : Type 0 where
  pub holds : Tells files name (HoldsTheTable (marked_table m))
  pub within : All (λ e. e < length m.table.rows) m.marks

-- the table that the file holds, or why it holds none
abbrev pub ReadsTableFile : Option (List ℕ → Option (List ℕ)) → List ℕ → ℕ → ℕ → ReadFile MarkedPieces → Type 0
ReadsTableFile files name before now (Whole m) = IsTableRead files name m
ReadsTableFile files name before now (Refused r) = Refuses (RefusesTableFile name) files name before now r.cause r.line

-- what the bytes of a table were read as, or the line of their refusal
abbrev pub IsSpelt : {T : Type 0} → Result T TableRefusal → ReadFile T → Type 0
IsSpelt read (Whole x) = read ≡ Ok x
IsSpelt read (Refused r) = (r.cause ≡ TableRefused) × ((cause : TableCause) × (read ≡ Err (TableRefusal.At cause)) × (r.line ≡ table_cause_line cause))

-- ---- columns

-- the columns, over clusters of at most that size, of the table that the file holds
pub record AreColumnsRead (files : Option (List ℕ → Option (List ℕ))) (name : List ℕ) (size : ℕ) (columns : ColumnsView) : Type 0 where
  pub holds : Tells files name (HoldsTheTable (marked_in columns))
  pub over : columns ≡ columns_over (marked_in columns) size

-- the columns of the table that the file holds, or why it holds none
abbrev pub ReadsColumnsFile : Option (List ℕ → Option (List ℕ)) → List ℕ → ℕ → ℕ → ℕ → ReadFile ColumnsView → Type 0
ReadsColumnsFile files name size before now (Whole columns) = AreColumnsRead files name size columns
ReadsColumnsFile files name size before now (Refused r) = Refuses (RefusesTableFile name) files name before now r.cause r.line

-- the columns of the table that the bytes spell, or the line of their refusal
abbrev pub ReadsColumnsText : List ℕ → ℕ → ReadFile ColumnsView → Type 0
ReadsColumnsText bytes size (Whole columns) = (table_of (csv_records bytes) ≡ Ok (marked_in columns)) × (columns ≡ columns_over (marked_in columns) size)
ReadsColumnsText bytes size (Refused r) = (r.cause ≡ TableRefused) × MatchResult (table_of (csv_records bytes)) (λ table. ⊥) (λ cause. r.line ≡ table_cause_line cause)
