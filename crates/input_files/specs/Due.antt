-- What is due of a program to a script and a table: a status of its own and the bytes that are written with it.
use Rattle.std.specs.Prelude.{◌≡◌, ◌⊎◌, ℕ, List, Option, length, nat_lt, MatchOption, MatchResult, ◌+◌, ◌<◌, [], ◌∷◌, ◌++◌, IfSome}
use Rattle.std.specs.Bool.{MatchBool}
use Rattle.rdf_values.specs.{IsScript, long_script_line, long_table_line, MarkedTable, no_file_line, RefusesScript, Script, script_cause_line, ScriptCause, table_cause_line, table_of, read_failed_line}
use Rattle.table_csv.specs.{csv_records}
use Rattle.rdf_outside.specs.{Appends, AppendsPart, Rose}

pub record Due (S : Type 0) : Type 0 where
  pub status : S
  pub bytes : List ℕ

abbrev pub due_of : {S : Type 0} → S → List ℕ → Due S
due_of status bytes = record { status = status; bytes = bytes }

-- the statuses of a program where a file gives nothing
pub record FileStatuses (S : Type 0) : Type 0 where
  pub read_failed : S
  pub no_file : S
  pub script_refused : S
  pub table_refused : S

abbrev pub max_script : ℕ
max_script = 65536

abbrev pub max_table : ℕ
max_table = 67108864

-- ---- stages, each of which goes on to the next with what it found

-- a file that isn't there is due its line
abbrev pub WithFile : {S : Type 0} → FileStatuses S → List ℕ → Option (List ℕ) → (List ℕ → Due S → Type 0) → Due S → Type 0
WithFile statuses name file Next due = MatchOption file (due ≡ due_of statuses.no_file (no_file_line name)) (λ bytes. Next bytes due)

-- the text is refused for a cause, or is a script
abbrev pub ReadsScript : {S : Type 0} → FileStatuses S → List ℕ → (Script → Due S → Type 0) → Due S → Type 0
ReadsScript statuses bytes Next due =
    ((c : ScriptCause) × RefusesScript bytes c × (due ≡ due_of statuses.script_refused (script_cause_line c))) ⊎ ((s : Script) × IsScript bytes s × Next s due)

-- a script has at most 65,536 bytes, which spell one
abbrev pub WithScript : {S : Type 0} → FileStatuses S → List ℕ → (Script → Due S → Type 0) → Due S → Type 0
WithScript statuses bytes Next due =
    MatchBool (nat_lt max_script (length bytes)) (due ≡ due_of statuses.script_refused long_script_line) (ReadsScript statuses bytes Next due)

-- a table has at most 67,108,864 bytes, which spell one
abbrev pub WithTable : {S : Type 0} → FileStatuses S → List ℕ → (MarkedTable → Due S → Type 0) → Due S → Type 0
WithTable statuses bytes Next due =
    MatchBool (nat_lt max_table (length bytes)) (due ≡ due_of statuses.table_refused long_table_line)
    (MatchResult (table_of (csv_records bytes)) (λ table. Next table due) (λ cause. due ≡ due_of statuses.table_refused (table_cause_line cause)))

-- a file that is there and holds a script
abbrev pub WithScriptFile : {S : Type 0} → FileStatuses S → List ℕ → Option (List ℕ) → (Script → Due S → Type 0) → Due S → Type 0
WithScriptFile statuses name file Next due = WithFile statuses name file (λ bytes d. WithScript statuses bytes Next d) due

-- a file that is there and holds a table
abbrev pub WithTableFile : {S : Type 0} → FileStatuses S → List ℕ → Option (List ℕ) → (MarkedTable → Due S → Type 0) → Due S → Type 0
WithTableFile statuses name file Next due = WithFile statuses name file (λ bytes d. WithTable statuses bytes Next d) due

-- a shelf's files by their names
abbrev pub Files : Type 0
Files = List ℕ → Option (List ℕ)

-- ---- the files that are turned to

-- the file that was turned to last
pub record IsLast (turns : List (List ℕ)) (name : List ℕ) : Type 0 where
  pub earlier : List (List ℕ)
  pub last : turns ≡ earlier ++ name ∷ []

-- the shelf was turned to the first ones of these names, in order: to each but the first only where what is before it was read
pub record AreTurnedTo (names : List (List ℕ)) (IsRead : ℕ → Type 0) (before after : List (List ℕ)) : Type 0 where
  pub turns : List (List ℕ)
  pub follow : after ≡ before ++ turns
  pub rest : List (List ℕ)
  pub in_order : names ≡ turns ++ rest
  pub called : (i : ℕ) → i + 1 < length turns → IsRead i

-- ---- what is written

-- the line of a failed read, with the name of the file that was turned to last
abbrev pub WritesReadFailed : List (List ℕ) → Option (List ℕ) → Option (List ℕ) → Type 0
WritesReadFailed turns before after = (name : List ℕ) × IsLast turns name × Appends before after (read_failed_line name)

-- a first part of that line
abbrev pub WritesPartOfReadFailed : List (List ℕ) → Option (List ℕ) → Option (List ℕ) → Type 0
WritesPartOfReadFailed turns before after = (name : List ℕ) × IsLast turns name × AppendsPart before after (read_failed_line name)

module _ {S : Type 0} (IsDue : Files → Due S → Type 0) where
  -- what is due with the status is written
  abbrev pub WritesDue : S → Option (List ℕ) → Option (List ℕ) → Files → Type 0
  WritesDue status before after files = (bytes : List ℕ) × IsDue files (due_of status bytes) × Appends before after bytes

  -- a first part of what is due is written
  abbrev pub WritesDuePart : Option (List ℕ) → Option (List ℕ) → Files → Type 0
  WritesDuePart before after files = (d : Due S) × IsDue files d × AppendsPart before after d.bytes

  -- where the output failed: a first part of what is due to the files that a shelf tells, or of the line of a failed read
  abbrev pub WritesPart : Option Files → List (List ℕ) → ℕ → ℕ → Option (List ℕ) → Option (List ℕ) → Type 0
  WritesPart told turns faults faults' before after =
      IfSome told (WritesDuePart before after) ⊎ (Rose faults faults' × WritesPartOfReadFailed turns before after)
