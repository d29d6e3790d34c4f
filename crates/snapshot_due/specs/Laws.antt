-- Laws of what is due. Each is the contract of a function of this crate, and so proved.
use Rattle.std.specs.Prelude.{◌≡◌, ◌≤◌, ℕ, List, [], None, Some, Ok, length}
use Rattle.rdf_values.specs.{AnswerIn64Bits, Function, IsTable, MarkedTable, Script, table_of, TableView}
use Rattle.table_csv.specs.{csv_records}
use Rattle.input_files.specs.{due_of, Files, HoldsTheScript, HoldsTheTable, max_table}
use Rattle.snapshot_plan.specs.{plan_columns}
use Rattle.snapshot_rows.specs.{snapshot}
use Rattle.snapshot_words.specs.{asked_of, SnapCommand}
use Rattle.snapshot_due.specs.Due.{IsDue, dataset_of, plan_over}
use Rattle.snapshot_due.specs.Lines.{usage_line}
use Rattle.snapshot_due.specs.declared.status.SnapshotStatus.TheVariants.{Done, Words}

-- words that aren't taken are due the usage line, whatever the files
abbrev pub UntakenWordsAreDueUsage : Type 0
UntakenWordsAreDueUsage = (fns : List Function) (words : List (List ℕ)) (files : Files) → asked_of words ≡ None → IsDue fns words files (due_of Words usage_line)

-- ---- reading back

-- the bytes read as the snapshot that the words ask for, of the table that the file holds, by the script that the other file holds;
-- without a mark, and not too long for a table
pub record ReadsBack (fns : List Function) (words : List (List ℕ)) (files : Files) (bytes : List ℕ) : Type 0 where
  pub command : SnapCommand
  pub asked : asked_of words ≡ Some command
  pub script : Script
  pub holds_script : HoldsTheScript script (files command.script)
  pub own : MarkedTable
  pub holds_table : HoldsTheTable own (files command.table)
  pub shown : TableView
  pub is_snapshot : snapshot (plan_over fns command script own.table.columns) (dataset_of fns command own.table) ≡ Ok shown
  pub reads : table_of (csv_records bytes) ≡ Ok (record { table = shown; marks = [] })
  pub short : length bytes ≤ max_table
  pub is_table : IsTable shown
  pub columns : shown.columns ≡ plan_columns (plan_over fns command script own.table.columns)
  pub no_more : length shown.rows ≤ length own.table.rows

-- with functions that answer 64 bits, each text that is due as done reads back
abbrev pub SnapshotReadsBack : Type 0
SnapshotReadsBack = (fns : List Function) (words : List (List ℕ)) (files : Files) (bytes : List ℕ) → AnswerIn64Bits fns → IsDue fns words files (due_of Done bytes) → ReadsBack fns words files bytes
