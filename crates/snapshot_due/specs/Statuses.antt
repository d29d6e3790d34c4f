-- Statuses as numbers.
use Rattle.std.specs.Prelude.{ℕ}
use Rattle.input_files.specs.{FileStatuses}
use Rattle.snapshot_plan.specs.{SnapCause}
use Rattle.snapshot_due.specs.declared.status.SnapshotStatus.{SnapshotStatus}
use Rattle.snapshot_due.specs.declared.status.SnapshotStatus.TheVariants.{Done, Memory, Words, ReadFault, WriteFault, NoFile, ScriptRefused, TableRefused, LoopFault, BadNode, BadColumn, BadVariation, TooMany, TooLong}

-- the exit status of the program
abbrev pub exit_status : SnapshotStatus → ℕ
exit_status Done = 0
exit_status Memory = 1
exit_status Words = 2
exit_status ReadFault = 3
exit_status WriteFault = 4
exit_status NoFile = 5
exit_status ScriptRefused = 6
exit_status TableRefused = 7
exit_status LoopFault = 8
exit_status BadNode = 10
exit_status BadColumn = 11
exit_status BadVariation = 12
exit_status TooMany = 13
exit_status TooLong = 14

-- the statuses where a file gives nothing
abbrev pub statuses : FileStatuses SnapshotStatus
statuses = record { read_failed = ReadFault; no_file = NoFile; script_refused = ScriptRefused; table_refused = TableRefused }

-- the statuses where there is no plan
abbrev pub status_of : SnapCause → SnapshotStatus
status_of SnapCause.BadNode = BadNode
status_of (SnapCause.BadColumn i) = BadColumn
status_of SnapCause.BadVariation = BadVariation
status_of (SnapCause.TooMany n) = TooMany

-- a status that is due: no fault of a file or of the output, and no want of memory
abbrev pub IsFinal : SnapshotStatus → Type 0
IsFinal Memory = ⊥
IsFinal ReadFault = ⊥
IsFinal WriteFault = ⊥
IsFinal status = Unit {0}
