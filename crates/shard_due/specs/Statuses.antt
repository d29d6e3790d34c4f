-- Statuses as numbers.
use Rattle.std.specs.Prelude.{ℕ, zero, suc}
use Rattle.input_files.specs.{FileStatuses}
use Rattle.shard_due.specs.declared.status.ShardStatus.{ShardStatus}
use Rattle.shard_due.specs.declared.status.ShardStatus.TheVariants.{Done, Memory, Words, ReadFault, WriteFault, NoFile, ScriptRefused, TableRefused, LoopFault, BadSpan, FileRefused, FilesDiffer, NotCovered, TooLong}

-- the exit status of the program
abbrev pub exit_status : ShardStatus → ℕ
exit_status Done = 0
exit_status Memory = 1
exit_status Words = 2
exit_status ReadFault = 3
exit_status WriteFault = 4
exit_status NoFile = 5
exit_status ScriptRefused = 6
exit_status TableRefused = 7
exit_status LoopFault = 8
exit_status BadSpan = 20
exit_status FileRefused = 21
exit_status FilesDiffer = 22
exit_status NotCovered = 23
exit_status TooLong = 24

-- the statuses where a file gives nothing
abbrev pub statuses : FileStatuses ShardStatus
statuses = record { read_failed = ReadFault; no_file = NoFile; script_refused = ScriptRefused; table_refused = TableRefused }

-- merged lines end with 0, or with 8 after a fault
abbrev pub printed_status : ℕ → ShardStatus
printed_status zero = Done
printed_status (suc n) = LoopFault

-- a status that is due: no fault of a file or of the output, and no want of memory
abbrev pub IsFinal : ShardStatus → Type 0
IsFinal Memory = ⊥
IsFinal ReadFault = ⊥
IsFinal WriteFault = ⊥
IsFinal status = Unit {0}
