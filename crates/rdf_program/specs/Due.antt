-- What is due to the words, the files and the caller's functions: a status and the bytes that are written with it. the friend, whose stages go on to the next with what they found
use Rattle.std.specs.Prelude.{◌≡◌, ℕ, List, Option, Some, None, length, nat_lt, MatchOption, MatchResult, zero, suc, ◌≤◌, Bool, false, Ok, is_some, if◌then◌else◌}
use Rattle.std.specs.Bool.{MatchBool}
use Rattle.rdf_values.specs.{fn_names, Function, generated_script, generated_table, graph_cause_line, history, MarkedTable, Script, table_of, TableView, verdict, IsScript, Pass}
use Rattle.rdf_model.specs.{Course, Dataset, IsCourse, transcript, event_loops, first_fault}
use Rattle.table_csv.specs.{csv_records}
use Rattle.command_words.specs.{asked_of, Friend, Input, Command}
use Rattle.friend_join.specs.{join_of}
use Rattle.result_text.specs.{friend_cause_line, join_cause_line, long_friend_line, usage_line}
use Rattle.input_files.specs.{due_of, Files, max_table, WithFile, WithScript, WithScriptFile, WithTable, WithTableFile, FileStatuses, max_script}
use Rattle.input_files.specs.Due.{Due}
use Rattle.rdf_program.specs.declared.status.Status.{Status}
use Rattle.rdf_program.specs.declared.status.Status.TheVariants.{Words, ScriptRefused, FriendRefused, Done, Memory, ReadFault, WriteFault, NoFile, TableRefused, LoopFault}
use Rattle.std.specs.List.{list_any}
use Rattle.command_words.specs.declared.command.Input.TheVariants.{Files as InputFiles, Generated}

-- ---- Statuses as numbers.

-- the exit status of the program
abbrev pub exit_status : Status → ℕ
exit_status Done = 0
exit_status Memory = 1
exit_status Words = 2
exit_status ReadFault = 3
exit_status WriteFault = 4
exit_status NoFile = 5
exit_status ScriptRefused = 6
exit_status TableRefused = 7
exit_status LoopFault = 8
exit_status FriendRefused = 9

-- the statuses where a file gives nothing
abbrev pub statuses : FileStatuses Status
statuses = record { read_failed = ReadFault; no_file = NoFile; script_refused = ScriptRefused; table_refused = TableRefused }

-- a transcript ends with 0, or with 8 after a fault
abbrev pub printed_status : ℕ → Status
printed_status zero = Done
printed_status (suc n) = LoopFault

-- a status that is due: no fault of a file or of the output, and no want of memory
abbrev pub IsFinal : Status → Type 0
IsFinal Memory = ⊥
IsFinal ReadFault = ⊥
IsFinal WriteFault = ⊥
IsFinal status = Unit {0}

-- a friend has at most 67,108,864 bytes, which spell a table; its marks aren't used
abbrev pub ReadsFriend : List ℕ → (MarkedTable → Due Status → Type 0) → Due Status → Type 0
ReadsFriend bytes Next due =
    MatchBool (nat_lt max_table (length bytes)) (due ≡ due_of FriendRefused long_friend_line)
    (MatchResult (table_of (csv_records bytes)) (λ other. Next other due) (λ cause. due ≡ due_of FriendRefused (friend_cause_line cause)))

-- a file that is there and holds a friend
abbrev pub WithFriendFile : List ℕ → Option (List ℕ) → (MarkedTable → Due Status → Type 0) → Due Status → Type 0
WithFriendFile name file Next due = WithFile statuses name file (λ bytes d. ReadsFriend bytes Next d) due

-- the friend joins the table, or is refused for a cause
abbrev pub JoinsFriend : Friend → MarkedTable → MarkedTable → (MarkedTable → Due Status → Type 0) → Due Status → Type 0
JoinsFriend friend table other Next due =
    MatchResult (join_of table.table other.table friend.key friend.missing) (λ joined. Next (record { table = joined; marks = table.marks }) due)
    (λ cause. due ≡ due_of FriendRefused (join_cause_line cause))

-- the table with the friend that is named, if one is
abbrev pub WithFriend : Option Friend → Files → MarkedTable → (MarkedTable → Due Status → Type 0) → Due Status → Type 0
WithFriend None files table Next due = Next table due
WithFriend (Some friend) files table Next due = WithFriendFile friend.file (files friend.file) (λ other d. JoinsFriend friend table other Next d) due

-- ---- with the caller's functions, over clusters of at most that size, noted after every so many clusters
module _ (fns : List Function) (size watch : ℕ) where
  -- a table with the caller's functions
  abbrev pub dataset_of : TableView → Dataset
  dataset_of table = record { fns = fns; columns = table.columns; rows = table.rows }

  -- the transcript of separate passes in some course of the loops: the sets of clusters over which watched results were noted are
  -- chains, and those that its lines show
  pub record IsPrinted (script : Script) (table : MarkedTable) (due : Due Status) : Type 0 where
    pub course : Course
    pub is_course : IsCourse (history script) (length table.table.rows) size table.marks watch course
    pub bytes : due.bytes ≡ (transcript script (dataset_of table.table) course).bytes
    pub status : due.status ≡ printed_status (transcript script (dataset_of table.table) course).status

  -- over a table the first line that is refused, or the transcript
  abbrev pub IsDueOver : Script → MarkedTable → Due Status → Type 0
  IsDueOver script table due =
      MatchOption (verdict (fn_names fns) table.table.columns script) (IsPrinted script table due)
      (λ refused. due ≡ due_of ScriptRefused (graph_cause_line refused.0 refused.1))

  -- to a script over the file of a table, and maybe of a friend
  abbrev pub IsDueToScript : Script → List ℕ → Option Friend → Files → Due Status → Type 0
  IsDueToScript script table friend files due =
      WithTableFile statuses table (files table) (λ own d. WithFriend friend files own (λ joined e. IsDueOver script joined e) d) due

  -- to two names of files, and maybe a friend
  abbrev pub IsDueToFiles : List ℕ → List ℕ → Option Friend → Files → Due Status → Type 0
  IsDueToFiles script table friend files due = WithScriptFile statuses script (files script) (λ s d. IsDueToScript s table friend files d) due

  -- to the generator's script over its table
  abbrev pub IsDueToMade : ℕ → ℕ → Due Status → Type 0
  IsDueToMade entries seed due =
      WithScript statuses generated_script (λ script d. WithTable statuses (generated_table entries seed) (λ table e. IsDueOver script table e) d) due

  -- to what the command names
  abbrev pub IsDueToInput : Files → Input → Due Status → Type 0
  IsDueToInput files (Input.Files script table friend) due = IsDueToFiles script table friend files due
  IsDueToInput files (Input.Generated entries seed) due = IsDueToMade entries seed due

-- to the words: the usage line, where they aren't taken
abbrev pub IsDue : List Function → List (List ℕ) → Files → Due Status → Type 0
IsDue fns words files due = MatchOption (asked_of words) (due ≡ due_of Words usage_line) (λ command. IsDueToInput fns command.cluster command.watch files command.input due)

-- ---- runs that nothing refuses, and the status in which such a run ends

-- the bytes of the script and of the table: those of the two files, or the generator's
abbrev pub AreTexts : (List ℕ → Option (List ℕ)) → Input → List ℕ → List ℕ → Type 0
AreTexts files (InputFiles script table friend) script_bytes table_bytes = (files script ≡ Some script_bytes) × (files table ≡ Some table_bytes)
AreTexts files (Generated entries seed) script_bytes table_bytes = (script_bytes ≡ generated_script) × (table_bytes ≡ generated_table entries seed)

-- the friend that joins the table: it is there, isn't too long, is a table, and joins it
pub record IsJoined (friend : Friend) (files : List ℕ → Option (List ℕ)) (own table : MarkedTable) : Type 0 where
  pub bytes : List ℕ
  pub there : files friend.file ≡ Some bytes
  pub short : length bytes ≤ max_table
  pub other : MarkedTable
  pub is_other : table_of (csv_records bytes) ≡ Ok other
  pub joins : join_of own.table other.table friend.key friend.missing ≡ Ok table.table
  pub marks : table.marks ≡ own.marks

-- the table of the run: that of its text, joined by the friend where one is named
abbrev pub IsWithFriend : Option Friend → (List ℕ → Option (List ℕ)) → MarkedTable → MarkedTable → Type 0
IsWithFriend None files own table = table ≡ own
IsWithFriend (Some friend) files own table = IsJoined friend files own table

-- the friend that the words name; none with the generator's input
abbrev pub friend_of : Input → Option Friend
friend_of (InputFiles script table friend) = friend
friend_of (Generated entries seed) = None

-- the words are taken, neither text is too long, the one is a script and the other a table, which the friend joins where one is
-- named, and the script is accepted over it
pub record IsAccepted (fns : List Function) (words : List (List ℕ)) (files : List ℕ → Option (List ℕ)) (script : Script) (table : MarkedTable) : Type 0 where
  pub command : Command
  pub taken : asked_of words ≡ Some command
  pub script_bytes : List ℕ
  pub table_bytes : List ℕ
  pub texts : AreTexts files command.input script_bytes table_bytes
  pub short_script : length script_bytes ≤ max_script
  pub short_table : length table_bytes ≤ max_table
  pub is_script : IsScript script_bytes script
  pub own : MarkedTable
  pub is_table : table_of (csv_records table_bytes) ≡ Ok own
  pub with_friend : IsWithFriend (friend_of command.input) files own table
  pub accepted : verdict (fn_names fns) table.table.columns script ≡ None

-- the loop of a Print has a first fault; where its result was filled before it runs none
abbrev pub has_fault : Dataset → Option (List Pass) → Bool
has_fault d None = false
has_fault d (Some passes) = is_some (first_fault d passes)

-- a loop of the script with a first fault ends the run, which is done where there is none
abbrev pub status_of_run : List Function → Script → MarkedTable → Status
status_of_run fns script table =
    if list_any (has_fault (record { fns = fns; columns = table.table.columns; rows = table.table.rows })) (event_loops (history script)) then LoopFault else Done

-- what is due to an accepted run has the status that the run ends in
abbrev pub AcceptedRunsEnd : Type 0
AcceptedRunsEnd =
    (fns : List Function) (words : List (List ℕ)) (files : List ℕ → Option (List ℕ)) (script : Script) (table : MarkedTable) (d : Due Status)
    → IsAccepted fns words files script table → IsDue fns words files d → d.status ≡ status_of_run fns script table
