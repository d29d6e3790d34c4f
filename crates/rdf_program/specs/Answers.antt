-- What the program answers before anything is written.
use Rattle.std.specs.Prelude.{◌≡◌, ◌⊎◌, ℕ, List, [], ◌∷◌, Option, Some, None, IfSome, IsSome, MatchOption, Ok, ◌++◌, ◌<◌, ◌≤◌}
use Rattle.rdf_outside.specs.{Rose, Appends, AppendsPart}
use Rattle.rdf_values.specs.{Function, MarkedTable, read_failed_line, Script, generated_table, table_of}
use Rattle.command_words.specs.{asked_of, Friend, Input}
use Rattle.input_files.specs.{due_of, Files, HoldsTheScript, HoldsTheTable, IsLast, marked_table, ReadFile, RefusesTableFile, Tells, WritesDuePart}
use Rattle.input_files.specs.Due.{Due}
use Rattle.result_text.specs.{usage_line}
use Rattle.rdf_program.specs.Due.{IsDueToFiles, IsDueToMade, IsFinal, ReadsFriend, WithFriendFile, IsDue}
use Rattle.rdf_program.specs.declared.answer.Answer.{Answer}
use Rattle.rdf_program.specs.declared.status.Status.{Status}
use Rattle.rdf_program.specs.declared.status.Status.TheVariants.{Words, ReadFault}
use Rattle.columns.specs.Views.{ColumnsView}
use Rattle.table_csv.specs.{columns_over, csv_records, marked_in, MarkedPieces}
use Rattle.input_files.specs.declared.refuse.FileCause.TheVariants.{TableRefused}
use Rattle.rdf_program.specs.declared.answer.Read.{Read}
use Rattle.rdf_program.specs.declared.answer.Read.TheVariants.{Whole, Refused}
use Rattle.rdf_program.specs.declared.means.LoopSettings.{LoopSettings}

-- the words ask for a run
abbrev pub AreTaken : List (List ℕ) → Type 0
AreTaken words = IsSome (asked_of words)

-- a status that is due once the words are taken
abbrev pub IsOfRun : Status → Type 0
IsOfRun Words = ⊥
IsOfRun status = IsFinal status

abbrev pub due_in : Answer → Due Status
due_in answer = due_of answer.status answer.text

-- the answer is due
abbrev pub Answers : (Due Status → Type 0) → Answer → Type 0
Answers IsDueTo answer = IsOfRun answer.status × IsDueTo (due_in answer)

-- a read of a file that may be read failed
pub record IsUnread (MayRead : List ℕ → Type 0) (before now : ℕ) (answer : Answer) : Type 0 where
  pub status : answer.status ≡ ReadFault
  pub rose : Rose before now
  pub name : List ℕ
  pub may_read : MayRead name
  pub text : answer.text ≡ read_failed_line name

-- an answer to the files that are told: what is due to them, or a failed read
abbrev pub IsAnswer : (Files → Due Status → Type 0) → (List ℕ → Type 0) → Option Files → ℕ → ℕ → Answer → Type 0
IsAnswer IsDueTo MayRead told before now answer = (IsOfRun answer.status × IfSome told (λ files. IsDueTo files (due_in answer))) ⊎ IsUnread MayRead before now answer

-- ---- which files are turned to

abbrev pub HoldsScript : Option (List ℕ) → Type 0
HoldsScript file = (script : Script) × HoldsTheScript script file

abbrev pub HoldsTable : Option (List ℕ) → Type 0
HoldsTable file = (table : MarkedTable) × HoldsTheTable table file

-- a friend is named, and the name is its file's
abbrev pub IsFriendsFile : Option Friend → List ℕ → Type 0
IsFriendsFile None name = ⊥
IsFriendsFile (Some friend) name = name ≡ friend.file

module _ (script table : List ℕ) (friend : Option Friend) (told : Option Files) where
  -- a script that was read calls for the table, and a table that was read then for the friend
  abbrev pub CallsForTable : Type 0
  CallsForTable = IfSome told (λ files. HoldsScript (files script))

  abbrev pub CallsForFriend : Type 0
  CallsForFriend = IfSome told (λ files. HoldsScript (files script) × HoldsTable (files table))

  -- the script, and then maybe the table, and then maybe the friend, each where it is called for
  abbrev pub AreTurnsTo : List (List ℕ) → Type 0
  AreTurnsTo turns =
      (turns ≡ script ∷ []) ⊎ ((turns ≡ script ∷ table ∷ []) × CallsForTable)
      ⊎ ((name : List ℕ) × IsFriendsFile friend name × (turns ≡ script ∷ table ∷ name ∷ []) × CallsForFriend)

  -- the file whose read failed, which is the last that was turned to: the script's, or the table's or the friend's where it is
  -- called for
  abbrev pub MayReadOf : List (List ℕ) → List ℕ → Type 0
  MayReadOf turns name = IsLast turns name × ((name ≡ script) ⊎ ((name ≡ table) × CallsForTable) ⊎ (IsFriendsFile friend name × CallsForFriend))

-- none with the generator's input
abbrev pub AreTurnsIn : Input → Option Files → List (List ℕ) → Type 0
AreTurnsIn (Input.Files script table friend) told turns = AreTurnsTo script table friend told turns
AreTurnsIn (Input.Generated entries seed) told turns = turns ≡ []

abbrev pub MayReadIn : Input → Option Files → List (List ℕ) → List ℕ → Type 0
MayReadIn (Input.Files script table friend) told turns name = MayReadOf script table friend told turns name
MayReadIn (Input.Generated entries seed) told turns name = ⊥

-- none where the words aren't taken
abbrev pub AreTurns : List (List ℕ) → Option Files → List (List ℕ) → Type 0
AreTurns words told turns = MatchOption (asked_of words) (turns ≡ []) (λ command. AreTurnsIn command.input told turns)

abbrev pub MayRead : List (List ℕ) → Option Files → List (List ℕ) → List ℕ → Type 0
MayRead words told turns name = MatchOption (asked_of words) ⊥ (λ command. MayReadIn command.input told turns name)

-- ---- the words

-- the answer to what the command names
abbrev pub AnswersInput : List Function → ℕ → ℕ → Input → Option Files → List (List ℕ) → ℕ → ℕ → Answer → Type 0
AnswersInput fns size watch (Input.Files script table friend) told turns before now answer =
    IsAnswer (IsDueToFiles fns size watch script table friend) (MayReadOf script table friend told turns) told before now answer
AnswersInput fns size watch (Input.Generated entries seed) told turns before now answer = Answers (IsDueToMade fns size watch entries seed) answer

-- the usage line, where the words aren't taken
abbrev pub AnswersWords : List Function → List (List ℕ) → Option Files → List (List ℕ) → ℕ → ℕ → Answer → Type 0
AnswersWords fns words told turns before now answer =
    MatchOption (asked_of words) (due_in answer ≡ due_of Words usage_line)
    (λ command. AnswersInput fns command.cluster command.watch command.input told turns before now answer)

-- ---- What reading a friend, or the generator's table, comes to.

-- the table that the friend's bytes spell, or why they spell none
abbrev pub ReadsFriendText : List ℕ → Read MarkedPieces → Type 0
ReadsFriendText bytes (Whole m) = table_of (csv_records bytes) ≡ Ok (marked_table m)
ReadsFriendText bytes (Refused a) = Answers (λ d. ReadsFriend bytes (λ other e. ⊥) d) a

-- the table that the friend's file holds, or why it holds none
abbrev pub ReadsFriendFile : Option Files → List ℕ → ℕ → ℕ → Read MarkedPieces → Type 0
ReadsFriendFile told name before now (Whole m) = Tells told name (HoldsTheTable (marked_table m))
ReadsFriendFile told name before now (Refused a) = IsAnswer (λ files d. WithFriendFile name (files name) (λ other e. ⊥) d) (λ unread. unread ≡ name) told before now a

-- the columns of the generator's table, as a file would hold it, over clusters of at most that size
abbrev pub ReadsMade : ℕ → ℕ → ℕ → ReadFile ColumnsView → Type 0
ReadsMade entries seed size (ReadFile.Whole columns) = HoldsTheTable (marked_in columns) (Some (generated_table entries seed)) × (columns ≡ columns_over (marked_in columns) size)
ReadsMade entries seed size (ReadFile.Refused r) = (r.cause ≡ TableRefused) × RefusesTableFile [] (Some (generated_table entries seed)) (due_of r.cause r.line)

-- ---- what the top call leaves written where a read or a write failed, and the files that it turned to

-- the words ask for a run over two files
abbrev pub NamesFiles : Input → Type 0
NamesFiles (Input.Files script table friend) = Unit {0}
NamesFiles (Input.Generated entries seed) = ⊥

abbrev pub NameFiles : List (List ℕ) → Type 0
NameFiles words = MatchOption (asked_of words) ⊥ (λ command. NamesFiles command.input)

-- what holds of the files of a shelf that tells them, and of all files where the words name none
abbrev pub OfFiles : List (List ℕ) → Option Files → (Files → Type 0) → Type 0
OfFiles words told P = IfSome told P × ((NameFiles words → ⊥) → (files : Files) → P files)

-- the line of a failed read, with the name of the file that the shelf was turned to
abbrev pub WritesReadFailed : List (List ℕ) → Option Files → List (List ℕ) → Option (List ℕ) → Option (List ℕ) → Type 0
WritesReadFailed words told turns before after = (name : List ℕ) × MayRead words told turns name × Appends before after (read_failed_line name)

-- a first part of that line
abbrev pub WritesPartOfReadFailed : List (List ℕ) → Option Files → List (List ℕ) → Option (List ℕ) → Option (List ℕ) → Type 0
WritesPartOfReadFailed words told turns before after = (name : List ℕ) × MayRead words told turns name × AppendsPart before after (read_failed_line name)

-- a first part of what is due, or of the line of a failed read where the shelf failed
abbrev pub WritesPart : List Function → List (List ℕ) → Option Files → List (List ℕ) → ℕ → ℕ → Option (List ℕ) → Option (List ℕ) → Type 0
WritesPart fns words told turns faults faults' before after =
    OfFiles words told (WritesDuePart (IsDue fns words) before after)
    ⊎ (Rose faults faults' × WritesPartOfReadFailed words told turns before after)

-- the shelf was turned to these files besides
abbrev pub TurnsBesides : List (List ℕ) → Option Files → List (List ℕ) → List (List ℕ) → Type 0
TurnsBesides words told before after = (turns : List (List ℕ)) × (after ≡ before ++ turns) × AreTurns words told turns

-- the settings are within their limits
pub record AreSettings (s : LoopSettings) : Type 0 where
  pub some_slots : 0 < s.slots
  pub few_slots : s.slots ≤ 16
  pub cluster : 1 ≤ s.cluster
  pub watch : 0 < s.watch
