-- What is due to the words, the files and the caller's functions: a status and the bytes that are written with it.
use Rattle.std.specs.Prelude.{◌≡◌, ◌⊎◌, ◌+◌, ℕ, List, [], ◌∷◌, ◌++◌, length, map, Option, nat_lt, MatchOption, MatchResult, unwrap_or, slice_get}
use Rattle.std.specs.Bool.{MatchBool}
use Rattle.rdf_values.specs.{Column, fn_names, Function, graph_cause_line, long_table_line, MarkedTable, Script, table_cause_line, table_of, verdict}
use Rattle.rdf_model.specs.{Printed}
use Rattle.table_csv.specs.{csv_records}
use Rattle.graph_numbers.specs.{GraphView}
use Rattle.input_files.specs.{due_of, max_table, WithFile, WithScript}
use Rattle.input_files.specs.Due.{Due}
use Rattle.shard_files.specs.{same_columns}
use Rattle.shard_spans.specs.{loops_of}
use Rattle.graph_shapes.specs.{graph_shapes}
use Rattle.chain_files.specs.{BreaksAt, digest_of, first_differing, first_misshapen, first_uncovered, in_order, IsFirstOther, IsPartText, joined_parts, part_text, PartView}
use Rattle.chain_runs.specs.{Chain, chain_loops, chain_part}
use Rattle.chain_text.specs.{chain_text}
use Rattle.chain_words.specs.{asked_of, ChainCommand}
use Rattle.chain_words.specs.declared.command.ChainCommand.TheVariants.{Run, Map, Join, Print}
use Rattle.chain_due.specs.Lines.{differs_line, file_refused_line, long_files_line, long_part_line, table_line, uncovered_line, usage_line}
use Rattle.chain_due.specs.Statuses.{printed_status, statuses}
use Rattle.chain_due.specs.declared.status.ChainStatus.{ChainStatus}
use Rattle.chain_due.specs.declared.status.ChainStatus.TheVariants.{Done, Words, ScriptRefused, TableRefused, FileRefused, FilesDiffer, NotCovered, TooLong}

abbrev pub ChainDue : Type 0
ChainDue = Due ChainStatus

-- the shelf's files by their names
abbrev pub Files : Type 0
Files = List ℕ → Option (List ℕ)

-- the most bytes of a text that is written, and of all parts that are read
abbrev pub max_part : ℕ
max_part = 134217728

abbrev pub max_parts : ℕ
max_parts = 1073741824

-- a text that isn't too long, with its status
abbrev pub IsText : ChainStatus → List ℕ → ChainDue → Type 0
IsText status text due = MatchBool (nat_lt max_part (length text)) (due ≡ due_of TooLong long_part_line) (due ≡ due_of status text)

abbrev pub name_at : List (List ℕ) → ℕ → List ℕ
name_at names i = unwrap_or (slice_get names i) []

-- ---- tables

-- a table of a chain, whose refusal has its name
abbrev pub WithTable : List ℕ → List ℕ → (MarkedTable → ChainDue → Type 0) → ChainDue → Type 0
WithTable name bytes Next due =
    MatchBool (nat_lt max_table (length bytes)) (due ≡ due_of TableRefused (table_line name long_table_line))
    (MatchResult (table_of (csv_records bytes)) (λ table. Next table due) (λ cause. due ≡ due_of TableRefused (table_line name (table_cause_line cause))))

abbrev pub WithTableFile : Files → List ℕ → (MarkedTable → ChainDue → Type 0) → ChainDue → Type 0
WithTableFile files name Next due = WithFile statuses name (files name) (λ bytes d. WithTable name bytes Next d) due

-- further tables in order, behind these, with the same columns
abbrev pub WithTables : Files → List Column → List MarkedTable → List (List ℕ) → (List MarkedTable → ChainDue → Type 0) → ChainDue → Type 0
WithTables files columns found [] Next due = Next found due
WithTables files columns found (name ∷ names) Next due =
    WithTableFile files name (λ t d. MatchBool (same_columns columns t.table.columns) (WithTables files columns (found ++ t ∷ []) names Next d) (d ≡ due_of FilesDiffer (differs_line name))) due

-- ---- parts

-- the bytes are refused at a line, or are the text of a part
abbrev pub ReadsPart : List ℕ → List ℕ → (PartView → ChainDue → Type 0) → ChainDue → Type 0
ReadsPart name bytes Next due = ((n : ℕ) × BreaksAt bytes n × (due ≡ due_of FileRefused (file_refused_line name n))) ⊎ ((s : PartView) × IsPartText bytes s × Next s due)

-- the parts in order, where so many bytes were read before, and these parts
abbrev pub WithParts : Files → ℕ → List PartView → List (List ℕ) → (List PartView → ChainDue → Type 0) → ChainDue → Type 0
WithParts files before found [] Next due = Next found due
WithParts files before found (name ∷ names) Next due =
    WithFile statuses name (files name)
    (λ bytes d. MatchBool (nat_lt max_parts (before + length bytes)) (d ≡ due_of TooLong long_files_line) (ReadsPart name bytes (λ s e. WithParts files (before + length bytes) (found ++ s ∷ []) names Next e) d)) due

-- ---- with the caller's functions
module _ (fns : List Function) where
  -- a script that is accepted over these columns; neither a part nor what is printed says anything of watched results
  abbrev pub WithAccepted : Script → List Column → (ChainDue → Type 0) → ChainDue → Type 0
  WithAccepted script columns Next due =
      MatchOption (verdict (fn_names fns) columns script) (Next due) (λ refused. due ≡ due_of ScriptRefused (graph_cause_line refused.0 refused.1))

  abbrev pub graph_over : Script → List Column → GraphView
  graph_over script columns = record { script = script; header = columns; names = fn_names fns }

  abbrev pub chain_of : List Column → List MarkedTable → Chain
  chain_of columns tables = record { fns = fns; columns = columns; tables = map (λ (t : MarkedTable). t.table.rows) tables }

  -- what a run over the tables prints
  abbrev pub printed_over : Script → List Column → List MarkedTable → Printed
  printed_over script columns tables = chain_text (graph_over script columns) (chain_loops (chain_of columns tables) 0 (loops_of script))

  -- to a run: any table's refusal goes before a fault
  abbrev pub IsRunDue : Script → List ℕ → List (List ℕ) → Files → ChainDue → Type 0
  IsRunDue script table tables files due =
      WithTableFile files table
      (λ t d. WithAccepted script t.table.columns
      (λ e. WithTables files t.table.columns (t ∷ []) tables
      (λ all f. f ≡ due_of (printed_status (printed_over script t.table.columns all).status) (printed_over script t.table.columns all).bytes) e) d) due

  -- to a run over one table, whose file has that number
  abbrev pub IsMapDue : List ℕ → Script → ℕ → List ℕ → Files → ChainDue → Type 0
  IsMapDue bytes script number table files due =
      WithTableFile files table (λ t d. WithAccepted script t.table.columns (λ e. IsText Done (part_text (chain_part bytes script (chain_of t.table.columns (t ∷ [])) number)) e) d) due

  -- to parts: they are of the script and of the first one's columns, over which the script is accepted, and have its shapes
  abbrev pub WithFitting : List ℕ → Script → List (List ℕ) → List PartView → (ChainDue → Type 0) → ChainDue → Type 0
  WithFitting bytes script names [] Next due = ⊥
  WithFitting bytes script names (first ∷ others) Next due =
      MatchOption (first_differing (digest_of bytes) (first ∷ others))
      (WithAccepted script first.columns
      (λ d. MatchOption (first_misshapen (graph_shapes (graph_over script first.columns)) (first ∷ others)) (Next d) (λ place. d ≡ due_of FilesDiffer (differs_line (name_at names place)))) due)
      (λ place. due ≡ due_of FilesDiffer (differs_line (name_at names place)))

  -- parts in the order of their files, joined
  abbrev pub IsJoined : Script → List PartView → ChainDue → Type 0
  IsJoined script [] due = ⊥
  IsJoined script (first ∷ others) due =
      MatchOption (first_uncovered (first ∷ others)) (IsText Done (part_text (joined_parts (graph_shapes (graph_over script first.columns)) first others)) due) (λ file. due ≡ due_of NotCovered (uncovered_line file))

  abbrev pub IsJoinDue : List ℕ → Script → List (List ℕ) → Files → ChainDue → Type 0
  IsJoinDue bytes script names files due = WithParts files 0 [] names (λ parts d. WithFitting bytes script names parts (λ e. IsJoined script (in_order parts) e) d) due

  -- what the part of so many files prints
  abbrev pub IsPrinted : Script → ℕ → PartView → ChainDue → Type 0
  IsPrinted script count s due =
      (o : Option ℕ) × IsFirstOther count s o
      × MatchOption o (IsText (printed_status (chain_text (graph_over script s.columns) s.loops).status) (chain_text (graph_over script s.columns) s.loops).bytes due) (λ file. due ≡ due_of NotCovered (uncovered_line file))

  abbrev pub IsEachPrinted : Script → ℕ → List PartView → ChainDue → Type 0
  IsEachPrinted script count [] due = ⊥
  IsEachPrinted script count (s ∷ others) due = IsPrinted script count s due

  abbrev pub IsPrintDue : List ℕ → Script → ℕ → List ℕ → Files → ChainDue → Type 0
  IsPrintDue bytes script count name files due =
      WithParts files 0 [] (name ∷ []) (λ parts d. WithFitting bytes script (name ∷ []) parts (λ e. IsEachPrinted script count parts e) d) due

  -- the file of a script, and the script
  abbrev pub WithScriptOf : Files → List ℕ → (List ℕ → Script → ChainDue → Type 0) → ChainDue → Type 0
  WithScriptOf files name Next due = WithFile statuses name (files name) (λ bytes d. WithScript statuses bytes (Next bytes) d) due

  abbrev pub IsRunOver : Script → List (List ℕ) → Files → ChainDue → Type 0
  IsRunOver script [] files due = ⊥
  IsRunOver script (table ∷ tables) files due = IsRunDue script table tables files due

  abbrev pub IsDueToCommand : ChainCommand → Files → ChainDue → Type 0
  IsDueToCommand (Run r) files due = WithScriptOf files r.script (λ bytes script d. IsRunOver script r.tables files d) due
  IsDueToCommand (Map m) files due = WithScriptOf files m.script (λ bytes script d. IsMapDue bytes script m.number m.table files d) due
  IsDueToCommand (Join j) files due = WithScriptOf files j.script (λ bytes script d. IsJoinDue bytes script j.parts files d) due
  IsDueToCommand (Print p) files due = WithScriptOf files p.script (λ bytes script d. IsPrintDue bytes script p.count p.part files d) due

-- to the words: the usage line, where they aren't taken
abbrev pub IsDue : List Function → List (List ℕ) → Files → ChainDue → Type 0
IsDue fns words files due = MatchOption (asked_of words) (due ≡ due_of Words usage_line) (λ command. IsDueToCommand fns command files due)
