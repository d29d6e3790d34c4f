-- Laws of what is due. Each is the contract of a function of this crate, and so proved.
use Rattle.std.specs.Prelude.{◌≡◌, ◌≤◌, ◌+◌, ◌⊎◌, ⊤, ℕ, zero, suc, true, List, [], ◌∷◌, Some, MatchOption, length, map, slice_get}
use Rattle.rdf_values.specs.{Column, Function, MarkedTable, Script, Span}
use Rattle.rdf_model.specs.{Course, transcript}
use Rattle.graph_numbers.specs.{IsGraph}
use Rattle.shard_files.specs.{same_columns}
use Rattle.shard_spans.specs.{loops_of}
use Rattle.shard_transcripts.specs.{IsUnwatched}
use Rattle.input_files.specs.{due_of, HoldsTheTable}
use Rattle.chain_files.specs.{end_file_of, first_file_of, in_order, PartView}
use Rattle.chain_runs.specs.{AreChecked, chain_loops, one_table, part_over}
use Rattle.chain_transcripts.specs.{PrintAs}
use Rattle.chain_due.specs.{chain_of, ChainDue, Files, graph_over, IsJoinDue, IsMapDue, IsPrintDue, IsRunDue, IsText, printed_over, printed_status}
use Rattle.chain_due.specs.declared.status.ChainStatus.TheVariants.{Done}

-- the files of these names hold these tables, in order, with the same columns
abbrev pub HoldTables : Files → List Column → List (List ℕ) → List MarkedTable → Type 0
HoldTables files columns [] [] = ⊤
HoldTables files columns [] (t ∷ tables) = ⊥
HoldTables files columns (name ∷ names) [] = ⊥
HoldTables files columns (name ∷ names) (t ∷ tables) = HoldsTheTable t (files name) × (same_columns columns t.table.columns ≡ true) × HoldTables files columns names tables

-- what is printed over the tables is due to the run, and is the transcript over the rows of all of them, up to the place in a fault's line
pub record IsDueTheTranscript (fns : List Function) (script : Script) (columns : List Column) (tables : List MarkedTable) (name : List ℕ) (names : List (List ℕ)) (files : Files) (course : Course) : Type 0 where
  pub due : IsRunDue fns script name names files (due_of (printed_status (printed_over fns script columns tables).status) (printed_over fns script columns tables).bytes)
  pub printed : PrintAs (chain_of fns columns tables) (graph_over fns script columns) (chain_loops (chain_of fns columns tables) 0 (loops_of script)) (transcript script (one_table (chain_of fns columns tables)) course)

-- a run of an accepted script without partial results over files that hold tables with the same columns
abbrev pub RunIsDueTheTranscript : Type 0
RunIsDueTheTranscript =
    (fns : List Function) (script : Script) (first : MarkedTable) (others : List MarkedTable) (name : List ℕ) (names : List (List ℕ)) (files : Files) (course : Course)
    → IsGraph (graph_over fns script first.table.columns) → IsUnwatched script
    → HoldsTheTable first (files name) → HoldTables files first.table.columns names others
    → IsDueTheTranscript fns script first.table.columns (first ∷ others) name names files course

-- ---- parts of a run, joined in whatever groups

module _ (fns : List Function) (bytes : List ℕ) (script : Script) (columns : List Column) (tables : List MarkedTable) (files : Files) where
  -- what is due to `map` over the table of that number, with these columns
  pub record IsMapped (number : ℕ) (text : List ℕ) : Type 0 where
    pub name : List ℕ
    pub table : MarkedTable
    pub its : slice_get tables number ≡ Some table
    pub header : table.table.columns ≡ columns
    pub held : HoldsTheTable table (files name)
    pub due : IsMapDue fns bytes script number name files (due_of Done text)

  -- the files of these names hold texts of these spans of tables, in order
  abbrev pub HoldTexts : (Span → List ℕ → Type 0) → List (List ℕ) → List Span → Type 0
  HoldTexts IsOver [] [] = ⊤
  HoldTexts IsOver [] (s ∷ groups) = ⊥
  HoldTexts IsOver (name ∷ names) [] = ⊥
  HoldTexts IsOver (name ∷ names) (s ∷ groups) = MatchOption (files name) ⊥ (IsOver s) × HoldTexts IsOver names groups

  -- the tables of all groups, which may stand in any order: from the first group's first to the last group's last
  abbrev pub tables_of : List Span → Span
  tables_of groups =
      let parts : List PartView = in_order (map (part_over bytes script (chain_of fns columns tables)) groups) in
      record { lo = first_file_of parts; hi = end_file_of parts }

  -- what is due to `join` over files that hold texts of such groups, named in any order
  pub record IsJoinOf (IsOver : Span → List ℕ → Type 0) (s : Span) (text : List ℕ) : Type 0 where
    pub names : List (List ℕ)
    pub groups : List Span
    pub held : HoldTexts IsOver names groups
    pub all : s ≡ tables_of groups
    pub due : IsJoinDue fns bytes script names files (due_of Done text)

  -- the text is a part of the run, over that span of tables: what is due to `map` over a table, or to `join` over files that hold
  -- such parts, with at most so many joins behind each other
  abbrev pub IsPartOf : ℕ → Span → List ℕ → Type 0
  IsPartOf zero s text = IsMapped s.lo text × (s.hi ≡ s.lo + 1)
  IsPartOf (suc joins) s text = IsPartOf joins s text ⊎ IsJoinOf (IsPartOf joins) s text

  -- what is printed over the tables is due to `print` over the file, where it isn't too long, and is the transcript over the rows of
  -- all of them, up to the place in a fault's line
  pub record IsPrintDueTheTranscript (name : List ℕ) (course : Course) : Type 0 where
    pub due : (d : ChainDue) → IsText (printed_status (printed_over fns script columns tables).status) (printed_over fns script columns tables).bytes d → IsPrintDue fns bytes script (length tables) name files d
    pub printed : PrintAs (chain_of fns columns tables) (graph_over fns script columns) (chain_loops (chain_of fns columns tables) 0 (loops_of script)) (transcript script (one_table (chain_of fns columns tables)) course)

-- a file that holds a part over all tables, joined in whatever groups, of a script without partial results and of at most 16777216
-- tables, each of which has the checks of a run
abbrev pub PrintIsDueTheTranscript : Type 0
PrintIsDueTheTranscript =
    (fns : List Function) (bytes : List ℕ) (script : Script) (columns : List Column) (tables : List MarkedTable) (files : Files) (name text : List ℕ) (joins : ℕ) (course : Course)
    → IsGraph (graph_over fns script columns) → IsUnwatched script → AreChecked script (chain_of fns columns tables) → length tables ≤ 16777216
    → files name ≡ Some text → IsPartOf fns bytes script columns tables files joins (record { lo = 0; hi = length tables }) text
    → IsPrintDueTheTranscript fns bytes script columns tables files name course
