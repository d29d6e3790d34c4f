-- What the stages of a command's tables come to.
use Rattle.std.specs.Prelude.{◌≡◌, ℕ, true, List, [], ◌∷◌, drop, length, Option, None, IfSome}
use Rattle.std.specs.Bool.{MatchBool}
use Rattle.std.specs.List.{AllByRecursion, list_all}
use Rattle.rdf_values.specs.{Column, fn_names, Function, is_name, IsTable, MarkedTable, Script, verdict}
use Rattle.table_csv.specs.{columns_over, marked_in}
use Rattle.columns.specs.Views.{ColumnsView}
use Rattle.shard_files.specs.{same_columns}
use Rattle.shard_loop.specs.{table_of}
use Rattle.shard_spans.specs.{loops_of}
use Rattle.input_files.specs.{due_of, HoldsTheTable, Tells}
use Rattle.chain_files.specs.{PartLoop}
use Rattle.chain_runs.specs.{alone, chain_loops}
use Rattle.chain_due.specs.{chain_of, ChainDue, differs_line, Files, graph_over, IsRunOver, printed_over, printed_status, WithAccepted, WithTableFile, WithTables}
use Rattle.chain_due.specs.declared.status.ChainStatus.TheVariants.{FilesDiffer}
use Rattle.chain_program.specs.Answers.{Answers, IsAnswer}
use Rattle.chain_program.specs.declared.answer.Read.{Read}
use Rattle.chain_program.specs.declared.answer.Read.TheVariants.{Whole, Refused}
use Rattle.chain_program.specs.declared.booking.Booked.{Booked}
use Rattle.chain_program.specs.declared.first_table.FirstTable.{FirstTable}

-- ---- a table's file

-- the columns, over clusters of at most that size, of the table that the file holds
pub record IsRead (told : Option Files) (name : List ℕ) (size : ℕ) (columns : ColumnsView) : Type 0 where
  pub holds : Tells told name (HoldsTheTable (marked_in columns))
  pub over : columns ≡ columns_over (marked_in columns) size

-- the columns of the table that the file holds, or why it holds none
abbrev pub ReadsTable : Option Files → List ℕ → ℕ → List (List ℕ) → ℕ → ℕ → Read ColumnsView → Type 0
ReadsTable told name size turns before now (Whole columns) = IsRead told name size columns
ReadsTable told name size turns before now (Refused a) = IsAnswer (λ files d. WithTableFile files name (λ t e. ⊥) d) told turns before now a

-- ---- the first table

module _ (fns : List Function) where
  -- the script is accepted over the table's columns
  pub record IsBookedOver (script : Script) (t : MarkedTable) (b : Booked) : Type 0 where
    pub accepted : verdict (fn_names fns) t.table.columns script ≡ None
    pub graph : b.graph ≡ graph_over fns script t.table.columns
    pub columns : b.columns.table ≡ t.table

  -- the graph of the script over the table, or why it isn't accepted
  abbrev pub BooksOver : Script → MarkedTable → Read Booked → Type 0
  BooksOver script t (Whole b) = IsBookedOver script t b
  BooksOver script t (Refused a) = Answers (λ d. WithAccepted fns script t.table.columns (λ e. ⊥) d) a

  -- what a booked script's loops come to over its table, which is that file of the chain
  pub record IsFirstOf (file : ℕ) (b : Booked) (f : FirstTable) : Type 0 where
    pub table : IsTable b.columns.table
    pub graph : f.graph ≡ b.graph
    pub columns : f.columns ≡ b.columns.table.columns
    pub named : list_all (λ (c : Column). is_name c.name) b.columns.table.columns ≡ true
    pub entries : f.entries ≡ length b.columns.table.rows
    pub loops : f.loops ≡ chain_loops (alone (table_of b.columns fns)) file (loops_of b.graph.script)

  -- a script over its first table, which is that file of the chain
  pub record IsOver (script : Script) (file : ℕ) (t : MarkedTable) (f : FirstTable) : Type 0 where
    pub accepted : verdict (fn_names fns) t.table.columns script ≡ None
    pub table : IsTable t.table
    pub graph : f.graph ≡ graph_over fns script t.table.columns
    pub columns : f.columns ≡ t.table.columns
    pub named : list_all (λ (c : Column). is_name c.name) t.table.columns ≡ true
    pub entries : f.entries ≡ length t.table.rows
    pub loops : f.loops ≡ chain_loops (chain_of fns t.table.columns (t ∷ [])) file (loops_of script)

  -- a table of that name over which the script is accepted, or why there is none
  abbrev pub ReadsFirst : Script → ℕ → Option Files → List ℕ → List (List ℕ) → ℕ → ℕ → Read FirstTable → Type 0
  ReadsFirst script file told name turns before now (Whole f) = (t : MarkedTable) × Tells told name (HoldsTheTable t) × IsOver script file t f
  ReadsFirst script file told name turns before now (Refused a) =
      IsAnswer (λ files d. WithTableFile files name (λ t e. WithAccepted fns script t.table.columns (λ g. ⊥) e) d) told turns before now a

  -- ---- further tables

  -- a table with the chain's columns, which is that file of the chain, by its loops
  pub record IsNext (script : Script) (columns : List Column) (file : ℕ) (t : MarkedTable) (loops : List PartLoop) : Type 0 where
    pub table : IsTable t.table
    pub same : t.table.columns ≡ columns
    pub tested : same_columns columns t.table.columns ≡ true
    pub found : loops ≡ chain_loops (chain_of fns columns (t ∷ [])) file (loops_of script)

  -- the table of that name, or why it is none of the chain
  abbrev pub ReadsNext : Script → List Column → ℕ → Option Files → List ℕ → List (List ℕ) → ℕ → ℕ → Read (List PartLoop) → Type 0
  ReadsNext script columns file told name turns before now (Whole loops) = (t : MarkedTable) × Tells told name (HoldsTheTable t) × IsNext script columns file t loops
  ReadsNext script columns file told name turns before now (Refused a) =
      IsAnswer (λ files d. WithTableFile files name (λ t e. MatchBool (same_columns columns t.table.columns) ⊥ (e ≡ due_of FilesDiffer (differs_line name))) d) told turns before now a

  -- ---- all tables

  -- what a run prints after all tables
  abbrev pub IsRunEnd : Script → List Column → List MarkedTable → ChainDue → Type 0
  IsRunEnd script columns all due = due ≡ due_of (printed_status (printed_over fns script columns all).status) (printed_over fns script columns all).bytes

  -- the tables before a place were read and came to these loops together; what is due is what is due from there on
  pub record AreRun (script : Script) (columns : List Column) (told : Option Files) (names : List (List ℕ)) (place : ℕ) (loops : List PartLoop) : Type 0 where
    pub found : List MarkedTable
    pub many : length found ≡ place
    pub tables : AllByRecursion (λ (t : MarkedTable). IsTable t.table × (t.table.columns ≡ columns)) found
    pub joined : loops ≡ chain_loops (chain_of fns columns found) 0 (loops_of script)
    pub due : IfSome told (λ files. (d : ChainDue) → WithTables files columns found (drop place names) (IsRunEnd script columns) d → IsRunOver fns script names files d)

  -- the loops of all tables, or why a table is none of the chain
  abbrev pub ReadsAll : Script → List Column → Option Files → List (List ℕ) → List (List ℕ) → ℕ → ℕ → Read (List PartLoop) → Type 0
  ReadsAll script columns told names turns before now (Whole loops) = AreRun script columns told names (length names) loops
  ReadsAll script columns told names turns before now (Refused a) = IsAnswer (IsRunOver fns script names) told turns before now a
