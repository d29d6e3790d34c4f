-- What a run over a chain of tables finds.
use Rattle.std.specs.Prelude.{ℕ, ◌+◌, List, [], ◌∷◌, flat_map, length, map, Option, Some, None, option_map, slice_range}
use Rattle.rdf_values.specs.{Column, Fault, Function, Pass, Script, Span, Value}
use Rattle.rdf_model.specs.{Dataset, first_fault}
use Rattle.shard_lines.specs.{ShardLine}
use Rattle.shard_spans.specs.{loops_of, pass_line}
use Rattle.chain_files.specs.{ChainFault, digest_of, PartLoop, PartView, up_to_fault}
use Rattle.chain_files.specs.declared.part_loop.PartLoop.TheVariants.{Whole, Faulted}

-- ---- chains

-- the caller's functions, and the rows of tables with the same columns, table by table
pub record Chain : Type 0 where
  pub fns : List Function
  pub columns : List Column
  pub tables : List (List (List Value))

-- the rows of all tables, one table's behind the other's
abbrev pub all_rows : List (List (List Value)) → List (List Value)
all_rows tables = flat_map (λ rows. rows) tables

-- a table with the chain's columns
abbrev pub with_rows : Chain → List (List Value) → Dataset
with_rows c rows = record { fns = c.fns; columns = c.columns; rows = rows }

-- all tables as one
abbrev pub one_table : Chain → Dataset
one_table c = with_rows c (all_rows c.tables)

-- one table by itself
abbrev pub alone : Dataset → Chain
alone d = record { fns = d.fns; columns = d.columns; tables = d.rows ∷ [] }

-- the chain's tables from that place on, up to below the other
abbrev pub tables_in : Chain → ℕ → ℕ → Chain
tables_in c lo hi = record { fns = c.fns; columns = c.columns; tables = slice_range c.tables lo hi }

-- ---- faults

-- the fault of a table that is that file of the chain
abbrev pub in_file : ℕ → Fault → ChainFault
in_file file f = record { file = file; entry = f.entry; pass = f.pass; kind = f.kind }

-- the former fault, or else the latter
abbrev pub first_of : Option ChainFault → Option ChainFault → Option ChainFault
first_of None after = after
first_of (Some f) after = Some f

-- the first fault of the passes in tables, the files from that one on: the least file, there the least entry, and there the
-- first pass
abbrev pub fault_from : (List (List Value) → Dataset) → ℕ → List (List (List Value)) → List Pass → Option ChainFault
fault_from table file [] ps = None
fault_from table file (rows ∷ tables) ps = first_of (option_map (in_file file) (first_fault (table rows) ps)) (fault_from table (file + 1) tables ps)

-- the first fault in a chain whose tables are the files from that one on
abbrev pub chain_fault : Chain → ℕ → List Pass → Option ChainFault
chain_fault c first ps = fault_from (with_rows c) first c.tables ps

-- ---- loops

abbrev pub fault_or_lines : Option ChainFault → List ShardLine → PartLoop
fault_or_lines None ls = Whole ls
fault_or_lines (Some f) ls = Faulted f

-- a loop over a chain: its first fault, or the lines of its passes over the rows of all tables
abbrev pub chain_loop : Chain → ℕ → List Pass → PartLoop
chain_loop c first ps = fault_or_lines (chain_fault c first ps) (map (pass_line (one_table c)) ps)

-- the loops in order, up to the first one with a fault
abbrev pub chain_loops : Chain → ℕ → List (List Pass) → List PartLoop
chain_loops c first [] = []
chain_loops c first (ps ∷ loops) = up_to_fault (chain_loop c first ps) (chain_loops c first loops)

-- ---- parts

-- what a run of a script, of these bytes, over a chain finds, whose tables are the files from that one on
abbrev pub chain_part : List ℕ → Script → Chain → ℕ → PartView
chain_part bytes script c first =
    record {
      first_file = first;
      end_file = first + length c.tables;
      entries = length (all_rows c.tables);
      script = digest_of bytes;
      columns = c.columns;
      loops = chain_loops c first (loops_of script);
    }

-- the same over some files of a chain
abbrev pub part_over : List ℕ → Script → Chain → Span → PartView
part_over bytes script c files = chain_part bytes script (tables_in c files.lo files.hi) files.lo
