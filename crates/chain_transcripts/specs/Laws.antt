-- Laws of chains and transcripts. Each is the contract of a function of this crate, and so proved.
use Rattle.std.specs.Prelude.{◌≡◌, ◌++◌, ◌⊎◌, ℕ, All, List, ◌∷◌, None, Some, length, map, slice_get}
use Rattle.rdf_values.specs.{ColType, Pass, Script, Span}
use Rattle.rdf_model.specs.{Course, Dataset, fault_line, Printed, transcript}
use Rattle.graph_numbers.specs.{graph_of, GraphView, IsGraph}
use Rattle.result_text.specs.{passes_at}
use Rattle.shard_spans.specs.{loops_of, pass_shapes}
use Rattle.shard_transcripts.specs.{IsUnwatched}
use Rattle.chain_files.specs.{ChainFault, end_file_of, first_uncovered, in_order, joined_parts, PartLoop, PartView}
use Rattle.chain_files.specs.declared.part_loop.PartLoop.TheVariants.{Faulted}
use Rattle.chain_runs.specs.{alone, AreFiles, Chain, chain_loops, in_rows, one_table, part_over}
use Rattle.chain_text.specs.{chain_fault_line, chain_text}

-- both print the same up to the line of the fault of one of the loops, in which the first names its file and its entry there,
-- and the second its entry in the rows of all tables
pub record DifferInPlace (c : Chain) (g : GraphView) (loops : List PartLoop) (p q : Printed) : Type 0 where
  pub before : List ℕ
  pub number : ℕ
  pub fault : ChainFault
  pub its_loop : slice_get loops number ≡ Some (Faulted fault)
  pub by_file : p ≡ record { bytes = before ++ chain_fault_line (passes_at g number) fault; status = 8 }
  pub by_row : q ≡ record { bytes = before ++ fault_line (passes_at g number) (in_rows c.tables 0 fault); status = 8 }

-- these loops print that, up to the place in a fault's line
abbrev pub PrintAs : Chain → GraphView → List PartLoop → Printed → Type 0
PrintAs c g loops q = (chain_text g loops ≡ q) ⊎ DifferInPlace c g loops (chain_text g loops) q

-- the loops of a run of an accepted script over a chain print the transcript over its rows
abbrev pub ChainPrintsTheTranscript : Type 0
ChainPrintsTheTranscript =
    (script : Script) (c : Chain) (course : Course)
    → IsGraph (graph_of script (one_table c)) → IsUnwatched script
    → PrintAs c (graph_of script (one_table c)) (chain_loops c 0 (loops_of script)) (transcript script (one_table c) course)

-- those of one table print its own
abbrev pub OneTablePrintsTheTranscript : Type 0
OneTablePrintsTheTranscript =
    (script : Script) (d : Dataset) (course : Course)
    → IsGraph (graph_of script d) → IsUnwatched script
    → PrintAs (alone d) (graph_of script d) (chain_loops (alone d) 0 (loops_of script)) (transcript script d course)

-- so do the loops of parts over some files each, named in any order, which hold each file once
abbrev pub PartsPrintTheTranscript : Type 0
PartsPrintTheTranscript =
    (bytes : List ℕ) (script : Script) (c : Chain) (groups : List Span) (course : Course) (column : Pass → ColType) (first : PartView) (others : List PartView)
    → IsGraph (graph_of script (one_table c)) → IsUnwatched script
    → All (AreFiles c) groups → in_order (map (part_over bytes script c) groups) ≡ first ∷ others
    → first_uncovered (first ∷ others) ≡ None → first.first_file ≡ 0 → end_file_of (first ∷ others) ≡ length c.tables
    → PrintAs c (graph_of script (one_table c)) (joined_parts (map (pass_shapes column) (loops_of script)) first others).loops (transcript script (one_table c) course)
