-- What the loops of a part print.
use Rattle.std.specs.Prelude.{◌≡◌, ◌≤◌, ◌<◌, ◌++◌, ℕ, List, [], ◌∷◌, length, Option, Some, None, codes, decimal, slice_get}
use Rattle.rdf_values.specs.{line, Pass}
use Rattle.rdf_model.specs.{Access, accesses, fault_name, in_front_of, loop_of, pass_label, Printed}
use Rattle.graph_numbers.specs.{booked_statements, graph_loops, GraphView}
use Rattle.result_text.specs.{passes_at}
use Rattle.merged_text.specs.{lines_of_result}
use Rattle.chain_files.specs.{ChainFault, PartLoop}
use Rattle.chain_files.specs.declared.part_loop.PartLoop.TheVariants.{Whole, Faulted}

-- the line of a fault in one of the passes, with its file
abbrev pub chain_fault_line : List Pass → ChainFault → List ℕ
chain_fault_line ps f =
    line (codes "fault in file " ++ decimal f.file ++ codes " at entry " ++ decimal f.entry ++ codes " in " ++ pass_label (slice_get ps f.pass) ++ codes ": " ++ fault_name f.kind)

-- what a loop with these passes gives to a Print, before what else is printed: a faulty loop ends the output with its line
abbrev pub loop_printed : List Pass → List ℕ → Option PartLoop → Printed → Printed
loop_printed ps name None rest = rest
loop_printed ps name (Some (Faulted fault)) rest = record { bytes = chain_fault_line ps fault; status = 8 }
loop_printed ps name (Some (Whole ls)) rest = in_front_of (lines_of_result name ps ls) rest

-- of a graph
module _ (g : GraphView) (loops : List PartLoop) where
  -- what the loop that fills the result of a Print gives
  abbrev pub access_printed : Access → Printed → Printed
  access_printed a rest =
      let l = loop_of (booked_statements g) a.result in
      loop_printed (passes_at g l) a.result (slice_get loops l) rest

  -- the Prints in order
  abbrev pub prints_text : List Access → Printed
  prints_text [] = record { bytes = []; status = 0 }
  prints_text (a ∷ rest) = access_printed a (prints_text rest)

  -- the output of a part's loops, and its status
  abbrev pub chain_text : Printed
  chain_text = prints_text (accesses (booked_statements g))

-- there are no more loops than the graph has, and a fault is of one of its loop's passes
pub record FitGraph (g : GraphView) (loops : List PartLoop) : Type 0 where
  pub many : length loops ≤ length (graph_loops g)
  pub faults : (l : ℕ) (fault : ChainFault) → slice_get loops l ≡ Some (Faulted fault) → fault.pass < length (passes_at g l)
