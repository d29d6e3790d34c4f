use Rattle.lemmas.proofs.{◌≡◌, ◌≤◌, ℕ, List, drop, length}
use Rattle.entry_fns.specs.{functions_in}
use Rattle.chain_program.specs.{AreRun, AreTurned, IsTableFile}
use Rattle.chain_program.proofs.other_tables.other_tables.Given as goal

abbrev pub invariant-loop-i : goal.invariant-loop-i
invariant-loop-i g l = record {
  from : 1 ≤ l.i;
  within : l.i ≤ length l.tables;
  same : g.S.Shelf.files l.shelf ≡ g.S.Shelf.files l.initial.shelf;
  later : g.S.Shelf.faults l.initial.shelf ≤ g.S.Shelf.faults l.shelf;
  run : AreRun (functions_in l.means.functions.now) l.chaining.graph.now.script l.chaining.graph.now.header (g.S.Shelf.files l.initial.shelf) l.tables l.i l.loops;
  turned : (after : List (List ℕ)) → AreTurned (IsTableFile (g.S.Shelf.files l.initial.shelf)) (drop l.i l.tables) (g.S.Shelf.turns l.shelf) after
      → AreTurned (IsTableFile (g.S.Shelf.files l.initial.shelf)) (drop 1 l.tables) (g.S.Shelf.turns l.initial.shelf) after;
}
