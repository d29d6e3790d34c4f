use Rattle.lemmas.proofs.{◌≡◌, ◌≤◌, ℕ, List, drop, length}
use Rattle.chain_program.specs.{AreRead, AreTurned, IsPartFile}
use Rattle.chain_program.proofs.parts.read_parts.Given as goal

abbrev pub invariant-loop-i : goal.invariant-loop-i
invariant-loop-i g l = record {
  within : l.i ≤ length l.names;
  same : g.S.Shelf.files l.shelf ≡ g.S.Shelf.files l.initial.shelf;
  later : g.S.Shelf.faults l.initial.shelf ≤ g.S.Shelf.faults l.shelf;
  found : AreRead (g.S.Shelf.files l.initial.shelf) l.names l.i l.size l.parts;
  turned : (after : List (List ℕ)) → AreTurned (IsPartFile (g.S.Shelf.files l.initial.shelf)) (drop l.i l.names) (g.S.Shelf.turns l.shelf) after
      → AreTurned (IsPartFile (g.S.Shelf.files l.initial.shelf)) l.names (g.S.Shelf.turns l.initial.shelf) after;
}
