use Rattle.lemmas.proofs.{◌≡◌, ◌≤◌, ◌+◌, ◌-◌, ℕ, List, length, Some}
use Rattle.rdf_outside.specs.{Joins}
use Rattle.rdf_outside.proofs.whole.read_whole.Given as goal

abbrev pub invariant-loop-buffer : goal.invariant-loop-buffer
invariant-loop-buffer g l = record {
  same : g.S.Shelf.files l.shelf ≡ g.S.Shelf.files l.initial.shelf;
  turns : g.S.Shelf.turns l.shelf ≡ g.S.Shelf.turns l.initial.shelf;
  later : g.S.Shelf.faults l.initial.shelf ≤ g.S.Shelf.faults l.shelf;
  kept : g.S.Shelf.faults l.shelf ≡ g.S.Shelf.faults l.initial.shelf;
  told : (all : List ℕ) → g.S.Shelf.left l.initial.shelf ≡ Some all → Joins all l.bytes (g.S.Shelf.left l.shelf);
  few : length l.bytes ≤ l.max + 1;
}

abbrev pub decreases-loop-buffer : goal.decreases-loop-buffer
decreases-loop-buffer g l = l.max + 1 - length l.bytes
