use Rattle.lemmas.proofs.{◌≡◌, ◌++◌, map}
use Rattle.columns.specs.{whole}
use Rattle.friend_join.specs.{AreEntries, matched_cells}
use Rattle.friend_join.proofs.gathered.put_behind.Given as goal

abbrev pub invariant-loop-cells : goal.invariant-loop-cells
invariant-loop-cells l = record {
  so_far : map whole l.columns.items ≡ map whole l.fn.columns.items ++ map (matched_cells l.missing l.matches) l.yielded;
  all : l.fn.others.items ≡ l.yielded ++ l.cells-iterator.rest.items;
  entries : AreEntries l.matches l.cells-iterator.rest.items;
}
