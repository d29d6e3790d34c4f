use Rattle.lemmas.proofs.{◌≡◌, ◌++◌, map}
use Rattle.std.specs.List.{AllByRecursion}
use Rattle.rdf_values.specs.{cut}
use Rattle.columns.specs.{cells_of, IsByCluster, whole}
use Rattle.columns.proofs.kept.keep_all.Given as goal

abbrev pub invariant-loop-column : goal.invariant-loop-column
invariant-loop-column l = (map cells_of l.kept.items ≡ map whole l.yielded) × AllByRecursion (IsByCluster (cut l.cuts.entries l.cuts.size l.cuts.marks)) l.kept.items × (l.fn.pieces.items ≡ l.yielded ++ l.column-iterator.rest.items)
