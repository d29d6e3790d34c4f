use Rattle.lemmas.proofs.{arith}
use Rattle.std.proofs.lemmas.List.{length-map}
use Rattle.graph.proofs.Finished.{filters_few}
use Rattle.graph.proofs.checks.check_report.Goals as goal

pub overflow_cast-named : goal.overflow_cast-named
overflow_cast-named = grind (arith, length-map, filters_few)
