use Rattle.lemmas.proofs.{arith}
use Rattle.std.proofs.lemmas.List.{length-map}
use Rattle.graph.proofs.Finished.{sites_fit}
use Rattle.graph.proofs.before.Before.sites.Goals as goal

pub returns-clause-few : goal.returns-clause-few
returns-clause-few = grind (arith, length-map, sites_fit)

pub overflow_cast-result : goal.overflow_cast-result
overflow_cast-result = grind (arith, length-map, sites_fit)
