use Rattle.lemmas.proofs.{length}
use Rattle.graph.proofs.lookup.+is_report.Given as goal

abbrev pub decreases-is_report : goal.decreases-is_report
decreases-is_report l = length l.before.now
