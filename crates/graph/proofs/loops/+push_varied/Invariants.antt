use Rattle.graph.proofs.loops.+push_varied.Given as goal

abbrev pub decreases-push_varied : goal.decreases-push_varied
decreases-push_varied l = l.left
