use Rattle.graph.proofs.versions.+source_of.Given as goal

abbrev pub decreases-source_of : goal.decreases-source_of
decreases-source_of l = l.c
