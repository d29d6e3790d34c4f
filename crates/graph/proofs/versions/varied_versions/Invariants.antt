use Rattle.lemmas.proofs.{◌≡◌, take}
use Rattle.graph.specs.{versions_changed}
use Rattle.graph.proofs.versions.varied_versions.Given as goal

abbrev pub invariant-loop-i : goal.invariant-loop-i
invariant-loop-i l = l.versions.items ≡ versions_changed l.before l.change 0 (take l.i l.change.columns.now)
