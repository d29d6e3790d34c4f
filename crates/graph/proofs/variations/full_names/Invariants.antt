use Rattle.lemmas.proofs.{◌≡◌, take}
use Rattle.graph.specs.{named}
use Rattle.graph.proofs.variations.full_names.Given as goal

abbrev pub invariant-loop-tag : goal.invariant-loop-tag
invariant-loop-tag l = l.items.items ≡ named l.name (take l.tag-index l.tags)
