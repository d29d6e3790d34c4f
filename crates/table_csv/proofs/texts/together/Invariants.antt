use Rattle.lemmas.proofs.{◌≡◌, take}
use Rattle.columns.specs.{joined}
use Rattle.table_csv.proofs.texts.together.Given as goal

abbrev pub invariant-loop-text : goal.invariant-loop-text
invariant-loop-text l = l.whole ≡ joined (take l.text-index l.texts.lines.now)
