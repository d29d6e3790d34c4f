use Rattle.lemmas.proofs.{◌≡◌, length, take}
use Rattle.columns.specs.{values_in}
use Rattle.columns.proofs.bytes.read_each.Given as goal

abbrev pub invariant-loop-place : goal.invariant-loop-place
invariant-loop-place g l = take l.place l.numbers ≡ take l.place (values_in l.least g.row.WIDTH (length l.initial.numbers) l.bytes)
