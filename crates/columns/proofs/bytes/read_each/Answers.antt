use Rattle.lemmas.proofs.{arith}
use Rattle.std.proofs.Math.Facts.{to_z-of_z}
use Rattle.std.proofs.lemmas.List.{take_all}
use Rattle.columns.proofs.InPieces.{length-values_in, read_step}
use Rattle.columns.proofs.bytes.read_each.Goals as goal

pub loop-place-preserved : goal.loop-place-preserved
loop-place-preserved = grind (arith, to_z-of_z, read_step)

pub returns : goal.returns
returns = grind (arith, to_z-of_z, take_all, length-values_in)
