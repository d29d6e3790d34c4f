use Rattle.lemmas.proofs.{arith, rules}
use Rattle.std.specs.Int.RustNames.{FitsSigned}
use Rattle.std.proofs.Math.Facts.{to_z-of_z}
use mir.Syntax.{w64}
use Rattle.columns.proofs.InPieces.{number_there}
use Rattle.columns.proofs.packed_ints.PackedInts.at.Goals as goal

pub number_at-difference-requires : goal.number_at-difference-requires
number_at-difference-requires c = let here = c.packed_from.ensures 1 (omega (arith, c.requires.place)) in record { width = here.width; there = omega (arith, here.inside) }

pub returns : goal.returns
returns c =
    let here = c.packed_from.ensures 1 (omega (arith, c.requires.place)) in
    let least : FitsSigned w64 c.packed_from.result.0.least = search rules in
    let sum : FitsSigned w64 c.wrapping_add_unsigned.result = search rules in
    rw (to_z-of_z sum) (number_there c.packed_from.result.0 _ _ c.args.place _ _ here least c.number_at-difference.type_inv c.number_at-difference.ensures (rw (to_z-of_z least) at c.wrapping_add_unsigned.ensures))
