use Rattle.lemmas.proofs.{rules, FitsSigned, w64}
use Rattle.std.proofs.lemmas.Int.{to_z-of_z}
use Rattle.expr_eval.proofs.vector.combine.Goals as goal

pub returns-in-Int-Vect : goal.returns-in-Int-Vect
returns-in-Int-Vect c =
    let fits : FitsSigned w64 c.in-Int-Vect.x = search rules in
    let a = simp to_z-of_z at c.each_of.ensures in
    rw (← c.in-Int-Vect.ensures, ← c.in-Int-Vect.ensures') a

pub returns-in-Vect-Int : goal.returns-in-Vect-Int
returns-in-Vect-Int c =
    let fits : FitsSigned w64 c.in-Vect-Int.y = search rules in
    let a = simp to_z-of_z at c.each_of-in-Vect-Int.ensures in
    rw (← c.in-Vect-Int.ensures, ← c.in-Vect-Int.ensures') a
