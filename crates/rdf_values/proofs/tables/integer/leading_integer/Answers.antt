use Rattle.lemmas.proofs.{◌≡◌, ◌∷◌, Some, arith, rules, to_z, true, w64, ◌==◌}
use Rattle.rdf_values.specs.{positive}
use Rattle.rdf_values.proofs.FrontNumbers.{leading_negative, leading_positive, number_below}
use Rattle.rdf_values.proofs.tables.integer.leading_integer.Goals as goal

pub returns-in-Some : goal.returns-in-Some
returns-in-Some c =
    let number : positive (Some c.in-Some.n) ≡ Some (to_z w64 c.in-Some.n) = search rules in
    leading_positive c.args.text.now c.in-Some.count c.in-Some.n _ c.in-Some.ensures number

pub returns-then-n-gt0 : goal.returns-then-n-gt0
returns-then-n-gt0 c =
    let split : c.args.text.now ≡ c.in_ok-first.first.now ∷ c.in_ok-first.rest.now = search rules in
    let minus : (c.in_ok-first.first.now == 45) ≡ true = search rules in
    leading_negative c.args.text.now _ _ c.in_ok-n.field-0.1 c.in_ok-n.field-0.0 _ split minus c.in_ok-n.ensures (number_below _ (omega arith) c.in_ok-n.ensures.few)
