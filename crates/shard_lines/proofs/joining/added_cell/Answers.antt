use Rattle.lemmas.proofs.{◌+ℤ◌, ◌∙◌, ap₂, rules, FitsSigned, ℤ, to_z-of_z, w128}
use Rattle.histograms.specs.{CellSum}
use Rattle.shard_lines.proofs.joining.added_cell.Goals as goal

pub returns : goal.returns
returns c =
    let one : FitsSigned w128 c.args.a.sum = search rules in
    let two : FitsSigned w128 c.args.b.sum = search rules in
    let three : FitsSigned w128 c.args.a.squares = search rules in
    let four : FitsSigned w128 c.args.b.squares = search rules in
    let sum : FitsSigned w128 c.in_ok-sum.sum = search rules in
    let squares : FitsSigned w128 c.in_ok-squares.squares = search rules in
    ap₂ (λ (s q : ℤ). let e : CellSum = record { sum = s; squares = q } in e)
    (to_z-of_z w128 c.in_ok-sum.sum sum ∙ c.in_ok-sum.ensures ∙ ap₂ (λ x y. x +ℤ y) (to_z-of_z w128 c.args.a.sum one) (to_z-of_z w128 c.args.b.sum two))
    (to_z-of_z w128 c.in_ok-squares.squares squares ∙ c.in_ok-squares.ensures ∙ ap₂ (λ x y. x +ℤ y) (to_z-of_z w128 c.args.a.squares three) (to_z-of_z w128 c.args.b.squares four))
