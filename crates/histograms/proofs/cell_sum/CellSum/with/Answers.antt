use Rattle.lemmas.proofs.{rules, w64, FitsSigned, to_z-of_z, w128}
use Rattle.histograms.proofs.Filling.{widened}
use Rattle.histograms.proofs.cell_sum.CellSum.with.Goals as goal

pub returns : goal.returns
returns c =
    let sum : FitsSigned w128 c.args.self.sum = search rules in
    let squares : FitsSigned w128 c.args.self.squares = search rules in
    let wide = widened c.args.weight c.ranges.weight in
    simp (to_z-of_z w64 _ c.ranges.weight, to_z-of_z w128 _ sum, to_z-of_z w128 _ squares, to_z-of_z w128 _ wide.0, to_z-of_z w128 _ wide.1, to_z-of_z w128 _ c.requires.sum, to_z-of_z w128 _ c.requires.squares)
