use Rattle.lemmas.proofs.{◌≡◌, ◌+◌, ◌++◌, take, length, List}
use Rattle.rdf_values.specs.{Item, points, weights}
use Rattle.histograms.specs.{HasFilled}
use Rattle.actions.specs.{part_values}
use Rattle.actions.proofs.fills.fill_points.Given as goal

abbrev pub invariant-loop-i : goal.invariant-loop-i
invariant-loop-i l = record {
  edges : l.hist.edges ≡ l.initial.hist.edges;
  fills : l.hist.fills ≡ l.initial.hist.fills + l.i;
  filled : (before : List Item) → HasFilled l.initial.hist before → HasFilled l.hist (before ++ points (take l.i l.xs) (weights (length l.xs) (part_values l.weight)));
}
