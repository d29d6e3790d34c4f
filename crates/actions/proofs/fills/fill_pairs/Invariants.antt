use Rattle.lemmas.proofs.{◌≡◌, ◌+◌, ◌++◌, take, length, List}
use Rattle.rdf_values.specs.{Item, points2, weights}
use Rattle.histograms.specs.{HasFilled2}
use Rattle.actions.specs.{part_values}
use Rattle.actions.proofs.fills.fill_pairs.Given as goal

abbrev pub invariant-loop-i : goal.invariant-loop-i
invariant-loop-i l = record {
  x_edges : l.hist.x_edges ≡ l.initial.hist.x_edges;
  y_edges : l.hist.y_edges ≡ l.initial.hist.y_edges;
  fills : l.hist.fills ≡ l.initial.hist.fills + l.i;
  filled : (before : List Item) → HasFilled2 l.initial.hist before → HasFilled2 l.hist (before ++ points2 (take l.i l.xs) l.ys (weights (length l.xs) (part_values l.weight)));
}
