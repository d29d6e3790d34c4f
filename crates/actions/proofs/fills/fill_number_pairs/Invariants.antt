use Rattle.lemmas.proofs.{◌≡◌, ◌+◌, ◌++◌, List, get_or, map, pos, take}
use Rattle.rdf_values.specs.{Item}
use Rattle.rdf_values.specs.declared.results.Item.TheVariants.{Point2}
use Rattle.histograms.specs.{HasFilled2}
use Rattle.actions.specs.{places_of}
use Rattle.actions.proofs.fills.fill_number_pairs.Given as goal

abbrev pub invariant-loop-i : goal.invariant-loop-i
invariant-loop-i l = record {
  x_edges : l.hist.x_edges ≡ l.initial.hist.x_edges;
  y_edges : l.hist.y_edges ≡ l.initial.hist.y_edges;
  fills : l.hist.fills ≡ l.initial.hist.fills + l.i;
  filled : (before : List Item) → HasFilled2 l.initial.hist before → HasFilled2 l.hist (before ++ map (λ p. Point2 (get_or l.xs p (pos 0)) (get_or l.ys p (pos 0)) (pos 1)) (take l.i (places_of l.places)));
}
