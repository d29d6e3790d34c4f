use Rattle.lemmas.proofs.{◌≡◌, ◌+◌, ◌++◌, List, get_or, map, pos, take}
use Rattle.rdf_values.specs.{Item}
use Rattle.rdf_values.specs.declared.results.Item.TheVariants.{Point}
use Rattle.histograms.specs.{HasFilled}
use Rattle.actions.specs.{places_of}
use Rattle.actions.proofs.fills.fill_weighted.Given as goal

abbrev pub invariant-loop-i : goal.invariant-loop-i
invariant-loop-i l = record {
  edges : l.hist.edges ≡ l.initial.hist.edges;
  fills : l.hist.fills ≡ l.initial.hist.fills + l.i;
  filled : (before : List Item) → HasFilled l.initial.hist before → HasFilled l.hist (before ++ map (λ p. Point (get_or l.numbers p (pos 0)) (get_or l.weights p (pos 0))) (take l.i (places_of l.places)));
}
