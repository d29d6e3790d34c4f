use Rattle.lemmas.proofs.{◌≡◌, ◌+◌, ◌++◌, List, map, pos, take}
use Rattle.rdf_values.specs.{Item}
use Rattle.rdf_values.specs.declared.results.Item.TheVariants.{Point}
use Rattle.histograms.specs.{HasFilled}
use Rattle.actions.proofs.folding.Hist1Folds.take_in.Given as goal

abbrev pub invariant-loop-number : goal.invariant-loop-number
invariant-loop-number l = record {
  edges : l.self.edges ≡ l.initial.self.edges;
  fills : l.self.fills ≡ l.initial.self.fills + l.number-index;
  filled : (before : List Item) → HasFilled l.initial.self before → HasFilled l.self (before ++ map (λ z. Point z (pos 1)) (take l.number-index l.numbers));
}
