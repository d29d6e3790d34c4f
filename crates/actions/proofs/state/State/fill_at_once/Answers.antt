use Rattle.lemmas.proofs.{arith, [], ◌≡◌, ◌∙◌, ap, flat_map}
use Rattle.std.proofs.lemmas.List.Concat.{flat_map_single}
use Rattle.rdf_values.specs.{ActionKind, spread}
use Rattle.actions.specs.declared.batch.Sources.TheVariants.{Pair, Weighted, WeightedPair}
use Rattle.actions.specs.{FedLane, places_of, values_at}
use Rattle.actions.proofs.Batching.{few_points, lane_points}
use Rattle.actions.proofs.States.{none_filled, holds_flat, holds_square}
use Rattle.actions.proofs.state.State.fill_at_once.Goals as goal

pub fold_lane-requires-clause-room : goal.fold_lane-requires-clause-room
fold_lane-requires-clause-room c =
    let hist = c.in-Histo1D.hist in
    let suits = rw c.in-Histo1D.is at c.requires.suits in
    let few = few_points hist.edges c.in-Histo1D.x c.in-Histo1D.weight c.args.batch.now.sources c.in-One.x (places_of c.args.batch.now.places) c.in-One.is suits in
    let within = rw c.in-Histo1D.is at c.requires.room in
    let count = c.requires.few in
    omega (arith, few, within, count)

pub returns-in-One-clause-within : goal.returns-in-One-clause-within
returns-in-One-clause-within c = λ t n w.
    let hist = c.in-Histo1D.hist in
    let suits = rw c.in-Histo1D.is at c.requires.suits in
    let few = few_points hist.edges c.in-Histo1D.x c.in-Histo1D.weight c.args.batch.now.sources c.in-One.x (places_of c.args.batch.now.places) c.in-One.is suits in
    let before = rw c.in-Histo1D.is at w in
    let fills = (c.fold_lane.ensures.folded hist [] (none_filled hist)).1 in
    omega (arith, few, before, fills)

pub returns-in-One-clause-kind : goal.returns-in-One-clause-kind
returns-in-One-clause-kind c =
    let same = (c.fold_lane.ensures.folded c.in-Histo1D.hist [] (none_filled c.in-Histo1D.hist)).0 in
    rw c.in-Histo1D.is (ap (λ edges. ActionKind.Histo1D edges c.in-Histo1D.x c.in-Histo1D.weight) same)

pub returns-in-One-clause-fed : goal.returns-in-One-clause-fed
returns-in-One-clause-fed c = λ t cluster fed below held.
    let hist = c.in-Histo1D.hist in
    let ps = places_of c.args.batch.now.places in
    rw c.in-Histo1D.is (holds_flat fed cluster below hist c.fold_lane.new.folder c.in-Histo1D.x c.in-Histo1D.weight _ _
    (lane_points hist.edges c.in-Histo1D.x c.in-Histo1D.weight c.args.batch.now.sources c.in-One.x ps c.in-One.is)
    (c.fold_lane.ensures.folded hist [] (none_filled hist)).2 (rw c.in-Histo1D.is at held))

pub returns-in-Weighted-Int-Int-clause-fed : goal.returns-in-Weighted-Int-Int-clause-fed
returns-in-Weighted-Int-Int-clause-fed c = λ t cluster fed below held.
    let hist = c.in-Histo1D.hist in
    let x_is : c.in-Weighted-Int-Int.x ≡ FedLane.Int c.in-Weighted-Int-Int.numbers = rw c.in-Weighted-Int-Int.is at c.in-Weighted-Int-Int.x-is in
    let w_is : c.in-Weighted-Int-Int.w ≡ FedLane.Int c.in-Weighted-Int-Int.weights = rw c.in-Weighted-Int-Int.is at c.in-Weighted-Int-Int.w-is in
    rw c.in-Histo1D.is (holds_flat fed cluster below hist c.fill_weighted.new.hist c.in-Histo1D.x c.in-Histo1D.weight _ _
    (ap (λ s. flat_map (λ p. spread (ActionKind.Histo1D hist.edges c.in-Histo1D.x c.in-Histo1D.weight) (values_at s p)) (places_of c.args.batch.now.places)) (c.in-Weighted-Int-Int.is ∙ (λ i. Weighted (x_is i) (w_is i))) ∙ flat_map_single _ (places_of c.args.batch.now.places))
    c.fill_weighted.ensures.filled (rw c.in-Histo1D.is at held))

pub returns-in-Pair-Int-Int-clause-fed : goal.returns-in-Pair-Int-Int-clause-fed
returns-in-Pair-Int-Int-clause-fed c = λ t cluster fed below held.
    let hist = c.in-Histo2D.hist in
    let x_is : c.in-Pair-Int-Int.x ≡ FedLane.Int c.in-Pair-Int-Int.xs = rw c.in-Pair-Int-Int.is at c.in-Pair-Int-Int.x-is in
    let y_is : c.in-Pair-Int-Int.y ≡ FedLane.Int c.in-Pair-Int-Int.ys = rw c.in-Pair-Int-Int.is at c.in-Pair-Int-Int.y-is in
    rw c.in-Histo2D.is (holds_square fed cluster below hist c.fill_number_pairs.new.hist c.in-Histo2D.x c.in-Histo2D.y c.in-Histo2D.weight _ _
    (ap (λ s. flat_map (λ p. spread (ActionKind.Histo2D hist.x_edges hist.y_edges c.in-Histo2D.x c.in-Histo2D.y c.in-Histo2D.weight) (values_at s p)) (places_of c.args.batch.now.places)) (c.in-Pair-Int-Int.is ∙ (λ i. Pair (x_is i) (y_is i))) ∙ flat_map_single _ (places_of c.args.batch.now.places))
    c.fill_number_pairs.ensures.filled (rw c.in-Histo2D.is at held))

pub returns-in-WeightedPair-Int-Int-Int-clause-fed : goal.returns-in-WeightedPair-Int-Int-Int-clause-fed
returns-in-WeightedPair-Int-Int-Int-clause-fed c = λ t cluster fed below held.
    let hist = c.in-Histo2D.hist in
    let from = c.in-WeightedPair-Int-Int-Int in
    let x_is : from.x ≡ FedLane.Int from.xs = rw from.is at from.x-is in
    let y_is : from.y ≡ FedLane.Int from.ys = rw from.is at from.y-is in
    let w_is : from.w ≡ FedLane.Int from.weights = rw from.is at from.w-is in
    rw c.in-Histo2D.is (holds_square fed cluster below hist c.fill_weighted_pairs.new.hist c.in-Histo2D.x c.in-Histo2D.y c.in-Histo2D.weight _ _
    (ap (λ s. flat_map (λ p. spread (ActionKind.Histo2D hist.x_edges hist.y_edges c.in-Histo2D.x c.in-Histo2D.y c.in-Histo2D.weight) (values_at s p)) (places_of c.args.batch.now.places)) (from.is ∙ (λ i. WeightedPair (x_is i) (y_is i) (w_is i))) ∙ flat_map_single _ (places_of c.args.batch.now.places))
    c.fill_weighted_pairs.ensures.filled (rw c.in-Histo2D.is at held))
