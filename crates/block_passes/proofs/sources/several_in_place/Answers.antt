use Rattle.lemmas.proofs.{◌∙◌, ap}
use Rattle.rdf_values.specs.{ActionKind}
use Rattle.block_passes.proofs.Serving.{lanes_pair, lanes_triple, lanes_weighted}
use Rattle.block_passes.proofs.sources.several_in_place.Goals as goal

pub returns-in-Histo1D-default-default-Some : goal.returns-in-Histo1D-default-default-Some
returns-in-Histo1D-default-default-Some g c = λ p low hand.
    lanes_weighted c.args.at.now c.args.own.now c.args.lanes.now c.requires.can p low hand c.in_ok-x.x c.in_ok-y.y c.in-Histo1D-default-default-Some.x_edges c.in-Histo1D-default-default-Some.x c.in-Histo1D-default-default-Some.weight-0 (c.in-Histo1D-default-default-Some.is ∙ ap (ActionKind.Histo1D c.in-Histo1D-default-default-Some.x_edges c.in-Histo1D-default-default-Some.x) (rw c.in-Histo1D-default-default-Some.is at c.in-Histo1D-default-default-Some.weight-is)) (λ h. c.in_ok-x.ensures.given p low h) (λ h. c.in_ok-y.ensures.given p low h)

pub returns-in-Histo2D-default-default-default-default-None : goal.returns-in-Histo2D-default-default-default-default-None
returns-in-Histo2D-default-default-default-default-None g c = λ p low hand.
    lanes_pair c.args.at.now c.args.own.now c.args.lanes.now c.requires.can p low hand c.in_ok-x.x c.in_ok-y.y c.in-Histo2D-default-default-default-default-None.x_edges c.in-Histo2D-default-default-default-default-None.y_edges c.in-Histo2D-default-default-default-default-None.x c.in-Histo2D-default-default-default-default-None.y (c.in-Histo2D-default-default-default-default-None.is ∙ ap (ActionKind.Histo2D c.in-Histo2D-default-default-default-default-None.x_edges c.in-Histo2D-default-default-default-default-None.y_edges c.in-Histo2D-default-default-default-default-None.x c.in-Histo2D-default-default-default-default-None.y) (rw c.in-Histo2D-default-default-default-default-None.is at c.in-Histo2D-default-default-default-default-None.weight-is)) (λ h. c.in_ok-x.ensures.given p low h) (λ h. c.in_ok-y.ensures.given p low h)

pub returns-in_ok-w-in-Histo2D-default-default-default-default-Some : goal.returns-in_ok-w-in-Histo2D-default-default-default-default-Some
returns-in_ok-w-in-Histo2D-default-default-default-default-Some g c = λ p low hand.
    lanes_triple c.args.at.now c.args.own.now c.args.lanes.now c.requires.can p low hand c.in_ok-x.x c.in_ok-y.y c.in_ok-w-in-Histo2D-default-default-default-default-Some.w c.in-Histo2D-default-default-default-default-Some.x_edges c.in-Histo2D-default-default-default-default-Some.y_edges c.in-Histo2D-default-default-default-default-Some.x c.in-Histo2D-default-default-default-default-Some.y c.in-Histo2D-default-default-default-default-Some.weight-0 (c.in-Histo2D-default-default-default-default-Some.is ∙ ap (ActionKind.Histo2D c.in-Histo2D-default-default-default-default-Some.x_edges c.in-Histo2D-default-default-default-default-Some.y_edges c.in-Histo2D-default-default-default-default-Some.x c.in-Histo2D-default-default-default-default-Some.y) (rw c.in-Histo2D-default-default-default-default-Some.is at c.in-Histo2D-default-default-default-default-Some.weight-is)) (λ h. c.in_ok-x.ensures.given p low h) (λ h. c.in_ok-y.ensures.given p low h) (λ h. c.in_ok-w-in-Histo2D-default-default-default-default-Some.ensures.given p low h)
