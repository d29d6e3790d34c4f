use Rattle.lemmas.proofs.{◌≡◌, ◌∙◌, ap, length, rules}
use Rattle.rdf_values.specs.{ActionKind}
use Rattle.block_passes.proofs.Serving.{lanes_one, lanes_pair, lanes_triple, lanes_weighted}
use Rattle.block_passes.proofs.sources.gather.Goals as goal
use Rattle.block_passes.proofs.sources.gather.Goals.{in-Sum-1, in-Min-1, in-Max-1, in-Take-1, in-Reduce-1, in-Histo1D+in-None-1}

pub returns-in-Histo1D-default-default-Some : goal.returns-in-Histo1D-default-default-Some
returns-in-Histo1D-default-default-Some g c = λ sel copied p low among hand.
    lanes_weighted c.args.at.now c.args.own.now c.args.lanes.now c.requires.can p low hand c.version_lane-x.result c.version_lane-w.result c.in-Histo1D-default-default-Some.x_edges c.in-Histo1D-default-default-Some.x c.in-Histo1D-default-default-Some.weight-0 (c.in-Histo1D-default-default-Some.is ∙ ap (ActionKind.Histo1D c.in-Histo1D-default-default-Some.x_edges c.in-Histo1D-default-default-Some.x) (rw c.in-Histo1D-default-default-Some.is at c.in-Histo1D-default-default-Some.weight-is)) (λ h. c.version_lane-x.ensures sel (copied.first_is (search rules)) p low among h) (λ h. c.version_lane-w.ensures sel (copied.second_is (search rules)) p low among h)

pub returns-in-Histo2D-default-default-default-default-None : goal.returns-in-Histo2D-default-default-default-default-None
returns-in-Histo2D-default-default-default-default-None g c = λ sel copied p low among hand.
    lanes_pair c.args.at.now c.args.own.now c.args.lanes.now c.requires.can p low hand c.version_lane-x-in-Histo2D-default-default-default-default-None.result c.version_lane-y.result c.in-Histo2D-default-default-default-default-None.x_edges c.in-Histo2D-default-default-default-default-None.y_edges c.in-Histo2D-default-default-default-default-None.x c.in-Histo2D-default-default-default-default-None.y (c.in-Histo2D-default-default-default-default-None.is ∙ ap (ActionKind.Histo2D c.in-Histo2D-default-default-default-default-None.x_edges c.in-Histo2D-default-default-default-default-None.y_edges c.in-Histo2D-default-default-default-default-None.x c.in-Histo2D-default-default-default-default-None.y) (rw c.in-Histo2D-default-default-default-default-None.is at c.in-Histo2D-default-default-default-default-None.weight-is)) (λ h. c.version_lane-x-in-Histo2D-default-default-default-default-None.ensures sel (copied.first_is (search rules)) p low among h) (λ h. c.version_lane-y.ensures sel (copied.second_is (search rules)) p low among h)

pub returns-in-Histo2D-default-default-default-default-Some : goal.returns-in-Histo2D-default-default-default-default-Some
returns-in-Histo2D-default-default-default-default-Some g c = λ sel copied p low among hand.
    lanes_triple c.args.at.now c.args.own.now c.args.lanes.now c.requires.can p low hand c.version_lane-x-in-Histo2D-default-default-default-default-Some.result c.version_lane-y-in-Histo2D-default-default-default-default-Some.result c.version_lane-w-in-Histo2D-default-default-default-default-Some.result c.in-Histo2D-default-default-default-default-Some.x_edges c.in-Histo2D-default-default-default-default-Some.y_edges c.in-Histo2D-default-default-default-default-Some.x c.in-Histo2D-default-default-default-default-Some.y c.in-Histo2D-default-default-default-default-Some.weight-0 (c.in-Histo2D-default-default-default-default-Some.is ∙ ap (ActionKind.Histo2D c.in-Histo2D-default-default-default-default-Some.x_edges c.in-Histo2D-default-default-default-default-Some.y_edges c.in-Histo2D-default-default-default-default-Some.x c.in-Histo2D-default-default-default-default-Some.y) (rw c.in-Histo2D-default-default-default-default-Some.is at c.in-Histo2D-default-default-default-default-Some.weight-is)) (λ h. c.version_lane-x-in-Histo2D-default-default-default-default-Some.ensures sel (copied.first_is (search rules)) p low among h) (λ h. c.version_lane-y-in-Histo2D-default-default-default-default-Some.ensures sel (copied.second_is (search rules)) p low among h) (λ h. c.version_lane-w-in-Histo2D-default-default-default-default-Some.ensures sel (copied.third_is (search rules)) p low among h)

pub returns-in-Sum : goal.returns-in-Sum
returns-in-Sum g c = λ sel copied p low among hand.
    let one : length c.args.own.now.inputs.now ≡ 1 = elim c.in-Sum-1.branch [
      | in-Sum-1 w ↦ search rules
      | in-Min-1 w ↦ search rules
      | in-Max-1 w ↦ search rules
      | in-Take-1 w ↦ search rules
      | in-Reduce-1 w ↦ search rules
      | in-Histo1D+in-None-1 w ↦ search rules
    ] in
    lanes_one c.args.at.now c.args.own.now c.args.lanes.now c.requires.can p low hand c.version_lane-x-in-Sum.result one (λ h. c.version_lane-x-in-Sum.ensures sel (copied.first_is (search rules)) p low among h)
