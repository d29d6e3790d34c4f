use Rattle.lemmas.proofs.{arith, ◌∷◌, [], ◌∙◌, ap, map, sym, refl, on_ok}
use Rattle.rdf_values.specs.{ActionKind, Item}
use Rattle.actions.specs.{values_of}
use Rattle.actions.proofs.States.{first_short, holds_counted, holds_flat, holds_greatest, holds_least, holds_reduced, holds_square, holds_summed, holds_taken, spread_flat, spread_square, spread_sum, spread_take}
use Rattle.actions.proofs.state.State.feed.Goals as goal

pub returns-in-Count-clause-fed : goal.returns-in-Count-clause-fed
returns-in-Count-clause-fed c = λ fed below held. rw c.in-Count.is (holds_counted fed c.args.cluster below c.in-Count.entries _ (Item.Unit ∷ []) refl (rw c.in-Count.is at held))

pub returns-in-Sum-clause-within : goal.returns-in-Sum-clause-within
returns-in-Sum-clause-within = grind (arith, first_short)

pub returns-in-Sum-clause-fed : goal.returns-in-Sum-clause-fed
returns-in-Sum-clause-fed c = λ fed below held.
    rw c.in-Sum.is (holds_summed fed c.args.cluster below c.in-Sum.column c.in-Sum.sum _ c.first.result.now _ (c.take_in.ensures.folded _ [] refl) (spread_sum c.in-Sum.column (values_of c.args.items.now) ∙ ap (map Item.Number) (sym c.first.ensures)) (rw c.in-Sum.is at held))

pub returns-in-Min-clause-fed : goal.returns-in-Min-clause-fed
returns-in-Min-clause-fed c = λ fed below held.
    rw c.in-Min.is (holds_least fed c.args.cluster below c.in-Min.column c.in-Min.least _ c.first-in-Min.result.now _ (c.take_in-in-Min.ensures.folded _ [] refl) (spread_sum c.in-Min.column (values_of c.args.items.now) ∙ ap (map Item.Number) (sym c.first-in-Min.ensures)) (rw c.in-Min.is at held))

pub returns-in-Max-clause-fed : goal.returns-in-Max-clause-fed
returns-in-Max-clause-fed c = λ fed below held.
    rw c.in-Max.is (holds_greatest fed c.args.cluster below c.in-Max.column c.in-Max.greatest _ c.first-in-Max.result.now _ (c.take_in-in-Max.ensures.folded _ [] refl) (spread_sum c.in-Max.column (values_of c.args.items.now) ∙ ap (map Item.Number) (sym c.first-in-Max.ensures)) (rw c.in-Max.is at held))

pub returns-in-Some-clause-fed : goal.returns-in-Some-clause-fed
returns-in-Some-clause-fed c = λ fed below held.
    on_ok c.push.result _ _ (λ pushed. rw c.in-Take.is (holds_taken fed c.args.cluster below c.in-Take.column c.in-Take.values _ (c.in-Some.value ∷ []) _ pushed (spread_take c.in-Take.column (values_of c.args.items.now) ∙ ap (map Item.Single) (sym c.in-Some.ensures)) (rw c.in-Take.is at held))) c.push.ensures.ok

pub returns-in-Reduce-clause-kind : goal.returns-in-Reduce-clause-kind
returns-in-Reduce-clause-kind c = rw c.in-Reduce.is (ap (λ o. ActionKind.Reduce o c.in-Reduce.column) (c.take_in-in-Reduce.ensures.folded _ [] (refl, refl)).0)

pub returns-in-Reduce-clause-fed : goal.returns-in-Reduce-clause-fed
returns-in-Reduce-clause-fed c = λ fed below held.
    rw c.in-Reduce.is (holds_reduced fed c.args.cluster below c.in-Reduce.column c.in-Reduce.reduction _ c.first-in-Reduce.result.now _ (c.take_in-in-Reduce.ensures.folded _ [] (refl, refl))
    (spread_sum c.in-Reduce.column (values_of c.args.items.now) ∙ ap (map Item.Number) (sym c.first-in-Reduce.ensures)) (rw c.in-Reduce.is at held))

pub returns-in-Histo1D-clause-fed : goal.returns-in-Histo1D-clause-fed
returns-in-Histo1D-clause-fed c = λ fed below held.
    let suits = rw c.in-Histo1D.is at c.requires.suits in
    rw c.in-Histo1D.is (holds_flat fed c.args.cluster below c.in-Histo1D.hist c.fill_points.new.hist c.in-Histo1D.x c.in-Histo1D.weight _ _
    (spread_flat c.in-Histo1D.hist.edges c.in-Histo1D.x c.in-Histo1D.weight c.args.items.now suits ∙ rw (← c.first-in-Histo1D.ensures, ← c.weight.ensures) refl)
    c.fill_points.ensures.filled (rw c.in-Histo1D.is at held))

pub returns-in-Histo2D-clause-fed : goal.returns-in-Histo2D-clause-fed
returns-in-Histo2D-clause-fed c = λ fed below held.
    let suits = rw c.in-Histo2D.is at c.requires.suits in
    rw c.in-Histo2D.is (holds_square fed c.args.cluster below c.in-Histo2D.hist c.fill_pairs.new.hist c.in-Histo2D.x c.in-Histo2D.y c.in-Histo2D.weight _ _
    (spread_square c.in-Histo2D.hist.x_edges c.in-Histo2D.hist.y_edges c.in-Histo2D.x c.in-Histo2D.y c.in-Histo2D.weight c.args.items.now suits ∙ rw (← c.first-in-Histo2D.ensures, ← c.second.ensures, ← c.weight-in-Histo2D.ensures) refl)
    c.fill_pairs.ensures.filled (rw c.in-Histo2D.is at held))
