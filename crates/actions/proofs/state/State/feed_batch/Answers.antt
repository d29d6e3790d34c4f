use Rattle.lemmas.proofs.{rules, arith, [], refl, ◌≡◌, true, false, subst, sym, ◌++◌, length, length-append, ap, ◌∙◌, flat_map, on_ok}
use Rattle.rdf_values.specs.{ActionKind, Item}
use Rattle.actions.specs.{first_numbers, first_numbers_in, first_scalar, IsWithin, places_of, values_at}
use Rattle.actions.proofs.Batching.{column_items, few_values, singles_counted}
use Rattle.actions.proofs.States.{either_way, holds_counted, holds_greatest, holds_least, holds_reduced, holds_summed, holds_taken, spread_sum, spread_take}
use Rattle.actions.proofs.state.State.feed_batch.Goals as goal

pub returns-in-Count-clause-fed : goal.returns-in-Count-clause-fed
returns-in-Count-clause-fed c = λ fed below held.
    let ps = places_of c.args.batch.now.places in
    let count = c.len.ensures in
    let each = singles_counted (λ p. Item.Unit) ps in
    rw c.in-Count.is (holds_counted fed c.args.cluster below c.in-Count.entries _ _ (omega (arith, count, each)) (rw c.in-Count.is at held))

pub returns-in-Sum-clause-fed : goal.returns-in-Sum-clause-fed
returns-in-Sum-clause-fed c = λ fed below held.
    rw c.in-Sum.is (holds_summed fed c.args.cluster below c.in-Sum.column c.in-Sum.sum _ (first_numbers_in c.args.batch.now) _ (c.fold_batch.ensures.folded _ [] refl)
    (column_items (ActionKind.Sum c.in-Sum.column) c.args.batch.now.sources (places_of c.args.batch.now.places) first_numbers Item.Number (spread_sum c.in-Sum.column)) (rw c.in-Sum.is at held))

pub returns-in-Min-clause-fed : goal.returns-in-Min-clause-fed
returns-in-Min-clause-fed c = λ fed below held.
    rw c.in-Min.is (holds_least fed c.args.cluster below c.in-Min.column c.in-Min.least _ (first_numbers_in c.args.batch.now) _ (c.fold_batch-in-Min.ensures.folded _ [] refl)
    (column_items (ActionKind.Min c.in-Min.column) c.args.batch.now.sources (places_of c.args.batch.now.places) first_numbers Item.Number (spread_sum c.in-Min.column)) (rw c.in-Min.is at held))

pub returns-in-Max-clause-fed : goal.returns-in-Max-clause-fed
returns-in-Max-clause-fed c = λ fed below held.
    rw c.in-Max.is (holds_greatest fed c.args.cluster below c.in-Max.column c.in-Max.greatest _ (first_numbers_in c.args.batch.now) _ (c.fold_batch-in-Max.ensures.folded _ [] refl)
    (column_items (ActionKind.Max c.in-Max.column) c.args.batch.now.sources (places_of c.args.batch.now.places) first_numbers Item.Number (spread_sum c.in-Max.column)) (rw c.in-Max.is at held))

pub returns-in-Take-clause-within : goal.returns-in-Take-clause-within
returns-in-Take-clause-within c = λ n w.
    let before = rw c.in-Take.is at w in
    let ps = places_of c.args.batch.now.places in
    let few = few_values c.args.cluster c.args.batch.now.sources ps in
    let all = ap length c.in_ok-more-in-Take.ensures in
    either_way c.append.result _ _ _ c.append.ensures.ok c.append.ensures.err
    (λ ok. let long = ap length ok.0 ∙ length-append c.in-Take.values _ in omega (arith, before, few, all, long))
    (λ err. let long = ap length err.0 in omega (arith, before, long))

pub returns-in-Take-clause-fed : goal.returns-in-Take-clause-fed
returns-in-Take-clause-fed c = λ fed below held.
    let s = c.args.batch.now.sources in
    let ps = places_of c.args.batch.now.places in
    on_ok c.append.result _ _ (λ ok. rw c.in-Take.is (holds_taken fed c.args.cluster below c.in-Take.column c.in-Take.values _ (flat_map (λ p. first_scalar (values_at s p)) ps) _
    (ok.0 ∙ ap (λ l. c.in-Take.values ++ l) c.in_ok-more-in-Take.ensures) (column_items (ActionKind.Take c.in-Take.column) s ps first_scalar Item.Single (spread_take c.in-Take.column)) (rw c.in-Take.is at held))) c.append.ensures.ok

pub returns-in-Reduce-clause-kind : goal.returns-in-Reduce-clause-kind
returns-in-Reduce-clause-kind c = rw c.in-Reduce.is (ap (λ o. ActionKind.Reduce o c.in-Reduce.column) (c.fold_batch-in-Reduce.ensures.folded _ [] (refl, refl)).0)

pub returns-in-Reduce-clause-fed : goal.returns-in-Reduce-clause-fed
returns-in-Reduce-clause-fed c = λ fed below held.
    rw c.in-Reduce.is (holds_reduced fed c.args.cluster below c.in-Reduce.column c.in-Reduce.reduction _ (first_numbers_in c.args.batch.now) _ (c.fold_batch-in-Reduce.ensures.folded _ [] (refl, refl))
    (column_items (ActionKind.Reduce c.in-Reduce.reduction.op c.in-Reduce.column) c.args.batch.now.sources (places_of c.args.batch.now.places) first_numbers Item.Number (spread_sum c.in-Reduce.column)) (rw c.in-Reduce.is at held))

pub returns-then-not-fill_at_once-clause-within : goal.returns-then-not-fill_at_once-clause-within
returns-then-not-fill_at_once-clause-within c = λ n w.
    let none : c.fill_at_once.result ≡ false = search rules in
    c.feed_each.ensures.within n (subst (IsWithin n) (sym (c.fill_at_once.ensures.other none)) w)

pub returns-else-not-fill_at_once-clause-within : goal.returns-else-not-fill_at_once-clause-within
returns-else-not-fill_at_once-clause-within c = λ n w.
    let all : c.fill_at_once.result ≡ true = search rules in
    c.fill_at_once.ensures.within all n w
