use Rattle.lemmas.proofs.{[], rules, arith, ℕ, ◌≡◌, ◌≤◌, ◌<◌, ◌+◌, ◌++◌, List, length, take, get_or, ap, sym, subst, ◌∙◌, flat_map}
use Rattle.std.proofs.lemmas.List.{flat_map_more, take_more}
use Rattle.rdf_values.specs.{Item, spread}
use Rattle.actions.specs.{from_cluster, Holds, kind_of, places_of, values_at, values_of}
use Rattle.actions.proofs.Batching.{one_more_fed, within_more}
use Rattle.actions.proofs.Folds.{all_below-feed}
use Rattle.actions.proofs.state.State.feed_each.Goals as goal

pub feed-requires-clause-room : goal.feed-requires-clause-room
feed-requires-clause-room c =
    let below : c.loop-i.i < length (places_of c.args.batch.now.places) = search rules in
    let few = c.requires.few in
    within_more c.loop-i.self _ 999999 (omega (arith, below, few)) (c.loop-i.invariant.within _ c.requires.room)

pub loop-i-preserved : goal.loop-i-preserved
loop-i-preserved c =
    let ps = places_of c.args.batch.now.places in
    let s = c.args.batch.now.sources in
    let i = c.loop-i.i in
    let below_i : i < length ps = search rules in
    let f : ℕ → List Item = λ p. spread (kind_of c.args.self.now) (values_at s p) in
    let same : spread (kind_of c.loop-i.self) (values_of c.items-items.result) ≡ f (get_or ps i 0)
    = ap (λ k. spread k (values_of c.items-items.result)) c.loop-i.invariant.kind ∙ ap (spread (kind_of c.args.self.now)) (c.items-items.ensures.values ∙ ap (values_at s) (sym c.at.ensures)) in
    record {
      kind = c.feed.ensures.kind ∙ c.loop-i.invariant.kind;
      within = λ n w. within_more c.feed.new.self _ _ (omega arith) (c.feed.ensures.within (n + i) (c.loop-i.invariant.within n w));
      fed = λ fed below held. subst (Holds c.feed.new.self)
          (one_more_fed fed c.args.cluster (flat_map f (take i ps)) _ (flat_map f (take (i + 1) ps)) (ap (flat_map f) (take_more ps i 0 below_i) ∙ sym (flat_map_more f [] (take i ps) (get_or ps i 0)) ∙ ap (λ l. flat_map f (take i ps) ++ l) (sym same)))
          (c.in-Ok.ensures.fed (fed ++ from_cluster c.args.cluster (flat_map f (take i ps))) (all_below-feed fed c.args.cluster (flat_map f (take i ps)) below) (c.loop-i.invariant.fed fed below held));
    }

pub returns-clause-within : goal.returns-clause-within
returns-clause-within c = λ n w.
    let up : c.loop-i.i ≤ length (places_of c.args.batch.now.places) = search rules in
    within_more c.loop-i.self _ _ (omega (arith, up)) (c.loop-i.invariant.within n w)
