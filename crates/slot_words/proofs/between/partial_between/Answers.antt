use Rattle.lemmas.proofs.{◌<◌, map, length, [], ap, sym, ◌∙◌, subst, arith, IsPermutation, get_or_from_slice_get, IsNonDecreasingBy-from_sort, IsStrictlyIncreasing, length-map}
use Rattle.rdf_values.specs.{IsUnion}
use Rattle.loop_pieces.specs.{WatchStandsFor}
use Rattle.slot_words.specs.{added, AreOf, cluster_in, piece_in, trails_at}
use Rattle.slot_words.proofs.Noting.{single, stand_alone, unite}
use Rattle.slot_words.proofs.Steps.{all_added, as_long, trail_there}
use Rattle.slot_words.proofs.between.partial_between.Goals as goal
use Rattle.slot_words.proofs.between.partial_between.Goals.{After-sort_unstable}

pub choose_between-requires : goal.choose_between-requires
choose_between-requires c =
    let os = c.args.orders.now.slots in
    let ts = trails_at c.args.watched c.args.pieces.now in
    let i = c.loop-i.i in
    let lt : i < length os = omega arith in
    let there = trail_there c.args.watched i os c.args.pieces.now c.index-pieces-i.result c.index.result.now c.as_slice-in-loop-i.result.now c.requires.numbers c.requires.there lt c.index.ensures c.as_slice-in-loop-i.ensures in
    record {
      same = ap length c.as_slice.ensures ∙ as_long os ts c.requires.numbers i c.at.result.now c.as_slice-in-loop-i.result.now c.at.ensures there;
      rises = subst IsStrictlyIncreasing (get_or_from_slice_get os i c.at.result.now [] c.at.ensures ∙ sym c.as_slice.ensures) (c.requires.rise i [] (omega arith));
      bounds = c.requires.bounds;
    }

-- all trails are gone through
gone : (c : After-sort_unstable) → AreOf c.loop-i.clusters.items c.loop-i.parts.items (added c.args.orders.now.slots c.args.low c.args.below (trails_at c.args.watched c.args.pieces.now))
gone c = all_added c.args.orders.now.slots (trails_at c.args.watched c.args.pieces.now) c.args.low c.args.below c.loop-i.i _ _ (omega arith) c.loop-i.invariant

united : (c : After-sort_unstable) → IsUnion (map single (added c.args.orders.now.slots c.args.low c.args.below (trails_at c.args.watched c.args.pieces.now))) c.sort_unstable.new.self.items
united c =
    let sorted = c.sort_unstable.new.self.items in
    unite _ _ _ (gone c) sorted (IsNonDecreasingBy-from_sort (λ x. x) sorted c.sort_unstable.ensures.sorted) c.sort_unstable.ensures.permutation c.requires.apart.2

pub merge_all-requires : goal.merge_all-requires
merge_all-requires c =
    let e = added c.args.orders.now.slots c.args.low c.args.below (trails_at c.args.watched c.args.pieces.now) in
    let k = (goal.at.merge_all-requires c).After-sort_unstable in
    let apart = c.requires.apart in
    record {
      some = omega (arith, c.requires.some, ap length (c.from_vec.ensures ∙ (gone k).pieces_are), length-map e piece_in);
      apart = (apart.0, map single e, c.sort_unstable.new.self.items, stand_alone _ _ e (gone k) (WatchStandsFor apart.0) _ c.from_vec.ensures apart.1, united k);
    }

pub returns : goal.returns
returns c =
    let e = added c.args.orders.now.slots c.args.low c.args.below (trails_at c.args.watched c.args.pieces.now) in
    let k = (goal.at.returns c).After-sort_unstable in
    let same = sym c.from_vec-2.ensures in
    record {
      named = (subst IsStrictlyIncreasing same (united k).rising, subst (IsPermutation (map cluster_in e)) same (subst (λ l. IsPermutation l c.sort_unstable.new.self.items) (gone k).clusters_are c.sort_unstable.ensures.permutation));
      stands = λ job h.
          (let stands = WatchStandsFor job in
          subst (λ l. stands l c.in_ok-piece.piece) same (c.in_ok-piece.ensures job (map single e) c.sort_unstable.new.self.items (stand_alone _ _ e (gone k) stands _ c.from_vec.ensures h) (united k)));
    }
