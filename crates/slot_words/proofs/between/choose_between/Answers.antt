use Rattle.lemmas.proofs.{◌≡◌, ◌≤◌, ◌++◌, ◌-◌, map, take, drop, ap, ◌∙◌, arith, rules, nat_lt, AllPairs-from_increasing, cases_eq, IsNonDecreasingBy, IsPartitionedBy-ltb, IsPartitionPoint-from_clause, take_all}
use Rattle.slot_words.specs.{added_in, cluster_in, piece_in}
use Rattle.slot_words.proofs.Steps.{IsStretch, is_stretch, stretch}
use Rattle.slot_words.proofs.between.choose_between.Goals as goal
use Rattle.slot_words.proofs.between.choose_between.Goals.{After-partition_point-end}
use Rattle.slot_words.proofs.between.choose_between.Given.{Over}

found : (g : Over) (c : After-partition_point-end g)
    → IsStretch c.args.numbers.now c.args.low c.args.below c.partition_point-start.result (c.partition_point-end.result - c.partition_point-start.result) × (c.partition_point-start.result ≤ c.partition_point-end.result)
found g c =
    let ns = c.args.numbers.now in
    let s = c.partition_point-start in
    let e = c.partition_point-end in
    let up : IsNonDecreasingBy (λ x. x) ns = λ i j d le lt. grind (arith, AllPairs-from_increasing ns c.requires.rises i j d, cases_eq i j) in
    is_stretch ns c.args.low c.args.below s.result e.result c.requires.bounds
    (IsPartitionPoint-from_clause (λ x. nat_lt x c.args.low) ns s.result s.ensures.partitioned (IsPartitionedBy-ltb (λ x. x) ns c.args.low up) (λ a r q k. search rules))
    (IsPartitionPoint-from_clause (λ x. nat_lt x c.args.below) ns e.result e.ensures.partitioned (IsPartitionedBy-ltb (λ x. x) ns c.args.below up) (λ a r q k. search rules))
    s.ensures.bound e.ensures.bound

pub slice_bounds-noted-items-count : goal.slice_bounds-noted-items-count
slice_bounds-noted-items-count g c = (found g (goal.at.slice_bounds-noted-items-count g c).After-partition_point-end).1

pub slice_bounds-noted-items-start : goal.slice_bounds-noted-items-start
slice_bounds-noted-items-start g c = let order = (found g (goal.at.slice_bounds-noted-items-start g c).After-partition_point-end).1 in search rules

-- all entries of the stretch were appended
ended : (g : Over) (c : After-partition_point-end g)
    → take (c.partition_point-end.result - c.partition_point-start.result) (drop c.partition_point-start.result c.args.trail.now) ≡ added_in c.args.numbers.now c.args.low c.args.below c.args.trail.now
ended g c = stretch c.args.numbers.now c.args.low c.args.below c.args.trail.now c.partition_point-start.result _ c.requires.same (found g c).0

pub returns-clause-clusters : goal.returns-clause-clusters
returns-clause-clusters g c =
    let all = take_all c.loop-noted.noted-index _ c.loop-noted-test.false ∙ ended g (goal.at.returns-clause-clusters g c).After-partition_point-end in
    c.loop-noted.invariant.clusters ∙ ap (λ l. c.args.clusters.now.items ++ map cluster_in l) all

pub returns-clause-pieces : goal.returns-clause-pieces
returns-clause-pieces g c =
    let all = take_all c.loop-noted.noted-index _ c.loop-noted-test.false ∙ ended g (goal.at.returns-clause-pieces g c).After-partition_point-end in
    c.loop-noted.invariant.pieces ∙ ap (λ l. c.args.pieces.now.items ++ map piece_in l) all
