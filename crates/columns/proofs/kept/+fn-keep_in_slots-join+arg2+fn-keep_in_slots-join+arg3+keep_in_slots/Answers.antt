use Rattle.lemmas.proofs.{map, rules}
use Rattle.rdf_values.specs.{Keep}
use Rattle.columns.specs.{whole}
use Rattle.columns.proofs.InPieces.{halves_by_cluster, halves_joined, keep_back, keep_front}
use Rattle.columns.proofs.kept.+fn-keep_in_slots-join+arg2+fn-keep_in_slots-join+arg3+keep_in_slots.Goals as goal

pub join-first-requires-after_bounds : goal.join-first-requires-after_bounds
join-first-requires-after_bounds g t c κs within =
    let front : Keep c.args.cuts.now.entries (map whole c.split_off.new.self.items) = rw c.in_ok-back.ensures.items (keep_front c.args.cuts.now.entries c.half_of.result c.args.pieces.items c.requires.keep) in
    let back : Keep c.args.cuts.now.entries (map whole c.in_ok-back.back.items) = rw c.in_ok-back.ensures.tail (keep_back c.args.cuts.now.entries c.half_of.result c.args.pieces.items c.requires.keep) in (
      (search rules, ((λ a m. m), ((search rules, front, c.requires.few), search rules))),
      (search rules, ((λ a m. m), ((search rules, back, c.requires.few), search rules))),
    )

pub returns-clause-same : goal.returns-clause-same
returns-clause-same g t c =
    let first = rw c.in_ok-kept.was at c.join-first.ensures.first.0 in
    let second = rw c.in_ok-second.was at c.join-first.ensures.second.0 in
    halves_joined c.half_of.result c.args.pieces.items _ _ _ _ _ c.in_ok-back.ensures.items c.in_ok-back.ensures.tail first second c.in_ok-append.ensures.items

pub returns-clause-clusters : goal.returns-clause-clusters
returns-clause-clusters g t c =
    let first = rw c.in_ok-kept.was at c.join-first.ensures.first.1 in
    let second = rw c.in_ok-second.was at c.join-first.ensures.second.1 in
    halves_by_cluster _ _ _ _ first second c.in_ok-append.ensures.items
