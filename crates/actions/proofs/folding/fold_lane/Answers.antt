use Rattle.lemmas.proofs.{arith, ℤ, ◌++◌, List, length, get_or, pos, ap, sym, subst, length-take-le, length-range_with_len, get_or-range_with_len}
use Rattle.std.proofs.lemmas.List.Concat.{flat_map_single}
use Rattle.actions.proofs.Batching.{numbers_of_first, singles_counted, taken_within}
use Rattle.actions.proofs.folding.fold_lane.Goals as goal

pub slice_bounds-take_in-end : goal.slice_bounds-take_in-end
slice_bounds-take_in-end = grind (arith, length-take-le, length-range_with_len, get_or-range_with_len)

pub take_in-requires : goal.take_in-requires
take_in-requires g c =
    let there = rw (c.in-Int-First.is-0, c.in-Int-First.is-1) at c.requires.there in
    let room = rw (c.in-Int-First.is-0, c.in-Int-First.is-1) at c.requires.room in
    let same = ap length (numbers_of_first c.in-Int-First.numbers.now c.in-Int-First.count there) in
    record { room = omega (arith, room, same) }

pub returns-in-Int-First-clause-folded : goal.returns-in-Int-First-clause-folded
returns-in-Int-First-clause-folded g c = λ start before h.
    let there = rw (c.in-Int-First.is-0, c.in-Int-First.is-1) at c.requires.there in
    let same = numbers_of_first c.in-Int-First.numbers.now c.in-Int-First.count there in
    rw (c.in-Int-First.is-0, c.in-Int-First.is-1) (subst (λ (l : List ℤ). g.F.Folds.folded start c.take_in.new.self (before ++ l)) (sym same) (c.take_in.ensures.folded start before h))

pub returns-in-Int-First-clause-bounded : goal.returns-in-Int-First-clause-bounded
returns-in-Int-First-clause-bounded g c =
    let there = rw (c.in-Int-First.is-0, c.in-Int-First.is-1) at c.requires.there in
    let same = ap length (numbers_of_first c.in-Int-First.numbers.now c.in-Int-First.count there) in
    let bounded = c.take_in.ensures.bounded in
    rw (c.in-Int-First.is-0, c.in-Int-First.is-1) (omega (arith, bounded, same))

pub take_in-requires-in-loop-i : goal.take_in-requires-in-loop-i
take_in-requires-in-loop-i = grind (arith, taken_within)

pub fold_listed-requires-clause-room : goal.fold_listed-requires-clause-room
fold_listed-requires-clause-room g c =
    let room = rw (c.in-Int-Listed.is-0, c.in-Int-Listed.is-1) at c.requires.room in
    let same = singles_counted (λ p. get_or c.in-Int-Listed.numbers.now p (pos 0)) c.in-Int-Listed.listed.now in
    omega (arith, room, same)

pub returns-in-Int-Listed-clause-folded : goal.returns-in-Int-Listed-clause-folded
returns-in-Int-Listed-clause-folded g c = λ start before h.
    rw (c.in-Int-Listed.is-0, c.in-Int-Listed.is-1) (subst (λ (l : List ℤ). g.F.Folds.folded start c.fold_listed.new.folder (before ++ l)) (sym (flat_map_single (λ p. get_or c.in-Int-Listed.numbers.now p (pos 0)) c.in-Int-Listed.listed.now)) (c.fold_listed.ensures.folded start before h))

pub returns-in-Int-Listed-clause-bounded : goal.returns-in-Int-Listed-clause-bounded
returns-in-Int-Listed-clause-bounded g c =
    let same = singles_counted (λ p. get_or c.in-Int-Listed.numbers.now p (pos 0)) c.in-Int-Listed.listed.now in
    let bounded = c.fold_listed.ensures.bounded in
    rw (c.in-Int-Listed.is-0, c.in-Int-Listed.is-1) (omega (arith, bounded, same))
