use Rattle.lemmas.proofs.{arith}
use Rattle.actions.proofs.Batching.{within_more}
use Rattle.actions.proofs.Folds.{all_below, all_below-feed}
use Rattle.actions.proofs.acc.Acc.feed_batch.Goals as goal

pub invariant_of-self-2 : goal.invariant_of-self-2
invariant_of-self-2 c =
    let room = rw (← c.self.view_is) at c.requires.room in
    let count = c.len.ensures in
    record { few = omega (arith, room, count); within = within_more c.feed_batch.new.self _ _ (omega (arith, count)) (c.in_ok-feed_batch.ensures.within c.self.inside.entries c.self.invariant.within) }

pub returns-clause-fed : goal.returns-clause-fed
returns-clause-fed = grind (arith, all_below, all_below-feed)
