use Rattle.lemmas.proofs.{arith}
use Rattle.actions.proofs.Folds.{all_below, all_below-feed}
use Rattle.actions.proofs.acc.Acc.feed.Goals as goal

pub invariant_of-self : goal.invariant_of-self
invariant_of-self c =
    let room = rw (← c.self.view_is) at c.requires.room in
    record { few = omega arith; within = c.in-Ok.ensures.within c.self.inside.entries c.self.invariant.within }

pub returns-in-Ok-clause-fed : goal.returns-in-Ok-clause-fed
returns-in-Ok-clause-fed = grind (arith, all_below, all_below-feed)
