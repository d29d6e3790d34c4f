use Rattle.lemmas.proofs.{arith}
use Rattle.actions.proofs.acc.Acc.merge.Goals as goal

pub invariant_of-self-2 : goal.invariant_of-self-2
invariant_of-self-2 c =
    let room = rw (← c.self.view_is, ← c.other.view_is) at c.requires.room in
    record { few = omega arith; within = c.in_ok-merge.ensures.within c.self.inside.entries c.other.inside.entries c.self.invariant.within c.other.invariant.within }
