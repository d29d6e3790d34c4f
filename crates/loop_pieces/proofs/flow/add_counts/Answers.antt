use Rattle.lemmas.proofs.{arith, sym, subst}
use Rattle.std.specs.List.{All}
use Rattle.loop_pieces.specs.{AreCounts}
use Rattle.loop_pieces.proofs.ByCluster.{sum_is, are_counts}
use Rattle.loop_pieces.proofs.flow.add_counts.Goals as goal

pub returns-clause-sum : goal.returns-clause-sum
returns-clause-sum c = sum_is c.args.mine.now c.args.theirs.now c.loop-i.mine c.requires.same c.loop-i.auto.mine (λ k lt. c.loop-i.invariant.done k (omega arith))

pub returns-clause-counts : goal.returns-clause-counts
returns-clause-counts c =
    let sum = sum_is c.args.mine.now c.args.theirs.now c.loop-i.mine c.requires.same c.loop-i.auto.mine (λ k lt. c.loop-i.invariant.done k (omega arith)) in
    subst (All AreCounts) (sym sum) (are_counts c.args.mine.now c.args.theirs.now c.requires.same c.requires.room c.requires.mine c.requires.theirs)
