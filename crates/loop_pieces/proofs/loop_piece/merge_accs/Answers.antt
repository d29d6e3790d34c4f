use Rattle.lemmas.proofs.{◌∙◌, arith, get_or-set_other}
use Rattle.std.proofs.lemmas.List.{length-set}
use Rattle.loop_pieces.proofs.ByCluster.{done_next}
use Rattle.loop_pieces.proofs.loop_piece.merge_accs.Goals as goal

pub loop-i-preserved : goal.loop-i-preserved
loop-i-preserved c =
    let i = c.loop-i.invariant in
    let mine = c.loop-i.mine in
    record {
      many = length-set mine c.loop-i.i c.merge.new.self ∙ i.many;
      left = λ k d le. get_or-set_other mine c.loop-i.i k c.merge.new.self d (λ e. absurd (omega arith)) ∙ i.left k d (omega arith);
      done = done_next c.args.mine.now c.args.theirs.now mine c.loop-i.i c.index-theirs-i.result c.merge.new.self c.index-mine-i.result
          (let lt = c.loop-i-test.true in omega (arith, lt, i.many)) i.many c.requires.many i.left i.done
          c.index-theirs-i.is (record { kind = c.merge.ensures.kind; entries = c.in_ok-merge.ensures.entries; fed = c.in_ok-merge.ensures.fed });
    }
