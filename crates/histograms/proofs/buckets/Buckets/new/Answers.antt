use Rattle.lemmas.proofs.{◌-◌, length, get_or, pos, arith, sym, rules, w64, FitsSigned}
use Rattle.std.proofs.lemmas.Int.{to_z-of_z}
use Rattle.histograms.proofs.Filling.{starts-more}
use Rattle.histograms.proofs.buckets.Buckets.new.Goals as goal

pub loop-cell-preserved : goal.loop-cell-preserved
loop-cell-preserved = grind (arith, to_z-of_z, starts-more)

pub returns : goal.returns
returns c =
    let first : FitsSigned w64 (get_or c.args.edges.now 0 (pos 0)) = search rules in
    let last : FitsSigned w64 (get_or c.args.edges.now (length c.args.edges.now - 1) (pos 0)) = search rules in
    record {
      first = sym (to_z-of_z w64 _ first);
      last = sym (to_z-of_z w64 _ last);
      shift = c.shift_for-shift.ensures;
      starts = record {
        cells = c.loop-cell.invariant.cells;
        below = c.loop-cell.invariant.below;
        reached = λ k l. c.loop-cell.invariant.reached k (omega arith);
      };
    }
