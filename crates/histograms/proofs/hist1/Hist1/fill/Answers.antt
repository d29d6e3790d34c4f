use Rattle.lemmas.proofs.{◌≡◌, ◌<◌, ◌+◌, ◌∙◌, length, arith, ap, sym, subst, w64, length-set}
use Rattle.std.proofs.lemmas.Int.{to_z-of_z}
use Rattle.histograms.specs.{IsBounded, with_weight}
use Rattle.histograms.proofs.Filling.{all_bounded_with, bounded_with, flat_cells-point}
use Rattle.histograms.proofs.hist1.Hist1.fill.Goals as goal

pub invariant_of-self : goal.invariant_of-self
invariant_of-self c =
    let kept : c.with.result ≡ with_weight c.index.result.now c.args.weight = c.with.ensures ∙ ap (with_weight c.index.result.now) (to_z-of_z w64 c.args.weight c.ranges.weight) in
    let room = rw (← c.self.view_is) at c.requires.room in
    let below : c.bin-place.result < length c.self.inside.cells.items = let size = c.self.invariant.size in let within = c.bin-place.ensures.within in omega arith in
    let old : IsBounded c.self.inside.fills c.index.result.now = subst (IsBounded c.self.inside.fills) (sym c.index.ensures) (c.self.invariant.bounded c.bin-place.result c.index.result.now below) in
    let new : IsBounded (c.self.inside.fills + 1) c.with.result = subst (IsBounded (c.self.inside.fills + 1)) (sym kept) (bounded_with c.self.inside.fills c.index.result.now c.args.weight c.requires.weight old) in
    record {
      axis = c.self.invariant.axis;
      size = rw length-set c.self.invariant.size;
      few = omega arith;
      bounded = all_bounded_with c.self.inside.fills c.self.inside.cells.items c.bin-place.result c.with.result new c.self.invariant.bounded;
    }

pub returns-clause-filled : goal.returns-clause-filled
returns-clause-filled = grind (arith, to_z-of_z, flat_cells-point)
