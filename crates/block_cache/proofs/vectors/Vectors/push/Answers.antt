use Rattle.lemmas.proofs.{◌++◌, ◌∷◌, [], ◌∙◌, ap, arith, length, map}
use Rattle.block_cache.specs.{cells_in}
use Rattle.block_cache.proofs.LaneSteps.{kept_more, pushed}
use Rattle.block_cache.proofs.vectors.Vectors.push.Goals as goal

pub returns-clause-kept : goal.returns-clause-kept
returns-clause-kept c =
    let e = c.in_ok-extend_from_slice.ensures.items in
    kept_more _ _ c.args.vector.now
    ((λ i. map (cells_in (e i)) (c.in_ok-push.ensures.items i))
    ∙ pushed c.self.inside.ranges.items c.self.inside.cells.items c.args.vector.now _ c.self.invariant (omega (arith, c.len-from.ensures)) (omega (arith, c.len-to.ensures, ap length e)) ∙ ap (λ l. l ++ c.args.vector.now ∷ []) c.self.view_is)
