use Rattle.lemmas.proofs.{ap, rules, arith, ◌<◌, ◌++◌, ◌∙◌, subst, get_or, length, map, pos, take, w64, FitsSigned}
use Rattle.std.proofs.lemmas.Int.{to_z-of_z}
use Rattle.rdf_values.specs.declared.results.Item.TheVariants.{Point}
use Rattle.histograms.specs.{HasFilled}
use Rattle.actions.proofs.Batching.{one_point_more}
use Rattle.actions.proofs.folding.Hist1Folds.take_in.Goals as goal

pub fill-requires-clause-room : goal.fill-requires-clause-room
fill-requires-clause-room = grind arith

pub loop-number-preserved : goal.loop-number-preserved
loop-number-preserved c =
    let xs = c.args.numbers.now in
    let i = c.loop-number.number-index in
    let below : i < length xs = search rules in
    let x = get_or xs i (pos 0) in
    let fits_x : FitsSigned w64 x = search rules in
    record {
      edges = c.fill.ensures.edges ∙ c.loop-number.invariant.edges;
      fills = c.fill.ensures.fills ∙ (let f = c.loop-number.invariant.fills in omega arith);
      filled = λ before held. subst (HasFilled c.fill.new.self) (one_point_more before (λ z. Point z (pos 1)) xs i (pos 0) _ below (ap (λ z. Point z (pos 1)) (to_z-of_z w64 x fits_x)))
          (c.fill.ensures.filled (before ++ map (λ z. Point z (pos 1)) (take i xs)) (c.loop-number.invariant.filled before held));
    }
