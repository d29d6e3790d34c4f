use Rattle.lemmas.proofs.{rules, ◌<◌, ◌∙◌, ap, sym, get_or, length, pos, w64, FitsSigned, fold_more, to_z-of_z}
use Rattle.rdf_values.specs.{reduce_step}
use Rattle.actions.proofs.folding.ReductionFolds.take_in.Goals as goal

pub loop-number-preserved : goal.loop-number-preserved
loop-number-preserved c =
    let xs = c.args.numbers.now in
    let number = get_or xs c.loop-number.number-index (pos 0) in
    let fits_number : FitsSigned w64 number = search rules in
    let fits_result : FitsSigned w64 c.reduce-value.result = search rules in
    let below : c.loop-number.number-index < length xs = search rules in
    record {
      reduced = to_z-of_z w64 c.reduce-value.result fits_result ∙ c.reduce-value.ensures ∙ ap (reduce_step c.args.self.now.op _) (to_z-of_z w64 number fits_number) ∙ ap (λ v. reduce_step c.args.self.now.op v number) c.loop-number.invariant.reduced
          ∙ sym (fold_more (reduce_step c.args.self.now.op) _ xs c.loop-number.number-index (pos 0) below);
    }
