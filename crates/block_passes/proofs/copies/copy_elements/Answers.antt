use Rattle.lemmas.proofs.{FitsSigned, length-set, rules, set, w64, ℤ, ◌≡◌, ◌∙◌, ◌+◌, ℕ, List, ap, arith, length}
use Rattle.std.proofs.lemmas.Int.{to_z-of_z}
use Rattle.graph_numbers.specs.{Source, source_value}
use Rattle.loop_keys.specs.{row_of, site_in}
use Rattle.block_passes.specs.{GivesNumber, turn_job}
use Rattle.block_passes.proofs.PlanSteps.{each_at, numbers_more}
use Rattle.block_passes.proofs.copies.copy_elements.Goals as goal

pub loop-i-preserved : goal.loop-i-preserved
loop-i-preserved g c =
    let z = c.given_at.result in
    let low = c.requires.inside _ c.place_at-place.ensures.among in
    let room = c.loop-i.invariant.room in
    let fits : FitsSigned w64 z = search rules in
    let wrote : c.write_number.new.numbers.items ≡ set c.loop-i.numbers.items c.place_at-place.result z = c.write_number.ensures ∙ ap (λ (y : ℤ). set c.loop-i.numbers.items c.place_at-place.result y) (to_z-of_z w64 z fits) in
    record {
      room = ap (λ (l : List ℤ). length l) wrote ∙ length-set c.loop-i.numbers.items c.place_at-place.result z ∙ room;
      come =
          rw wrote
          (numbers_more (λ (p : ℕ). source_value {M = ⊥} (row_of (turn_job c.args.at.now) (c.args.at.now.first + p)) (site_in {M = ⊥} (turn_job c.args.at.now) (c.args.at.now.first + p) c.args.of.now.under) (Source.Element c.args.of.now.site c.args.of.now.nth c.args.of.now.tags))
          c.args.selection.now c.loop-i.i c.place_at-place.result c.place_at-place.ensures.value c.loop-i.numbers.items z (omega (arith, low, room)) c.given_at.ensures c.loop-i.invariant.come);
    }

pub returns : goal.returns
returns g c =
    let n = c.len-i-end.ensures.count in
    each_at c.args.selection.now (λ p. GivesNumber c.loop-i.numbers.items p (source_value {M = ⊥} (row_of (turn_job c.args.at.now) (c.args.at.now.first + p)) (site_in {M = ⊥} (turn_job c.args.at.now) (c.args.at.now.first + p) c.args.of.now.under) (Source.Element c.args.of.now.site c.args.of.now.nth c.args.of.now.tags)))
    (λ m lt. c.loop-i.invariant.come m (omega (arith, lt, n)))
