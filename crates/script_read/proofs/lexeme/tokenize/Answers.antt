use Rattle.lemmas.proofs.{◌≡◌, ◌∙◌, ◌∷◌, ◌++◌, [], map, refl, arith, common_steps, map-append}
use Rattle.rdf_values.specs.{at_byte, Bad, Blank}
use Rattle.script_read.specs.{placed_of}
use Rattle.script_read.proofs.TokenSteps.{at_place, step_token, token_within}
use Rattle.script_read.proofs.lexeme.tokenize.Goals as goal

pub loop-place-preserved-in-Blank : goal.loop-place-preserved-in-Blank
loop-place-preserved-in-Blank c = record {
  same = c.loop-place.invariant.same ∙ at_place _ c.args.line.now c.loop-place.place Blank (omega arith) c.in-Blank.ensures;
  within = omega arith;
}

pub returns-in-Bad-clause-err : goal.returns-in-Bad-clause-err
returns-in-Bad-clause-err c = at_byte (c.loop-place.invariant.same ∙ at_place _ c.args.line.now c.loop-place.place Bad (omega arith) c.in-Bad.ensures)

pub overflow_add-place-in-Found : goal.overflow_add-place-in-Found
overflow_add-place-in-Found c = omega (arith, token_within c.args.line.now c.loop-place.place _ _ (omega arith) c.in-Found.ensures)

pub overflow_add-place-in-Found-2 : goal.overflow_add-place-in-Found-2
overflow_add-place-in-Found-2 c = omega (arith, token_within c.args.line.now c.loop-place.place _ _ (omega arith) c.in-Found.ensures)

pub loop-place-preserved : goal.loop-place-preserved
loop-place-preserved c =
    let size = token_within c.args.line.now c.loop-place.place _ _ (omega arith) c.in-Found.ensures in
    let one = step_token (map placed_of c.loop-place.found.items) c.args.line.now c.loop-place.place _ _ (omega arith) c.in-Found.ensures in
    let pushed : c.push.new.self.items ≡ c.loop-place.found.items ++ record { token = c.in-Found.token; place = c.loop-place.place } ∷ [] = grind (arith, common_steps) in
    record {
      same = c.loop-place.invariant.same ∙ one ∙ rw (pushed, map-append) refl;
      within = omega arith;
    }
