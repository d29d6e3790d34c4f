use Rattle.lemmas.proofs.{◌≡◌, ◌<◌, ◌∙◌, List, [], ◌∷◌, ◌++◌, map, length, arith, rules, refl, ap, Err, Result, common_steps, map-append}
use Rattle.rdf_values.specs.{Placed, Refusal}
use Rattle.expr_read.specs.{placed_of}
use Rattle.expr_read.proofs.TokenSteps.{step_blank, step_bad, step_many, step_token, at_end, token_sized, refusal_sized}
use Rattle.expr_read.proofs.tokenizer.tokenize.Goals as goal

pub loop-place-preserved-then-is_blank : goal.loop-place-preserved-then-is_blank
loop-place-preserved-then-is_blank = grind (arith, step_blank)

pub overflow_add-result : goal.overflow_add-result
overflow_add-result c = omega (arith, refusal_sized c.args.text.now c.loop-place.place _ (omega arith) c.in-Err.ensures)

pub overflow_cast-result-in-Err : goal.overflow_cast-result-in-Err
overflow_cast-result-in-Err c = omega (arith, refusal_sized c.args.text.now c.loop-place.place _ (omega arith) c.in-Err.ensures)

pub returns-in-Err : goal.returns-in-Err
returns-in-Err c = c.loop-place.invariant.same ∙ step_bad _ c.args.text.now c.loop-place.place _ (omega arith) (search rules) c.in-Err.ensures (grind (arith, common_steps))

pub returns-then-len-eq-MOST_TOKENS : goal.returns-then-len-eq-MOST_TOKENS
returns-then-len-eq-MOST_TOKENS c =
    let refused : Refusal → Result (List Placed) Refusal = λ e. Err e in
    c.loop-place.invariant.same ∙ step_many _ c.args.text.now c.loop-place.place _ (omega arith) (search rules) c.first_token-first.ensures (grind (arith, common_steps)) ∙ ap refused (c.cause_at_limit.ensures c.loop-place.place)

pub overflow_add-place-in-loop-place : goal.overflow_add-place-in-loop-place
overflow_add-place-in-loop-place c = omega (arith, token_sized c.args.text.now c.loop-place.place _ (omega arith) c.in-Ok.ensures)

pub loop-place-smaller : goal.loop-place-smaller
loop-place-smaller c = omega (arith, token_sized c.args.text.now c.loop-place.place _ (omega arith) c.in-Ok.ensures)

pub loop-place-preserved : goal.loop-place-preserved
loop-place-preserved c =
    let size = token_sized c.args.text.now c.loop-place.place _ (omega arith) c.in-Ok.ensures in
    let few : length c.loop-place.found.items < 256 = grind (arith, common_steps) in
    let one = step_token (map placed_of c.loop-place.found.items) c.args.text.now c.loop-place.place _ (omega arith) (search rules) c.in-Ok.ensures (grind (arith, common_steps)) in
    let pushed : c.push.new.self.items ≡ c.loop-place.found.items ++ record { token = c.in-Ok.lexeme.0; place = c.loop-place.place } ∷ [] = grind (arith, common_steps) in
    record {
      same = c.loop-place.invariant.same ∙ one ∙ rw (pushed, map-append) refl;
      within = omega arith;
      few = grind (arith, common_steps);
    }

pub returns : goal.returns
returns c = c.loop-place.invariant.same ∙ at_end _ c.args.text.now c.loop-place.place (omega arith)
