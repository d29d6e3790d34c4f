use Rattle.lemmas.proofs.{◌≡◌, ◌≤◌, ◌*◌, ◌∙◌, List, ap₂, arith, sym, same_some, take_no_longer}
use Rattle.rdf_values.specs.{Booked}
use Rattle.graph_numbers.specs.{ResultAt}
use Rattle.event_loop.specs.{fills}
use native.Mathlib.Nat.{mul-le-mul_left}
use Rattle.event_loop.proofs.Found.{at_start, loop_few, place_is}
use Rattle.event_loop.proofs.place.place_in.Goals as goal

pub unreachable-requires : goal.unreachable-requires
unreachable-requires c =
    let f = c.requires.filled in
    absurd (cc (at_start c.args.graph.now c.is_booked.ensures c.args.loop_index c.passes-passes.result.now c.passes-passes.ensures f.1 f.3 c.args.r f.0 f.2 f.4, c.in_default.ensures))

pub counts_of-before-requires-clause-few : goal.counts_of-before-requires-clause-few
counts_of-before-requires-clause-few c =
    let few = loop_few c.args.graph.now c.is_booked.ensures c.args.loop_index c.passes-passes.result.now c.passes-passes.ensures _ _ c.variations.ensures c.len-variations.ensures.count c.len-variations.ensures.few in
    omega (arith, few, take_no_longer c.in-Some.start c.passes-passes.result.now)

pub overflow_cast-own : goal.overflow_cast-own
overflow_cast-own c =
    let few = loop_few c.args.graph.now c.is_booked.ensures c.args.loop_index c.passes-passes.result.now c.passes-passes.ensures _ _ c.variations.ensures c.len-variations.ensures.count c.len-variations.ensures.few in
    omega (arith, few, c.pass_count-own.ensures.few)

pub overflow_mul-result : goal.overflow_mul-result
overflow_mul-result c =
    let few = loop_few c.args.graph.now c.is_booked.ensures c.args.loop_index c.passes-passes.result.now c.passes-passes.ensures _ _ c.variations.ensures c.len-variations.ensures.count c.len-variations.ensures.few in
    let product : c.pass_count-own.result * c.accumulators.result ≤ c.pass_count-own.result * 1 = mul-le-mul_left c.pass_count-own.result c.accumulators.ensures.few in
    omega (arith, few, c.pass_count-own.ensures.few, product)

pub returns : goal.returns
returns c = λ x results its there.
    let few = loop_few c.args.graph.now c.is_booked.ensures c.args.loop_index c.passes-passes.result.now c.passes-passes.ensures _ _ c.variations.ensures c.len-variations.ensures.count c.len-variations.ensures.few in
    let f = c.requires.filled in
    let row : f.0 ≡ x = same_some (sym f.2 ∙ its) in
    let all : f.1 ≡ results = same_some (sym f.3 ∙ there) in
    place_is c.args.graph.now c.is_booked.ensures c.args.loop_index c.passes-passes.result.now c.passes-passes.ensures results there c.args.r x its (ap₂ (λ (y : ResultAt) (rs : List Booked). fills y.booked.name rs) (sym row) (sym all) ∙ f.4)
    c.in-Some.start (sym c.in-Some.ensures) few
    c.counts_of-before.result.actions c.counts_of-before.result.watched c.pass_count-own.result c.accumulators.result c.counts_of-before.ensures c.pass_count-own.ensures.count c.accumulators.ensures.value
