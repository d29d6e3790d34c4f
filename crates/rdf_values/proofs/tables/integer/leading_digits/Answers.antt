use Rattle.lemmas.proofs.{◌≡◌, ◌∷◌, ◌+◌, arith, rules}
use Rattle.rdf_values.proofs.Fronts.{one_more_digit}
use Rattle.rdf_values.proofs.FrontNumbers.{front_found, front_more}
use Rattle.rdf_values.proofs.tables.integer.leading_digits.Goals as goal

pub overflow_mul-value : goal.overflow_mul-value
overflow_mul-value c =
    let more = one_more_digit (c.loop-i.i + 1) c.loop-i.value 0 (omega arith) c.loop-i.invariant.few (omega arith) in
    omega (arith, more.1)

pub overflow_add-value : goal.overflow_add-value
overflow_add-value c =
    let more = one_more_digit (c.loop-i.i + 1) c.loop-i.value c.in-Some.digit (omega arith) c.loop-i.invariant.few c.in-Some.ensures.2 in
    omega (arith, more.1)

pub loop-i-preserved : goal.loop-i-preserved
loop-i-preserved c =
    let split : c.args.text.now ≡ c.in_ok-first.first.now ∷ c.in_ok-first.rest.now = search rules in
    let more = front_more c.args.text.now c.in_ok-first.rest.now _ c.loop-i.i c.loop-i.value c.in-Some.digit split (omega arith) (omega arith) c.loop-i.invariant.written c.loop-i.invariant.few c.in-Some.ensures in
    record { written = more.0; few = more.1 }

pub returns-in_default : goal.returns-in_default
returns-in_default c =
    let split : c.args.text.now ≡ c.in_ok-first.first.now ∷ c.in_ok-first.rest.now = search rules in
    front_found c.args.text.now c.in_ok-first.rest.now _ c.in_ok-value.value _ _ split c.in_ok-value.ensures c.if-value-eq0.false (omega arith) (omega arith) (omega arith) c.loop-i.invariant.written c.loop-i.invariant.few

pub returns : goal.returns
returns c =
    let split : c.args.text.now ≡ c.in_ok-first.first.now ∷ c.in_ok-first.rest.now = search rules in
    let all : c.loop-i.i ≡ c.min-more.result = search rules in
    rw all at (front_found c.args.text.now c.in_ok-first.rest.now _ c.in_ok-value.value _ _ split c.in_ok-value.ensures c.if-value-eq0.false (omega arith) (omega arith) (omega arith) c.loop-i.invariant.written c.loop-i.invariant.few)
