use Rattle.lemmas.proofs.{◌∙◌, sym, get_or, drop, ◌+◌, arith, rules, at_drop_more, digit_value_digit}
use Rattle.rdf_values.specs.{digits_up_to}
use Rattle.rdf_values.proofs.Fronts.{stops_at_digit}
use Rattle.rdf_values.proofs.tables.integer.read_digits.Goals as goal

pub returns-then-value-most-clause-value : goal.returns-then-value-most-clause-value
returns-then-value-most-clause-value c =
    let ds = c.args.digits.now in
    let i = c.loop-b.b-index in
    let next = at_drop_more (digits_up_to c.args.most c.loop-b.value) ds i 0 (search rules) in
    let none = stops_at_digit c.args.most c.loop-b.value (get_or ds i 0) (drop (i + 1) ds) (omega arith) in
    sym (c.loop-b.invariant.0 ∙ next ∙ none)

pub returns-then-next-most-clause-value : goal.returns-then-next-most-clause-value
returns-then-next-most-clause-value c =
    let ds = c.args.digits.now in
    let i = c.loop-b.b-index in
    let next = at_drop_more (digits_up_to c.args.most c.loop-b.value) ds i 0 (search rules) in
    let none = stops_at_digit c.args.most c.loop-b.value (get_or ds i 0) (drop (i + 1) ds) (grind (arith, digit_value_digit)) in
    sym (c.loop-b.invariant.0 ∙ next ∙ none)
