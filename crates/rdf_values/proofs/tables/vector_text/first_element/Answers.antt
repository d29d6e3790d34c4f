use Rattle.lemmas.proofs.{◌≡◌, ◌+◌, arith, drop, get_or, of_z, refl, rules, to_z, true, w64}
use Rattle.rdf_values.specs.{is_semicolon}
use Rattle.rdf_values.proofs.PieceLemmas.{element_before, element_last}
use Rattle.rdf_values.proofs.Fronts.{rest_of}
use Rattle.rdf_values.proofs.tables.vector_text.first_element.Goals as goal

pub returns-then-end-text : goal.returns-then-end-text
returns-then-end-text c =
    let same : to_z w64 (of_z w64 c.in-Some.element) ≡ c.in-Some.element = search rules in
    rw same (element_last c.args.text.now _ _ c.in-Some.ensures (search rules))

pub returns-then-text-end-eq59 : goal.returns-then-text-end-eq59
returns-then-text-end-eq59 c =
    let same : to_z w64 (of_z w64 c.in-Some.element) ≡ c.in-Some.element = search rules in
    let found : is_semicolon (get_or c.args.text.now c.in-Some.end 0) ≡ true = search rules in
    rw (same, rest_of (c.in-Some.end + 1) c.args.text.now) (element_before c.args.text.now _ _ (drop (c.in-Some.end + 1) c.args.text.now) c.in-Some.ensures (omega (arith, c.in-Some.ensures.within)) found refl)
