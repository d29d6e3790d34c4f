use Rattle.lemmas.proofs.{arith, rules}
use Rattle.std.proofs.lemmas.Bool.Decides.{nat_tests}
use Rattle.rdf_values.proofs.PieceLemmas.{element_shorter, reading_bad, reading_empty, reading_end, reading_long, reading_more, reading_start}
use Rattle.rdf_values.proofs.tables.vector_text.read_elements.Goals as goal

pub returns-then-is_empty-clause-read : goal.returns-then-is_empty-clause-read
returns-then-is_empty-clause-read c = grind (arith, reading_empty, nat_tests)

pub loop-rest-init : goal.loop-rest-init
loop-rest-init c = grind (arith, reading_start, nat_tests)

pub returns-in_default-first_element-clause-read : goal.returns-in_default-first_element-clause-read
returns-in_default-first_element-clause-read c = reading_bad _ c.in-Some.left.now _ _ (rw c.in-Some.is at c.loop-rest.invariant) c.in_default-first_element.ensures

pub returns-then-len-most-clause-read : goal.returns-then-len-most-clause-read
returns-then-len-most-clause-read c = reading_long _ c.in-Some.left.now _ _ _ _ (rw c.in-Some.is at c.loop-rest.invariant) c.in-Some-first_element.ensures (search rules)

pub loop-rest-preserved : goal.loop-rest-preserved
loop-rest-preserved = grind (arith, reading_more)

pub loop-rest-smaller : goal.loop-rest-smaller
loop-rest-smaller c = rw c.in-Some.is (element_shorter c.in-Some.left.now _ _ c.in-Some-first_element.ensures)

pub returns-clause-read : goal.returns-clause-read
returns-clause-read = grind (arith, reading_end)
