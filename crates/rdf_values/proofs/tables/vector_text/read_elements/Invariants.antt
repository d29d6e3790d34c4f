use Rattle.rdf_values.specs.{vector_of}
use Rattle.rdf_values.proofs.PieceLemmas.{Reading, parts_of, size_of}
use Rattle.rdf_values.proofs.tables.vector_text.read_elements.Given as goal

abbrev pub invariant-loop-rest : goal.invariant-loop-rest
invariant-loop-rest l = Reading (vector_of l.text) (parts_of l.rest) l.initial.elements.items l.elements.items

abbrev pub decreases-loop-rest : goal.decreases-loop-rest
decreases-loop-rest l = size_of l.rest
