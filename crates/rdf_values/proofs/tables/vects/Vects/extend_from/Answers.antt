use Rattle.lemmas.proofs.{arith, rules}
use Rattle.rdf_values.proofs.PieceLemmas.{ascend_joined, ends_within, pieces_after_more}
use Rattle.rdf_values.proofs.tables.vects.Vects.extend_from.Goals as goal

pub push_further-requires-clause-few : goal.push_further-requires-clause-few
push_further-requires-clause-few = grind (arith, ends_within)

pub invariant_of-self-2 : goal.invariant_of-self-2
invariant_of-self-2 c =
    ascend_joined c.self.inside.ends.items c.push_further.new.ends.items c.more.inside.ends.items c.self.inside.elements.items c.extend_from_slice.new.self.items c.more.inside.elements.items c.len-begin.result
    c.self.invariant c.more.invariant (search rules) (search rules) (search rules)

pub returns-clause-ok : goal.returns-clause-ok
returns-clause-ok c = rw (← c.self.view_is, ← c.more.view_is) (
    pieces_after_more c.self.inside.ends.items c.push_further.new.ends.items c.more.inside.ends.items c.self.inside.elements.items c.extend_from_slice.new.self.items c.more.inside.elements.items c.len-begin.result
    c.self.invariant (search rules) (search rules) (search rules))
