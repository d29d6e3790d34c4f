use Rattle.lemmas.proofs.{length, subst, sym}
use Rattle.rdf_values.specs.{check_values, scope_at, scope_of}
use Rattle.graph.specs.{Decides, statements}
use Rattle.graph.proofs.checks.check_values.Goals as goal

pub returns-in-Vector-clause-decided : goal.returns-in-Vector-clause-decided
returns-in-Vector-clause-decided c =
    subst (λ values. Decides (check_values c.args.before.now.names.now (scope_at c.args.before.now.names.now (scope_of c.args.before.now.header.now) (statements c.args.before.now.lines.now) c.args.change.now.parent.now) (length c.args.change.now.tags.now) c.args.change.now.columns.now values) c.vector_value.result) (sym c.in-Vector.is)
    (c.vector_value.ensures.decided (length c.args.change.now.tags.now))
