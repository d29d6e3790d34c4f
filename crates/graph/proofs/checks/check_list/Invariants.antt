use Rattle.lemmas.proofs.{◌≡◌, take, None, map}
use Rattle.rdf_values.specs.{expect_kind, first_refusal, kind_of}
use Rattle.graph.specs.{AppendsChecked, scope_before}
use Rattle.graph.proofs.checks.check_list.Given as goal

abbrev pub invariant-loop-expr : goal.invariant-loop-expr
invariant-loop-expr l = record {
  checked : AppendsChecked l.before l.change.parent.now (take l.expr-index l.exprs) l.initial.found.items l.found.items;
  passed : first_refusal (map (λ e. expect_kind l.kind (kind_of (scope_before l.before l.change.parent.now) l.before.names.now e)) (take l.expr-index l.exprs)) ≡ None;
}
