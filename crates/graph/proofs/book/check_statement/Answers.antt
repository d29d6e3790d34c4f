use Rattle.lemmas.proofs.{ap, refl, subst, sym, ◌∙◌}
use Rattle.rdf_values.specs.{GraphCause, refuse_if}
use Rattle.rdf_values.specs.declared.scripts.statement.Statement.TheVariants.{Action, Alias, Report, Vary, VariationsFor, Watch, Print}
use Rattle.graph.specs.{Decides, statements}
use Rattle.graph.proofs.Finished.{decided_at, define_made, gained, nothing_gained, redefine_made, row_gained, told}
use Rattle.graph.proofs.book.check_statement.Goals as goal

pub returns-in-Define : goal.returns-in-Define
returns-in-Define c =
    let t = told c.args.before.now.header.now c.args.before.now.names.now (statements c.args.before.now.lines.now) c.args.statement.now _ c.made_gain.result c.in-Define.is
    (define_made c.args.before.now.header.now c.args.before.now.names.now (statements c.args.before.now.lines.now) c.args.before.now.tables.now c.args.before.now.are _ _ _ _ _ c.made_gain.result (c.refuse_if-taken.ensures ∙ ap (λ b. refuse_if b GraphCause.NameTaken) c.sees.ensures) c.made_gain.ensures.made c.made_gain.ensures.decided) (rw (c.refuse_if-taken.ensures ∙ ap (λ b. refuse_if b GraphCause.NameTaken) c.sees.ensures) at c.made_gain.ensures.decided) in
    record { gained = t.0; decided = t.1 }

pub returns-in-Redefine : goal.returns-in-Redefine
returns-in-Redefine c =
    let t = told c.args.before.now.header.now c.args.before.now.names.now (statements c.args.before.now.lines.now) c.args.statement.now _ c.made_gain-in-Redefine.result c.in-Redefine.is
    (redefine_made c.args.before.now.header.now c.args.before.now.names.now (statements c.args.before.now.lines.now) c.args.before.now.tables.now c.args.before.now.are _ _ _ _ _ c.made_gain-in-Redefine.result c.check_target-wrong.ensures c.made_gain-in-Redefine.ensures.made c.made_gain-in-Redefine.ensures.decided) (rw c.check_target-wrong.ensures at c.made_gain-in-Redefine.ensures.decided) in
    record { gained = t.0; decided = t.1 }

pub returns-in-Filter-clause-decided : goal.returns-in-Filter-clause-decided
returns-in-Filter-clause-decided c = decided_at c.args.before.now.header.now c.args.before.now.names.now (statements c.args.before.now.lines.now) c.args.statement.now _ c.filter_gain.result c.in-Filter.is c.filter_gain.ensures.decided

pub returns-in-Vary-clause-decided : goal.returns-in-Vary-clause-decided
returns-in-Vary-clause-decided c = decided_at c.args.before.now.header.now c.args.before.now.names.now (statements c.args.before.now.lines.now) c.args.statement.now _ c.vary_gain.result
    (c.in-Vary.is ∙ (λ i. Vary c.in-Vary.node c.in-Vary.parent (sym c.as_slice.ensures i) c.in-Vary.values (sym c.as_slice-in-Vary.ensures i) c.in-Vary.name)) c.vary_gain.ensures.decided

pub returns-in-Action : goal.returns-in-Action
returns-in-Action c =
    let t = row_gained c.args.before.now.header.now c.args.before.now.names.now (statements c.args.before.now.lines.now) c.args.statement.now _ c.check_action.result c.row_gain.result c.in-Action.is c.row_gain.ensures.gained c.row_gain.ensures.decided c.check_action.ensures.row c.check_action.ensures.decided
    (λ g x ok e row. gained c.args.before.now.header.now c.args.before.now.names.now (statements c.args.before.now.lines.now) (Action c.in-Action.result c.in-Action.parent c.in-Action.kind) g ok e refl (λ out o. o) (λ out o. o) tt row.rows row.path) in
    record { gained = t.0; decided = t.1 }

pub returns-in-Report : goal.returns-in-Report
returns-in-Report c =
    let t = row_gained c.args.before.now.header.now c.args.before.now.names.now (statements c.args.before.now.lines.now) c.args.statement.now _ c.check_report.result c.row_gain-in-Report.result c.in-Report.is c.row_gain-in-Report.ensures.gained c.row_gain-in-Report.ensures.decided c.check_report.ensures.row c.check_report.ensures.decided
    (λ g x ok e row. gained c.args.before.now.header.now c.args.before.now.names.now (statements c.args.before.now.lines.now) (Report c.in-Report.result c.in-Report.parent) g ok e refl (λ out o. o) (λ out o. o) tt row.rows row.path) in
    record { gained = t.0; decided = t.1 }

pub returns-in-Alias : goal.returns-in-Alias
returns-in-Alias c =
    let t = nothing_gained c.args.before.now.header.now c.args.before.now.names.now (statements c.args.before.now.lines.now) c.args.statement.now _ c.nothing.result c.in-Alias.is (subst (λ o. Decides o c.nothing.result) c.check_alias.ensures c.nothing.ensures.decided) c.nothing.ensures.empty
    (λ g ok e. gained c.args.before.now.header.now c.args.before.now.names.now (statements c.args.before.now.lines.now) (Alias c.in-Alias.node c.in-Alias.parent c.in-Alias.column c.in-Alias.target) g ok e refl (λ out o. o) (λ out o. o) tt (tt, tt) refl) in
    record { gained = t.0; decided = t.1 }

pub returns-in_ok-check_variations_for-in-VariationsFor : goal.returns-in_ok-check_variations_for-in-VariationsFor
returns-in_ok-check_variations_for-in-VariationsFor c =
    let t = nothing_gained c.args.before.now.header.now c.args.before.now.names.now (statements c.args.before.now.lines.now) c.args.statement.now _ c.nothing-in-VariationsFor.result c.in-VariationsFor.is (subst (λ o. Decides o c.nothing-in-VariationsFor.result) c.in_ok-check_variations_for-in-VariationsFor.ensures c.nothing-in-VariationsFor.ensures.decided) c.nothing-in-VariationsFor.ensures.empty
    (λ g ok e. gained c.args.before.now.header.now c.args.before.now.names.now (statements c.args.before.now.lines.now) (VariationsFor c.in-VariationsFor.result) g ok e refl (λ out o. o) (λ out o. o) tt (tt, tt) refl) in
    record { gained = t.0; decided = t.1 }

pub returns-in-Watch : goal.returns-in-Watch
returns-in-Watch c =
    let t = nothing_gained c.args.before.now.header.now c.args.before.now.names.now (statements c.args.before.now.lines.now) c.args.statement.now _ c.nothing-in-Watch.result c.in-Watch.is (subst (λ o. Decides o c.nothing-in-Watch.result) c.check_watch.ensures c.nothing-in-Watch.ensures.decided) c.nothing-in-Watch.ensures.empty
    (λ g ok e. gained c.args.before.now.header.now c.args.before.now.names.now (statements c.args.before.now.lines.now) (Watch c.in-Watch.result) g ok e refl (λ out o. o) (λ out o. o) tt (tt, tt) refl) in
    record { gained = t.0; decided = t.1 }

pub returns-in_ok-check_print-in-Print : goal.returns-in_ok-check_print-in-Print
returns-in_ok-check_print-in-Print c =
    let t = nothing_gained c.args.before.now.header.now c.args.before.now.names.now (statements c.args.before.now.lines.now) c.args.statement.now _ c.nothing-in-Print.result c.in-Print.is (subst (λ o. Decides o c.nothing-in-Print.result) c.in_ok-check_print-in-Print.ensures c.nothing-in-Print.ensures.decided) c.nothing-in-Print.ensures.empty
    (λ g ok e. gained c.args.before.now.header.now c.args.before.now.names.now (statements c.args.before.now.lines.now) (Print c.in-Print.result) g ok e refl (λ out o. o) (λ out o. o) tt (tt, tt) refl) in
    record { gained = t.0; decided = t.1 }
