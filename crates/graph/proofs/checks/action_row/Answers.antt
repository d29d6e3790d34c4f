use Rattle.lemmas.proofs.{[], ◌∷◌, map, ap, ◌∙◌}
use Rattle.graph_numbers.specs.{ResultKind, version_at}
use Rattle.graph.specs.{any_has, statements}
use Rattle.rdf_values.specs.{columns_of, path}
use Rattle.graph.proofs.Finished.{action_set_is}
use Rattle.graph.proofs.checks.action_row.Goals as goal

pub returns : goal.returns
returns c = record {
  rows = (
    (record { name = c.in_ok-copy-2.ensures; cells = c.in_ok-cells_of.ensures (path (statements c.args.before.now.lines.now) c.args.parent.now); takes = c.takes_of.ensures (path (statements c.args.before.now.lines.now) c.args.parent.now) }, tt),
    (
      action_set_is c.args.before.now.header.now c.args.before.now.names.now (statements c.args.before.now.lines.now) c.args.before.now.tables.now c.args.before.now.are c.args.parent.now c.as_slice.result.now (columns_of c.args.action.now)
          (c.as_slice.ensures.value ∙ c.in_ok-columns.ensures) c.set_of-filters.result c.set_of-inputs.result c.union.result _ _ c.as_slice-2.ensures.value c.as_slice-4.ensures.value
          (λ v. c.set_of-filters.ensures v ∙ ap (λ ns. any_has c.as_slice-2.result.now ns v) (c.as_slice-3.ensures ∙ c.in_ok-filters_above.ensures))
          (λ v. c.set_of-inputs.ensures v ∙ ap (λ ns. any_has c.as_slice-4.result.now ns v) (c.as_slice-5.ensures ∙ c.in_ok-versions_of.ensures)) c.union.ensures,
      tt,
    ),
  );
  path = λ i.
      record {
        kind = ResultKind.Action (c.in_ok-copy.ensures i);
        filters = c.in_ok-filters_above.ensures i;
        inputs = (c.in_ok-versions_of.ensures ∙ ap (map (version_at c.args.before.now.header.now (statements c.args.before.now.lines.now) c.args.parent.now)) (c.as_slice.ensures.value ∙ c.in_ok-columns.ensures)) i;
        covers = c.new.ensures i;
      } ∷ [];
}
