use Rattle.lemmas.proofs.{sym, ap}
use Rattle.rdf_model.specs.{Gives}
use Rattle.expr_lanes.specs.{at_place, is_known, lane_outcome}
use Rattle.expr_lanes.proofs.Composed.{alike}
use Rattle.expr_lanes.proofs.columns.read_column.Goals as goal

pub returns-in-Everywhere : goal.returns-in-Everywhere
returns-in-Everywhere g c =
    alike (λ p. lane_outcome (g.S.LaneInputs.look c.args.scope.now p c.args.number)) (λ p. Gives (at_place c.column-column.result.numbers.now p)) _ _ _ _ _ _
    (λ p h. sym (c.column-column.ensures.known p (c.requires.ready.selected.inside p h) (ap (λ k. is_known k p) c.in-Everywhere.is))) c.run.ensures
