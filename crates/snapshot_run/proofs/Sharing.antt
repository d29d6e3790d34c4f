-- Several threads may read at once what a snapshot works on.
use mathlib.Core.List.{[], ◌∷◌}
use mir.Syntax.{Sym}
use denote.RattleType.{RattleType}
use denote.Param.Send.{IsSync, sendable}
use denote.Param.SendFields.{declared_sync}
use denote.Struct.Tuple.{TupleAt, type_at}
use Rattle.std.proofs.Crossing.{crosses}
use Rattle.rdf_values.specs.contracts.list.ListOf.{the_row as list_row}
use Rattle.rdf_values.specs.contracts.scripts.name.Name.{the_row as name_row}
use Rattle.rdf_values.proofs.Shared.{name_sync, columns_sync, list_sync}
use Rattle.graph.proofs.Shared.{graph_sync}
use Rattle.columns.specs.contracts.cuts.Cuts.{the_row as cuts_row}
use Rattle.columns.specs.contracts.columns.Columns.{the_row as columns_row}
use Rattle.slot_words.specs.contracts.claims.Claims.{the_row as claims_row}
use Rattle.slot_words.proofs.claims.Claims.TheSendSync as claims
use Rattle.snapshot_plan.specs.contracts.planning.SnapPlan.{the_row as plan_row}
use Rattle.snapshot_plan.specs.contracts.planning.SnapPlan.TheInside.{the_row as inside_row}
use Rattle.snapshot_plan.specs.contracts.planning.SnapPlan.TheInside as I

names_sync : IsSync (list_row name_row)
names_sync = list_sync name_row name_sync

inside_sync : IsSync inside_row
inside_sync =
    declared_sync I.the_type
    (record { shared = graph_sync.shared }, (record { shared = name_sync.shared }, (record { shared = names_sync.shared }, (search (sendable, crosses) depth 40 fits 4000, tt))))

pub plan_sync : IsSync plan_row
plan_sync = record { shared = λ d b o κ x. (inside_sync.shared x.0 b o κ, tt) }

cuts_sync : IsSync cuts_row
cuts_sync = search (sendable, crosses) depth 40 fits 4000

pub table_sync : IsSync columns_row
table_sync = search (sendable, crosses, columns_sync, cuts_sync) depth 40 fits 4000

pub claims_sync : IsSync claims_row
claims_sync = claims.the_sync

-- what a closure captures, part by part
pub six_sync : (ν : Sym) (A B C D E F : RattleType) → IsSync A → IsSync B → IsSync C → IsSync D → IsSync E → IsSync F → IsSync (TupleAt ν (A ∷ B ∷ C ∷ D ∷ E ∷ F ∷ []))
six_sync ν A B C D E F a b c d e f =
    declared_sync (type_at ν (A ∷ B ∷ C ∷ D ∷ E ∷ F ∷ [])) (record { shared = a.shared }, (record { shared = b.shared }, (record { shared = c.shared }, (record { shared = d.shared }, (record { shared = e.shared }, (record { shared = f.shared }, tt))))))
