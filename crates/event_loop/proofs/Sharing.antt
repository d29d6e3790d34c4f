-- Several threads may read at once what a loop works on.
use mathlib.Core.List.{[], ◌∷◌}
use mir.Syntax.{Sym}
use denote.RattleType.{RattleType}
use denote.Param.Send.{IsSync, sendable}
use denote.Param.SendFields.{declared_sync}
use denote.Struct.Tuple.{TupleAt, type_at}
use Rattle.std.proofs.Crossing.{crosses}
use Rattle.rdf_values.proofs.Shared.{columns_sync}
use Rattle.columns.specs.contracts.cuts.Cuts.{the_row as cuts_row}
use Rattle.columns.specs.contracts.columns.Columns.{the_row as columns_row}
use Rattle.slot_words.proofs.book.Book.TheSendSync as book
use Rattle.slot_words.proofs.claims.Claims.TheSendSync as claims
use Rattle.event_loop.specs.contracts.workers.Shared.{the_row as shared_row}

cuts_sync : IsSync cuts_row
cuts_sync = search (sendable, crosses) depth 40 fits 4000

pub table_sync : IsSync columns_row
table_sync = search (sendable, crosses, columns_sync, cuts_sync) depth 40 fits 4000

pub shared_sync : IsSync shared_row
shared_sync = search (sendable, crosses, claims.the_sync, book.the_sync) depth 40 fits 4000

-- what a closure captures, part by part
pub seven_sync : (ν : Sym) (A B C D E F G : RattleType) → IsSync A → IsSync B → IsSync C → IsSync D → IsSync E → IsSync F → IsSync G → IsSync (TupleAt ν (A ∷ B ∷ C ∷ D ∷ E ∷ F ∷ G ∷ []))
seven_sync ν A B C D E F G a b c d e f g =
    declared_sync (type_at ν (A ∷ B ∷ C ∷ D ∷ E ∷ F ∷ G ∷ [])) (record { shared = a.shared }, (record { shared = b.shared }, (record { shared = c.shared }, (record { shared = d.shared }, (record { shared = e.shared }, (record { shared = f.shared }, (record { shared = g.shared }, tt)))))))
