use contract.Lifetimes.{Lfts}
use mathlib.Core.List.{[]}
use mir.Syntax.{named}
use denote.Param.{param}
use denote.Param.Callables.{held_fn}
use denote.Param.Object.{Vt, ghosts_of}
use denote.Param.Send.{IsSync, sendable, shr_sync}
use denote.Struct.Field.{u32-field}
use Rattle.std.proofs.Crossing.{crosses, dyn_box_sync}
use Rattle.rdf_values.proofs.expressions.fn_names.FnNames.TheSendSync as names
use Rattle.std.specs.contracts.alloc.Global.{the_row as global_row}
use Rattle.graph.specs.contracts.graph.Graph.{the_row as graph_row}
use Rattle.graph.proofs.Shared.{graph_sync}
use Rattle.columns.specs.contracts.columns.Columns.{the_row as columns_row}
use Rattle.event_loop.specs.contracts.workers.Shared.{the_row as shared_row}
use Rattle.event_loop.proofs.Sharing.{seven_sync, shared_sync, table_sync}
use Rattle.entry_fns.specs.contracts.list.FnList.{the_row as functions_row}
use Rattle.event_loop.specs.contracts.workers.run_slots.{G-row}
use Rattle.event_loop.specs.contracts.workers.run_slots.dyn-1 as dyn
use Rattle.event_loop.proofs.workers.run_slots.Lts as lts
use Rattle.event_loop.proofs.workers.run_slots.Given as given
use Rattle.event_loop.proofs.workers.run_slots.Goals as goal

-- threads may share what the closure captures
captured_sync : (g : given.Over) → IsSync (G-row g.row.R g.row.G) → (κs : Lfts 14) → IsSync (param 4 (lts.arg-0-4 g.row.R g.row.G g.R.laws g.G.laws g.R.Threads g.R.Threads-dict g.G.Gate g.G.Gate-dict g.dyn-1 g.dyn-1-has κs))
captured_sync g s κs =
    let word : IsSync u32-field.row = search (sendable, crosses) depth 40 fits 4000 in
    let global : IsSync global_row = search (sendable, crosses) depth 40 fits 4000 in
    let functions : IsSync (functions_row (Vt (dyn.slots g.row.R g.row.G) g.dyn-1.0) (ghosts_of (dyn.slots g.row.R g.row.G) g.dyn-1.0 g.dyn-1.1) (held_fn g.dyn-1.0)) = search (sendable, crosses, names.the_sync, dyn_box_sync) depth 40 fits 4000 in
    record {
      shared = (seven_sync [] _ _ _ _ _ _ _
          (shr_sync (named 7) κs.1.1.1.1.1.1.1.0 graph_row graph_sync)
          (shr_sync (named 8) κs.1.1.1.1.1.1.1.1.0 u32-field.row word)
          (shr_sync (named 9) κs.1.1.1.1.1.1.1.1.1.0 columns_row table_sync)
          (shr_sync (named 10) κs.1.1.1.1.1.1.1.1.1.1.0 (functions_row (Vt (dyn.slots g.row.R g.row.G) g.dyn-1.0) (ghosts_of (dyn.slots g.row.R g.row.G) g.dyn-1.0 g.dyn-1.1) (held_fn g.dyn-1.0)) functions)
          (shr_sync (named 11) κs.1.1.1.1.1.1.1.1.1.1.1.0 global_row global)
          (shr_sync (named 12) κs.1.1.1.1.1.1.1.1.1.1.1.1.0 shared_row shared_sync)
          (shr_sync (named 13) κs.1.1.1.1.1.1.1.1.1.1.1.1.1.0 (param 1 g.row.G) s)).shared;
    }

pub map_vec-requires-sync-F : goal.map_vec-requires-sync-F
map_vec-requires-sync-F g c = λ κs h. captured_sync g c.type_bounds.sync-G κs
