-- Several threads may read one graph at once.
use denote.Param.Send.{IsSync, sendable}
use denote.Param.SendFields.{declared_sync}
use Rattle.std.proofs.Crossing.{crosses, Vec-sync}
use Rattle.std.specs.contracts.vec.Vec as B
use Rattle.std.specs.contracts.alloc.Global as H
use Rattle.std.below.std_heap.specs.contracts.GlobalAllocator.TheImpl.{ghosts}
use Rattle.rdf_values.specs.contracts.scripts.statement.Line.{the_row as line_row}
use Rattle.rdf_values.specs.contracts.list.ListOf.{the_row as list_row}
use Rattle.rdf_values.specs.contracts.expressions.fn_names.FnName.{the_row as fn_name_row}
use Rattle.rdf_values.proofs.Shared.{name_sync, line_sync, list_sync, columns_sync}
use Rattle.rdf_values.proofs.SharedNum.{num_expr_sync}
use Rattle.expr_check.specs.contracts.checked.Checked.{the_row as checked_row}
use Rattle.expr_check.specs.contracts.checked.Checked.TheInside.{the_row as checked_inside_row}
use Rattle.graph.specs.contracts.tables.Tables.{the_row as tables_row}
use Rattle.graph.specs.contracts.tables.ResultRow.{the_row as result_row}
use Rattle.graph.specs.contracts.loops.LoopTables.{the_row as loops_row}
use Rattle.graph.specs.contracts.graph.Graph.{the_row as graph_row}
use Rattle.graph.specs.contracts.graph.Graph.TheInside.{the_row as inside_row}
use Rattle.graph.specs.contracts.graph.Graph.TheInside as I

lines_sync : IsSync (B.the_row line_row H.the_row ghosts)
lines_sync = Vec-sync line_row line_sync

fn_name_sync : IsSync fn_name_row
fn_name_sync = search (sendable, crosses, name_sync) depth 40 fits 4000

functions_sync : IsSync (list_row fn_name_row)
functions_sync = list_sync fn_name_row fn_name_sync

checked_inside : IsSync checked_inside_row
checked_inside = search (sendable, crosses, num_expr_sync) depth 40 fits 4000

checked_sync : IsSync checked_row
checked_sync = record { shared = λ d b o κ x. (checked_inside.shared x.0 b o κ, tt) }

sites_sync : IsSync (B.the_row checked_row H.the_row ghosts)
sites_sync = Vec-sync checked_row checked_sync

result_sync : IsSync result_row
result_sync = search (sendable, crosses) depth 40 fits 4000

results_sync : IsSync (B.the_row result_row H.the_row ghosts)
results_sync = Vec-sync result_row result_sync

tables_sync : IsSync tables_row
tables_sync = search (sendable, crosses, sites_sync, results_sync) depth 40 fits 4000

loops_sync : IsSync loops_row
loops_sync = search (sendable, crosses) depth 40 fits 4000

inside_sync : IsSync inside_row
inside_sync = declared_sync I.the_type (search (sendable, crosses, lines_sync, columns_sync, functions_sync, tables_sync, loops_sync) depth 40 fits 4000)

-- the graph
pub graph_sync : IsSync graph_row
graph_sync = record { shared = λ d b o κ x. (inside_sync.shared x.0 b o κ, tt) }
