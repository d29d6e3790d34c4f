-- Several threads may read one expression, and the lines of one script, at once.
use denote.RattleType.{RattleType}
use denote.Param.Send.{IsSync, sendable}
use denote.Param.SendFields.{variants_sync, declared_sync}
use denote.Hole.FixSend.{fix_sync, Syncs}
use denote.Hole.FixLaws.{layer_row}
use denote.Hole.{as_row}
use denote.Struct.Field.{row_field}
use Rattle.std.proofs.Crossing.{crosses}
use Rattle.rdf_values.specs.contracts.scripts.name.Name.{the_row as name_row}
use Rattle.rdf_values.specs.contracts.expressions.expr.Expr.{the_row as expr_row}
use Rattle.rdf_values.specs.contracts.expressions.expr.Expr.TheInside.{the_row as inside_row}
use Rattle.rdf_values.specs.declared.expressions.expr.Args.TheBlock.{the_members, member-Args, member-ExprNode}
use Rattle.rdf_values.specs.contracts.scripts.label.Label.{the_row as label_row}
use Rattle.rdf_values.specs.contracts.scripts.statement.ActionKind.{the_row as kind_row}
use Rattle.rdf_values.specs.contracts.list.ListOf.{the_row as list_row}
use Rattle.rdf_values.specs.contracts.scripts.statement.VaryValues.{the_row as values_row}
use Rattle.rdf_values.specs.contracts.scripts.statement.Statement.{the_row as statement_row}
use Rattle.rdf_values.specs.contracts.scripts.statement.Line.{the_row as line_row}
use Rattle.rdf_values.specs.contracts.tables.table.Column.{the_row as column_row}
use Rattle.rdf_values.specs.contracts.scripts.name.Name as N
use Rattle.rdf_values.specs.contracts.expressions.expr.BinOp as O
use Rattle.rdf_values.specs.contracts.expressions.expr.Expr.TheInside as I
use Rattle.rdf_values.specs.contracts.expressions.expr.ExprNode as node
use Rattle.rdf_values.specs.contracts.expressions.expr.Args.TheKnot as knot
use Rattle.rdf_values.specs.contracts.scripts.statement.VaryValues as V
use Rattle.rdf_values.specs.contracts.scripts.statement.Statement as S
use Rattle.rdf_values.specs.contracts.scripts.statement.Line as L

args_layer : (a b : RattleType) → IsSync a → IsSync b → IsSync (knot.layer-Args a b)
args_layer a b sa sb = variants_sync (knot.type-Args a b) (search (sendable, crosses, sa, sb) depth 40 fits 4000)

pub name_sync : IsSync name_row
name_sync = search (sendable, crosses) depth 40 fits 4000

name_field : IsSync (as_row (row_field (as_row N.the_field)))
name_field = search (sendable, crosses) depth 40 fits 4000

pub op_field : IsSync (as_row (row_field (as_row O.the_field)))
op_field = search (sendable, crosses) depth 40 fits 4000

node_layer : (n a : RattleType) → IsSync n → IsSync a → IsSync (knot.layer-ExprNode n n n n n n n n n a)
node_layer n a sn sa = variants_sync (knot.type-ExprNode n n n n n n n n n a) (search (sendable, crosses, name_field, op_field, sn, sa) depth 40 fits 4000)

args_step : (h : knot.the_members → RattleType) → ((j : knot.the_members) → IsSync (h j)) → IsSync (layer_row knot.ring knot.member-Args h)
args_step h each = record { shared = (args_layer (h knot.member-ExprNode) (h knot.member-Args) (each knot.member-ExprNode) (each knot.member-Args)).shared }

node_step : (h : knot.the_members → RattleType) → ((j : knot.the_members) → IsSync (h j)) → IsSync (layer_row knot.ring knot.member-ExprNode h)
node_step h each = record { shared = (node_layer (h knot.member-ExprNode) (h knot.member-Args) (each knot.member-ExprNode) (each knot.member-Args)).shared }

steps : (i : the_members) → Syncs knot.ring i
steps member-Args = record { sync = args_step }
steps member-ExprNode = record { sync = node_step }

node_hole : IsSync knot.hole-ExprNode
node_hole = record { shared = (fix_sync knot.ring steps knot.member-ExprNode).shared }

args_hole : IsSync knot.hole-Args
args_hole = record { shared = (fix_sync knot.ring steps knot.member-Args).shared }

pub node_sync : IsSync node.the_row
node_sync = variants_sync node.enum (search (sendable, crosses, node_hole, args_hole) depth 40 fits 4000)

inside_sync : IsSync inside_row
inside_sync = declared_sync I.the_type (search (sendable, crosses, node_sync) depth 40 fits 4000)

pub expr_sync : IsSync expr_row
expr_sync = record { shared = λ d b o κ x. (inside_sync.shared x.0 b o κ, tt) }

-- ---- Several threads may read the lines of one script at once, and the header that it is read against.

pub label_sync : IsSync label_row
label_sync = search (sendable, crosses) depth 40 fits 4000

pub list_sync : (T : RattleType) → IsSync T → IsSync (list_row T)
list_sync T s = search (sendable, crosses) depth 40 fits 4000

pub kind_sync : IsSync kind_row
kind_sync = search (sendable, crosses, name_sync) depth 40 fits 4000

values_sync : IsSync values_row
values_sync = variants_sync V.enum (search (sendable, crosses, list_sync, expr_sync) depth 40 fits 4000)

pub names_sync : IsSync (list_row name_row)
names_sync = list_sync name_row name_sync

pub statement_sync : IsSync statement_row
statement_sync = variants_sync S.enum (search (sendable, crosses, name_sync, names_sync, expr_sync, values_sync, kind_sync, label_sync) depth 40 fits 4000)

pub line_sync : IsSync line_row
line_sync = declared_sync L.the_type (search (sendable, crosses, statement_sync) depth 40 fits 4000)

pub columns_sync : IsSync (list_row column_row)
columns_sync = list_sync column_row (search (sendable, crosses) depth 40 fits 4000)
