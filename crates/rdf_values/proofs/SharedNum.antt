-- Several threads may read one numbered expression at once. Its tree is two types that hold each other.
use denote.RattleType.{RattleType}
use denote.Param.Send.{IsSync, sendable}
use denote.Param.SendFields.{variants_sync, declared_sync}
use denote.Hole.FixSend.{fix_sync, Syncs}
use denote.Hole.FixLaws.{layer_row}
use denote.Hole.{as_row}
use denote.Struct.Field.{row_field}
use Rattle.rdf_values.specs.contracts.expressions.num_expr.Callee as N
use Rattle.std.proofs.Crossing.{crosses}
use Rattle.rdf_values.specs.contracts.expressions.num_expr.NumExpr.{the_row as num_expr_row}
use Rattle.rdf_values.specs.contracts.expressions.num_expr.NumExpr.TheInside.{the_row as inside_row}
use Rattle.rdf_values.specs.contracts.expressions.num_expr.NumExpr.TheInside as I
use Rattle.rdf_values.specs.contracts.expressions.num_expr.NumNode as node
use Rattle.rdf_values.specs.contracts.expressions.num_expr.NumArgs.TheKnot as knot
use Rattle.rdf_values.proofs.Shared.{op_field}
use Rattle.rdf_values.specs.declared.expressions.num_expr.NumArgs.TheBlock.{the_members, member-NumArgs, member-NumNode}

args_layer : (a b : RattleType) → IsSync a → IsSync b → IsSync (knot.layer-NumArgs a b)
args_layer a b sa sb = variants_sync (knot.type-NumArgs a b) (search (sendable, crosses, sa, sb) depth 40 fits 4000)

callee_field : IsSync (as_row (row_field (as_row N.the_field)))
callee_field = search (sendable, crosses) depth 40 fits 4000

node_layer : (n a : RattleType) → IsSync n → IsSync a → IsSync (knot.layer-NumNode n n n n n n n n n a)
node_layer n a sn sa = variants_sync (knot.type-NumNode n n n n n n n n n a) (search (sendable, crosses, op_field, callee_field, sn, sa) depth 40 fits 4000)

args_step : (h : knot.the_members → RattleType) → ((j : knot.the_members) → IsSync (h j)) → IsSync (layer_row knot.ring knot.member-NumArgs h)
args_step h each = record { shared = (args_layer (h knot.member-NumNode) (h knot.member-NumArgs) (each knot.member-NumNode) (each knot.member-NumArgs)).shared }

node_step : (h : knot.the_members → RattleType) → ((j : knot.the_members) → IsSync (h j)) → IsSync (layer_row knot.ring knot.member-NumNode h)
node_step h each = record { shared = (node_layer (h knot.member-NumNode) (h knot.member-NumArgs) (each knot.member-NumNode) (each knot.member-NumArgs)).shared }

steps : (i : the_members) → Syncs knot.ring i
steps member-NumArgs = record { sync = args_step }
steps member-NumNode = record { sync = node_step }

node_hole : IsSync knot.hole-NumNode
node_hole = record { shared = (fix_sync knot.ring steps knot.member-NumNode).shared }

args_hole : IsSync knot.hole-NumArgs
args_hole = record { shared = (fix_sync knot.ring steps knot.member-NumArgs).shared }

pub node_sync : IsSync node.the_row
node_sync = variants_sync node.enum (search (sendable, crosses, node_hole, args_hole) depth 40 fits 4000)

inside_sync : IsSync inside_row
inside_sync = declared_sync I.the_type (search (sendable, crosses, node_sync) depth 40 fits 4000)

pub num_expr_sync : IsSync num_expr_row
num_expr_sync = record { shared = λ d b o κ x. (inside_sync.shared x.0 b o κ, tt) }
