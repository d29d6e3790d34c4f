use Rattle.expr_check.proofs.WellTyped.{reads_known, kinds_beside, kinds_known, is_well_typed, tree_calls_fit}
use Rattle.expr_check.proofs.checked.check.Goals as goal

pub kinds_of-requires : goal.kinds_of-requires
kinds_of-requires g c = record { known = λ one. rw c.as_slice.ensures.value (reads_known _ _ (g.C.ReadableColumns.kind_numbered c.args.columns.now) c.args.names.now _ _ _ c.in_ok-part.ensures.kind c.in_ok-part.ensures.tree _ c.in_ok-reads.ensures one) }

pub invariant_of-result : goal.invariant_of-result
invariant_of-result g c =
    let have = rw c.as_slice.ensures.value at c.in_ok-kinds.ensures.kinds in (
      kinds_beside _ _ (g.C.ReadableColumns.kind_numbered c.args.columns.now) c.args.names.now _ _ _ c.in_ok-part.ensures.kind c.in_ok-part.ensures.tree _ c.in_ok-reads.ensures c.in_ok-kinds.ensures.one_kind _ have,
      (c.args.names.now, is_well_typed _ _ (g.C.ReadableColumns.kind_numbered c.args.columns.now) c.args.names.now _ _ _ c.in_ok-part.ensures.kind c.in_ok-part.ensures.tree _ c.in_ok-reads.ensures c.in_ok-kinds.ensures.one_kind _ have),
    )

pub returns-clause-kinds : goal.returns-clause-kinds
returns-clause-kinds g c = kinds_known _ _ _ (rw c.as_slice.ensures.value at c.in_ok-kinds.ensures.kinds)

pub returns-clause-typed : goal.returns-clause-typed
returns-clause-typed g c = is_well_typed _ _ (g.C.ReadableColumns.kind_numbered c.args.columns.now) c.args.names.now _ _ _ c.in_ok-part.ensures.kind c.in_ok-part.ensures.tree _ c.in_ok-reads.ensures c.in_ok-kinds.ensures.one_kind _ (rw c.as_slice.ensures.value at c.in_ok-kinds.ensures.kinds)

pub returns-clause-calls : goal.returns-clause-calls
returns-clause-calls g c = tree_calls_fit _ _ (g.C.ReadableColumns.kind_numbered c.args.columns.now) c.args.names.now _ _ _ c.in_ok-part.ensures.kind c.in_ok-part.ensures.tree _ c.in_ok-reads.ensures c.in_ok-kinds.ensures.one_kind _ (rw c.as_slice.ensures.value at c.in_ok-kinds.ensures.kinds)
