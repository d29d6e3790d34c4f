use Rattle.columns.proofs.InPieces.{by_cluster}
use Rattle.columns.proofs.columns.Columns.ints.Goals as goal

pub returns-clause-clusters : goal.returns-clause-clusters
returns-clause-clusters c =
    rw (← c.self.view_is) (by_cluster c.self.inside.columns c.self.inside.kept.items c.self.inside.cuts.entries c.args.col c.index.result.now _ _ c.self.invariant.table.kept (rw (← c.self.view_is) at c.requires) c.index.ensures c.in-Ints.is c.self.invariant.clusters)
