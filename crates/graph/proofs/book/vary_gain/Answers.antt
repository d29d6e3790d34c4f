use Rattle.lemmas.proofs.{rules}
use Rattle.graph.specs.{statements}
use Rattle.graph.proofs.Finished.{vary_gained}
use Rattle.graph.proofs.book.vary_gain.Goals as goal

pub returns-clause-gained : goal.returns-clause-gained
returns-clause-gained c =
    vary_gained c.args.before.now.header.now c.args.before.now.names.now (statements c.args.before.now.lines.now) c.args.before.now.tables.now c.args.before.now.are c.args.node.now c.args.change.now c.in_ok-sites.sites.items
    _ c.in_ok-sites.ensures.decided c.in_ok-sites.ensures.checked (search rules)
