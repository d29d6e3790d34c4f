use Rattle.graph.proofs.before.Before.sees.Goals as goal

pub returns : goal.returns
returns c = c.is_visible.ensures c.args.self.now.names.now
