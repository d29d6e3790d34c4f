use Rattle.std.proofs.lemmas.Result.{on_err_weaker}
use Rattle.block_cache.proofs.UnderwayLaws.{settled_if}
use Rattle.block_cache.proofs.fill.fill.Goals as goal

pub returns-clause-settled : goal.returns-clause-settled
returns-clause-settled g c = settled_if c.args.wanted.now c.fill_site.new.selection c.fill_site.result c.requires.settled c.fill_site.ensures.spent c.fill_site.ensures.settled c.fill_site.ensures.filled

pub returns-clause-plain : goal.returns-clause-plain
returns-clause-plain g c = λ used p q. on_err_weaker c.fill_site.result (λ plain. plain used p q) c.fill_site.ensures.plain
