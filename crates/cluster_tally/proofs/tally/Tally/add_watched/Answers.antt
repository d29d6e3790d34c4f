use Rattle.lemmas.proofs.{subst, sym}
use Rattle.cluster_tally.specs.{IsFresh, TallyView}
use Rattle.cluster_tally.specs.contracts.tally.Tally.{the_view}
use Rattle.cluster_tally.proofs.Closing.{fresh_watched}
use Rattle.cluster_tally.proofs.tally.Tally.add_watched.Goals as goal

pub returns-clause-fresh : goal.returns-clause-fresh
returns-clause-fresh c = λ kinds watched h.
    rw (c.in_ok-push-3.ensures.items, c.in_ok-new-2.ensures.made, c.in_ok-push-2.ensures.items, c.in_ok-new.ensures, c.in_ok-push.ensures.items, c.new.ensures)
    (fresh_watched kinds watched (the_view c.self.inside) c.args.kind.now (subst (λ (t : TallyView). IsFresh kinds watched t) (sym c.self.view_is) h) c.requires.watched)
