use Rattle.lemmas.proofs.{refl, subst, sym}
use Rattle.cluster_tally.specs.{at_begin, Holds, TallyView}
use Rattle.cluster_tally.specs.contracts.tally.Tally.{the_view}
use Rattle.cluster_tally.proofs.Closing.{stands}
use Rattle.cluster_tally.proofs.tally.Tally.into_piece.Goals as goal

pub returns-clause-stands : goal.returns-clause-stands
returns-clause-stands c = λ f watched done cluster h.
    stands f watched done cluster (the_view c.self.inside) _ refl refl (subst (λ (t : TallyView). Holds f watched (at_begin done cluster) t) (sym c.self.view_is) h)
