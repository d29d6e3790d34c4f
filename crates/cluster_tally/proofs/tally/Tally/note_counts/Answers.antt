use Rattle.lemmas.proofs.{subst, sym}
use Rattle.cluster_tally.specs.{CanNoteCounts, TallyView}
use Rattle.cluster_tally.specs.contracts.tally.Tally.{the_view}
use Rattle.cluster_tally.proofs.BlockFeeds.{holds_noted}
use Rattle.cluster_tally.proofs.tally.Tally.note_counts.Goals as goal

pub returns : goal.returns
returns c = λ f watched s can.
    holds_noted f watched s (the_view c.self.inside) c.args.filter c.args.counts (subst (λ (t : TallyView). CanNoteCounts f watched s t c.args.filter c.args.counts) (sym c.self.view_is) can) c.note_counts.new.self c.note_counts.ensures
