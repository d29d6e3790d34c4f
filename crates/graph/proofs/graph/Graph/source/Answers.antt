use Rattle.lemmas.proofs.{subst, sym}
use Rattle.graph_numbers.specs.{graph_sources}
use Rattle.graph.specs.{AreSourcesOf}
use Rattle.graph.proofs.Finished.{booked_now}
use Rattle.graph.proofs.graph.Graph.source.Goals as goal

pub returns : goal.returns
returns c =
    let sources = graph_sources c.args.self.now c.args.under in
    c.source_of.ensures sources (subst (λ vs. AreSourcesOf vs c.args.under sources) (sym c.as_slice.ensures.value) ((booked_now c.self.view_is c.self.invariant).sources c.args.under))
