use Rattle.lemmas.proofs.{arith}
use Rattle.columns.proofs.Clusters.{few_ranges}
use Rattle.rdf_values.proofs.Evenly.{cuts_lead}
use Rattle.event_loop.proofs.one_loop.cluster_count.Goals as goal

pub returns-clause-few : goal.returns-clause-few
returns-clause-few g c =
    let v = c.cuts.result.now in
    omega (arith, c.count.ensures.value, c.count.ensures.valid.few, few_ranges _ 0 v.entries (cuts_lead v.entries v.size v.marks))
