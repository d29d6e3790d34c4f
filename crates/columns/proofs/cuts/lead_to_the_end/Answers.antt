use Rattle.rdf_values.proofs.Evenly.{cuts_lead}
use Rattle.columns.proofs.Clusters.{in_one}
use Rattle.columns.proofs.cuts.lead_to_the_end.Goals as goal

pub returns-clause-leads : goal.returns-clause-leads
returns-clause-leads c = cuts_lead c.args.entries c.args.size c.args.marks.now

pub returns-clause-once : goal.returns-clause-once
returns-clause-once c = in_one _ 0 c.args.entries (cuts_lead c.args.entries c.args.size c.args.marks.now)
