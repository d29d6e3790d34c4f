use Rattle.lemmas.proofs.{◌≡◌, length, replicate}
use Rattle.rdf_values.specs.{history, named_before}
use Rattle.loop_pieces.specs.{nothing}
use Rattle.loop_keys.specs.{job_of}
use Rattle.event_loop.specs.{IsOfPasses}
use Rattle.event_loop.proofs.passes.tally_of.Given as goal

abbrev pub invariant-loop-pass : goal.invariant-loop-pass
invariant-loop-pass g l = IsOfPasses (job_of l.job) l.pass-index l.tally × (l.tally.flow ≡ replicate (length (named_before (history (job_of l.job).script))) nothing)
