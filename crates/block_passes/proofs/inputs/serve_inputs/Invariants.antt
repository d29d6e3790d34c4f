use Rattle.block_passes.proofs.Serving.{AreServedTo}
use Rattle.block_passes.proofs.inputs.serve_inputs.Given as goal

-- the versions so far were served
abbrev pub invariant-loop-version : goal.invariant-loop-version
invariant-loop-version g l = AreServedTo l.at l.under l.inputs l.fn.to.places l.fn.work l.fn.steps l.version-index l.work l.to l.steps
