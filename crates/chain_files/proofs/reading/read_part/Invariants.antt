use Rattle.lemmas.proofs.{length}
use Rattle.chain_files.proofs.Refused.{Read}
use Rattle.chain_files.proofs.reading.read_part.Given as goal

abbrev pub invariant-loop-line : goal.invariant-loop-line
invariant-loop-line l = Read l.bytes l.progress l.rest l.number

abbrev pub decreases-loop-line : goal.decreases-loop-line
decreases-loop-line l = length l.rest
