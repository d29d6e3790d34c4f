use Rattle.lemmas.proofs.{◌≤◌, ◌-◌, length}
use Rattle.rdf_outside.proofs.file_parts.read_range.Given as goal

abbrev pub invariant-loop-buffer : goal.invariant-loop-buffer
invariant-loop-buffer g l = length l.bytes ≤ l.len

abbrev pub decreases-loop-buffer : goal.decreases-loop-buffer
decreases-loop-buffer g l = l.len - length l.bytes
