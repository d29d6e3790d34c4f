use Rattle.lemmas.proofs.{length, ◌-◌, ◌≡◌, ◌≤◌, map}
use Rattle.rdf_values.specs.{line_tokens}
use Rattle.script_read.specs.{placed_of}
use Rattle.script_read.proofs.TokenSteps.{goes_on}
use Rattle.script_read.proofs.lexeme.tokenize.Given as goal

abbrev pub invariant-loop-place : goal.invariant-loop-place
invariant-loop-place l = record {
  same : line_tokens l.line ≡ goes_on (map placed_of l.found.items) l.line l.place;
  within : l.place ≤ length l.line;
}

abbrev pub decreases-loop-place : goal.decreases-loop-place
decreases-loop-place l = length l.line - l.place
