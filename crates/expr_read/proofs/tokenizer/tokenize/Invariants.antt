use Rattle.lemmas.proofs.{length, ◌-◌, ◌≡◌, ◌≤◌, map}
use Rattle.rdf_values.specs.{tokens}
use Rattle.expr_read.specs.{placed_of}
use Rattle.expr_read.proofs.TokenSteps.{goes_on}
use Rattle.expr_read.proofs.tokenizer.tokenize.Given as goal

abbrev pub invariant-loop-place : goal.invariant-loop-place
invariant-loop-place l = record {
  same : tokens l.text ≡ goes_on (map placed_of l.found.items) l.text l.place;
  within : l.place ≤ length l.text;
  few : length l.found.items ≤ 256;
}

abbrev pub decreases-loop-place : goal.decreases-loop-place
decreases-loop-place l = length l.text - l.place
