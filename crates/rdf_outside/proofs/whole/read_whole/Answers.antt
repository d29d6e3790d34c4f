use Rattle.lemmas.proofs.{rules}
use Rattle.rdf_outside.proofs.Outside.{reads}
use Rattle.rdf_outside.proofs.whole.read_whole.Goals as goal

pub returns-then-count-eq0-clause-bytes : goal.returns-then-count-eq0-clause-bytes
returns-then-count-eq0-clause-bytes g c =
    reads _ _ _ (λ all e. let told = c.in_ok-count.ensures.told all (c.loop-buffer.invariant.told all e) in (told.0, told.1 c.if-count-eq0.true))

pub loop-buffer-preserved : goal.loop-buffer-preserved
loop-buffer-preserved g c = record {
  same = search rules;
  turns = search rules;
  later = search rules;
  kept = search rules;
  told = λ all e. (c.in_ok-count.ensures.told all (c.loop-buffer.invariant.told all e)).0;
  few = search rules;
}
