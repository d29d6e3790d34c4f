use Rattle.lemmas.proofs.{ap}
use Rattle.script_read.specs.{AMethod, token_of}
use Rattle.script_read.proofs.Walked.{no_word, stuck_token, no_method_named, method_seen}
use Rattle.script_read.proofs.walk.Walk.peek_method.Goals as goal

pub returns-in_default-clause-stuck : goal.returns-in_default-clause-stuck
returns-in_default-clause-stuck c _ = stuck_token AMethod _ c.in_ok-word.ensures.sees (no_word _ c.in_default.not-Word).1

pub returns-in-Some-clause-sees : goal.returns-in-Some-clause-sees
returns-in-Some-clause-sees c = method_seen c.in-Word.word.bytes.now c.in-Some.name (ap token_of c.in-Word.is) c.in-Some.ensures c.in_ok-word.ensures.sees

pub returns-in-None-clause-stuck : goal.returns-in-None-clause-stuck
returns-in-None-clause-stuck c _ = stuck_token AMethod _ c.in_ok-word.ensures.sees (no_method_named _ c.in-Word.word.bytes.now (ap token_of c.in-Word.is) c.in-None.ensures)
