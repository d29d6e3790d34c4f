use Rattle.lemmas.proofs.{◌∙◌, ap, sym}
use Rattle.script_read.specs.{AWord, token_of}
use Rattle.script_read.proofs.Walked.{took_seen, is_name_next}
use Rattle.script_read.proofs.walk.Walk.name.Goals as goal

pub returns-in-Word-clause-took : goal.returns-in-Word-clause-took
returns-in-Word-clause-took c = took_seen AWord (ap token_of c.in-Word.is) c.in_ok-word.ensures.sees c.advance.ensures (is_name_next c.in-Word.word.bytes.now (sym c.is_free.ensures ∙ c.if-is_free.true))
