use Rattle.lemmas.proofs.{ap, refl}
use Rattle.script_read.specs.{AString, token_of}
use Rattle.script_read.proofs.Walked.{took_seen, no_string, stuck_token}
use Rattle.script_read.proofs.walk.Walk.string.Goals as goal

pub returns-clause-took : goal.returns-clause-took
returns-clause-took c = took_seen AString (ap token_of c.in-Quoted.is) c.in_ok-text.ensures.sees c.advance.ensures refl

pub returns-in_default-clause-stuck : goal.returns-in_default-clause-stuck
returns-in_default-clause-stuck c _ = stuck_token AString _ c.in_ok-text.ensures.sees (no_string _ c.in_default.not-Quoted)
