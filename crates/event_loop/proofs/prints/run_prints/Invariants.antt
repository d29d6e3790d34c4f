use Rattle.lemmas.proofs.{◌≡◌, None}
use Rattle.event_loop.specs.{HasSameParts, IsSession, session_of}
use Rattle.event_loop.proofs.Courses.{IsSoFar}
use Rattle.event_loop.proofs.prints.run_prints.Given as goal

abbrev pub invariant-loop-print : goal.invariant-loop-print
invariant-loop-print g l = record {
  session : IsSession (session_of l.session);
  parts : HasSameParts (session_of l.initial.session) (session_of l.session);
  next : (session_of l.session).next ≡ l.print;
  sound : (session_of l.session).fault ≡ None;
  so_far : IsSoFar (session_of l.initial.session) (session_of l.session) l.text l.print;
}
