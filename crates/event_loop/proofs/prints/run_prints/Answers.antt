use Rattle.lemmas.proofs.{◌+◌, ℕ, Ok, true, false, refl, arith, ap, subst, ◌∙◌}
use Rattle.event_loop.specs.{IsTranscript, session_of, SessionView}
use Rattle.event_loop.proofs.Courses.{done, ended, further, prints_are, whole}
use Rattle.event_loop.proofs.prints.run_prints.Goals as goal

pub returns-then-not-branch : goal.returns-then-not-branch
returns-then-not-branch g c =
    let many = prints_are (session_of c.new-session.result).graph c.graph.result.now c.prints-prints.result c.graph.ensures c.prints-prints.ensures in
    let end = c.in_ok-put_print.ensures.end (ap (λ b. Ok b) c.if-not-branch.true) in
    subst (λ (s : SessionView). IsTranscript s.graph.script s.dataset s.cuts s.watch (record { text = c.put_print.new.text; faulted = true })) c.new-session.ensures.fresh
    (whole (session_of c.new-session.result) (session_of c.loop-print.session) c.loop-print.invariant.session c.loop-print.invariant.parts c.put_print.new.text
    true 8 refl (ended (session_of c.new-session.result) (session_of c.loop-print.session) c.loop-print.invariant.parts c.loop-print.print c.loop-print.text c.put_print.new.text c.loop-print.invariant.so_far (omega (arith, many, c.loop-print-test.true)) end))

pub loop-print-preserved : goal.loop-print-preserved
loop-print-preserved g c =
    let many = prints_are (session_of c.new-session.result).graph c.graph.result.now c.prints-prints.result c.graph.ensures c.prints-prints.ensures in
    let on = c.in_ok-put_print.ensures.more (ap (λ b. Ok b) c.if-not-branch.false) in
    record {
      session = c.in_ok-put_print.ensures.session;
      parts = grind (arith, c.loop-print.invariant.parts, c.in_ok-put_print.ensures.parts);
      next = on.next ∙ ap (λ (n : ℕ). n + 1) c.loop-print.invariant.next;
      sound = on.sound;
      so_far = further (session_of c.new-session.result) (session_of c.loop-print.session) c.loop-print.invariant.parts c.loop-print.print c.loop-print.text c.put_print.new.text c.loop-print.invariant.so_far (session_of c.put_print.new.session) c.in_ok-put_print.ensures.parts (omega (arith, many, c.loop-print-test.true)) on;
    }

pub returns : goal.returns
returns g c =
    let many = prints_are (session_of c.new-session.result).graph c.graph.result.now c.prints-prints.result c.graph.ensures c.prints-prints.ensures in
    subst (λ (s : SessionView). IsTranscript s.graph.script s.dataset s.cuts s.watch (record { text = c.loop-print.text; faulted = false })) c.new-session.ensures.fresh
    (done (session_of c.new-session.result) (session_of c.loop-print.session) c.loop-print.invariant.session c.loop-print.invariant.parts c.loop-print.text c.loop-print.print (omega (arith, many, c.loop-print-test.false)) c.loop-print.invariant.so_far)
