use Rattle.lemmas.proofs.{arith}
use Rattle.event_loop.specs.{session_of}
use Rattle.event_loop.proofs.Courses.{accessed_filled, accessed_old, after_faulted, after_filled, after_old, faulted_new, loop_within, print_few}
use Rattle.event_loop.proofs.session.Session.access.Goals as goal

pub overflow_add-next : goal.overflow_add-next
overflow_add-next g c = let few = print_few (session_of c.args.self.now) c.requires.session c.args.print c.requires.print.1 in omega (arith, few)

pub returns-then-l-len-clause-session : goal.returns-then-l-len-clause-session
returns-then-l-len-clause-session g c =
    after_old (session_of c.args.self.now) c.requires.session c.args.print c.requires.print.0 c.filling-l.result c.filling-l.ensures (omega arith)

pub returns-then-l-len-clause-ok : goal.returns-then-l-len-clause-ok
returns-then-l-len-clause-ok g c = λ m e.
    accessed_old (session_of c.args.self.now) c.requires.session c.args.print c.requires.print.0 c.filling-l.result c.filling-l.ensures m (cc) (omega arith)

pub run-requires-clause-its_loop : goal.run-requires-clause-its_loop
run-requires-clause-its_loop g c κs within =
    loop_within (session_of c.args.self.now) c.requires.session c.args.print c.requires.print.0 c.filling-l.result c.filling-l.ensures (omega arith) c.in_default.is

pub returns-else-is_err-clause-session : goal.returns-else-is_err-clause-session
returns-else-is_err-clause-session g c =
    after_filled (session_of c.args.self.now) c.requires.session c.args.print c.requires.print.0 c.filling-l.result c.filling-l.ensures (omega arith) c.in_default.is c.in-Ok-Filled.filled c.push.new.self.items
    (rw c.if-is_err.ensures.negation at c.push.ensures.items) (rw c.in-Ok-Filled.field-0-is at c.in-Ok-Filled.ensures)

pub returns-else-is_err-clause-ok : goal.returns-else-is_err-clause-ok
returns-else-is_err-clause-ok g c = λ m e.
    accessed_filled (session_of c.args.self.now) c.requires.session c.args.print c.requires.print.0 c.filling-l.result c.filling-l.ensures (omega arith) c.in_default.is c.in-Ok-Filled.filled c.push.new.self.items
    (rw c.if-is_err.ensures.negation at c.push.ensures.items) (rw c.in-Ok-Filled.field-0-is at c.in-Ok-Filled.ensures) m (cc)

pub returns-in-Ok-Faulted-clause-session : goal.returns-in-Ok-Faulted-clause-session
returns-in-Ok-Faulted-clause-session g c =
    after_faulted (session_of c.args.self.now) c.requires.session c.args.print c.requires.print.0 c.filling-l.result c.filling-l.ensures (omega arith) c.in_default.is c.in-Ok-Faulted.fault (rw c.in-Ok-Faulted.field-0-is at c.in-Ok-Faulted.ensures)

pub returns-in-Ok-Faulted-clause-fault : goal.returns-in-Ok-Faulted-clause-fault
returns-in-Ok-Faulted-clause-fault g c = λ k e.
    faulted_new (session_of c.args.self.now) c.requires.session c.args.print c.requires.print.0 c.filling-l.result c.filling-l.ensures (omega arith) c.in_default.is c.in-Ok-Faulted.fault (rw c.in-Ok-Faulted.field-0-is at c.in-Ok-Faulted.ensures) k (cc)
