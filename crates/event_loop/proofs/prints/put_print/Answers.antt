use Rattle.lemmas.proofs.{◌<◌, length, refl, sym, ap, subst, ◌∙◌, slice_get}
use Rattle.graph_numbers.specs.{graph_loops, GraphView}
use Rattle.event_loop.specs.{session_of}
use Rattle.event_loop.proofs.Courses.{fault_loop, fault_pass, goes_on, row_filled, row_within}
use Rattle.event_loop.proofs.prints.put_print.Goals as goal

pub put_result-requires-clause-result : goal.put_result-requires-clause-result
put_result-requires-clause-result g c = row_within (session_of c.args.session.now) (session_of c.access.new.self) c.args.print c.print_result-r.result c.requires.session c.access.ensures.parts (rw c.graph-graph.ensures at c.print_result-r.ensures) c.requires.print.1

pub put_result-requires-clause-filled : goal.put_result-requires-clause-filled
put_result-requires-clause-filled g c =
    row_filled (session_of c.args.session.now) (session_of c.access.new.self) c.args.print c.in-Ok.loop_index c.print_result-r.result c.requires.session c.access.ensures.parts (c.in-Ok.ensures.ok c.in-Ok.loop_index refl) (rw c.graph-graph.ensures at c.print_result-r.ensures) c.requires.print.1

pub fault_line-requires-clause-its_loop : goal.fault_line-requires-clause-its_loop
fault_line-requires-clause-its_loop g c =
    subst (λ (h : GraphView). c.in-Err-Fault.kept.loop_index < length (graph_loops h)) (sym c.graph.ensures) (fault_loop (session_of c.access.new.self) c.in-Err-Fault.kept c.access.ensures.session (c.in-Err-Fault.ensures.fault c.in-Err-Fault.kept (cc)).fault)

pub fault_line-requires-clause-its_pass : goal.fault_line-requires-clause-its_pass
fault_line-requires-clause-its_pass g c = λ ps at.
    fault_pass (session_of c.access.new.self) c.in-Err-Fault.kept c.access.ensures.session (c.in-Err-Fault.ensures.fault c.in-Err-Fault.kept (cc)).fault ps (ap (λ (h : GraphView). slice_get (graph_loops h) c.in-Err-Fault.kept.loop_index) (sym c.graph.ensures) ∙ at)

pub returns-in_ok-put_result-in-Ok-clause-more : goal.returns-in_ok-put_result-in-Ok-clause-more
returns-in_ok-put_result-in-Ok-clause-more g c = λ e.
    goes_on (session_of c.args.session.now) (session_of c.access.new.self) c.args.print c.in-Ok.loop_index c.print_result-r.result c.args.text.now c.put_result.new.text c.requires.session c.access.ensures.parts (c.in-Ok.ensures.ok c.in-Ok.loop_index refl) (rw c.graph-graph.ensures at c.print_result-r.ensures) c.requires.sound
    (λ x course its fits. c.in_ok-put_result-in-Ok.ensures x course its fits)
