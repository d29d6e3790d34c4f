use Rattle.lemmas.proofs.{Ok, ap, arith}
use Rattle.std.proofs.lemmas.List.{length-map}
use Rattle.graph_numbers.specs.{booked_statements, result_number}
use Rattle.rdf_model.specs.{Access, accesses, Printed}
use Rattle.chain_text.specs.{chain_text}
use Rattle.chain_text.proofs.Printing.{all_written, begin_written, ends_there, goes_on}
use Rattle.merged_text.proofs.Printing.{print_at}
use Rattle.chain_text.proofs.prints.chain_text.Goals as goal

pub loop-print-init : goal.loop-print-init
loop-print-init c = (begin_written c.args.graph.now c.args.loops.now c.new-text.result c.new-text.ensures, c.prints-print-end.ensures)

pub returns-then-not-branch-clause-bytes : goal.returns-then-not-branch-clause-bytes
returns-then-not-branch-clause-bytes c =
    let lt = c.loop-print-test.true in
    let end = c.loop-print.invariant.1 in
    let a = print_at c.args.graph.now c.loop-print.print (omega arith) in
    ap (λ (p : Printed). p.bytes) (ends_there c.args.graph.now c.args.loops.now (chain_text c.args.graph.now c.args.loops.now) c.loop-print.text c.put_print.new.text c.loop-print.print a.0 a.1 (λ rest. c.in_ok-put_print.ensures.end (ap (λ b. Ok b) c.if-not-branch.true) a.0 rest a.1) c.loop-print.invariant.0)

pub returns-then-not-branch-clause-status : goal.returns-then-not-branch-clause-status
returns-then-not-branch-clause-status c =
    let lt = c.loop-print-test.true in
    let end = c.loop-print.invariant.1 in
    let a = print_at c.args.graph.now c.loop-print.print (omega arith) in
    ap (λ (p : Printed). p.status) (ends_there c.args.graph.now c.args.loops.now (chain_text c.args.graph.now c.args.loops.now) c.loop-print.text c.put_print.new.text c.loop-print.print a.0 a.1 (λ rest. c.in_ok-put_print.ensures.end (ap (λ b. Ok b) c.if-not-branch.true) a.0 rest a.1) c.loop-print.invariant.0)

pub loop-print-preserved : goal.loop-print-preserved
loop-print-preserved c =
    let lt = c.loop-print-test.true in
    let end = c.loop-print.invariant.1 in
    let a = print_at c.args.graph.now c.loop-print.print (omega arith) in
    (goes_on c.args.graph.now c.args.loops.now (chain_text c.args.graph.now c.args.loops.now) c.loop-print.text c.put_print.new.text c.loop-print.print a.0 a.1 (λ rest. c.in_ok-put_print.ensures.more (ap (λ b. Ok b) c.if-not-branch.false) a.0 rest a.1) c.loop-print.invariant.0, end)

pub returns-clause-bytes : goal.returns-clause-bytes
returns-clause-bytes c =
    let past = c.loop-print-test.false in
    let end = c.loop-print.invariant.1 in
    let many = length-map (accesses (booked_statements c.args.graph.now)) (λ (a : Access). result_number (booked_statements c.args.graph.now) a.result) in
    ap (λ (p : Printed). p.bytes) (all_written c.args.graph.now c.args.loops.now (chain_text c.args.graph.now c.args.loops.now) c.loop-print.text c.loop-print.print (omega arith) c.loop-print.invariant.0)

pub returns-clause-status : goal.returns-clause-status
returns-clause-status c =
    let past = c.loop-print-test.false in
    let end = c.loop-print.invariant.1 in
    let many = length-map (accesses (booked_statements c.args.graph.now)) (λ (a : Access). result_number (booked_statements c.args.graph.now) a.result) in
    ap (λ (p : Printed). p.status) (all_written c.args.graph.now c.args.loops.now (chain_text c.args.graph.now c.args.loops.now) c.loop-print.text c.loop-print.print (omega arith) c.loop-print.invariant.0)
