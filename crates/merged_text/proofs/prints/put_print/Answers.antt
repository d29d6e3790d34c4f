use Rattle.lemmas.proofs.{◌++◌, Some, length, refl, arith, ap, ◌∙◌}
use Rattle.std.proofs.lemmas.Option.{slice_get_read}
use Rattle.result_text.specs.{passes_at}
use Rattle.merged_text.specs.{lines_of_result}
use Rattle.merged_text.proofs.LoopPasses.{same_length}
use Rattle.merged_text.proofs.Printing.{gives_fault, gives_lines, its_name, print_at, result_inside}
use Rattle.merged_text.proofs.prints.put_print.Goals as goal

pub result_name-name-requires : goal.result_name-name-requires
result_name-name-requires c =
    let a = print_at c.args.graph.now c.args.print c.requires.print in
    result_inside c.args.graph.now c.args.print c.print_result.result c.print_result.ensures a.0 a.1

pub fault_line-requires-clause-its_pass : goal.fault_line-requires-clause-its_pass
fault_line-requires-clause-its_pass c = λ ps at.
    let lt = c.requires.fit.faults c.filling-l.result c.in-Faulted.fault (slice_get_read c.args.loops.now (length c.args.loops.now) c.filling-l.result c.index-loops-l.result refl (omega arith) c.index-loops-l.is ∙ ap (λ x. Some x) c.in-Faulted.is) in
    omega (arith, lt, same_length c.args.graph.now c.filling-l.result ps at)

pub returns-in_ok-put_result-in-Whole-clause-more : goal.returns-in_ok-put_result-in-Whole-clause-more
returns-in_ok-put_result-in-Whole-clause-more c = λ e a rest at.
    let name = c.result_name-name.result.now in
    gives_lines c.args.graph.now c.args.loops.now c.args.print c.filling-l.result c.filling-l.ensures a at c.args.text.now c.put_result.new.text name c.in-Whole.lines rest (slice_get_read c.args.loops.now (length c.args.loops.now) c.filling-l.result c.index-loops-l.result refl (omega arith) c.index-loops-l.is ∙ ap (λ x. Some x) c.in-Whole.is)
    (its_name c.args.graph.now c.args.print c.print_result.result c.print_result.ensures a name at c.result_name-name.ensures)
    (c.in_ok-put_result-in-Whole.ensures ∙ ap (λ ls. c.args.text.now ++ lines_of_result name (passes_at c.args.graph.now c.filling-l.result) ls) c.as_slice.ensures)

pub returns-in_ok-extend-in-Faulted-clause-end : goal.returns-in_ok-extend-in-Faulted-clause-end
returns-in_ok-extend-in-Faulted-clause-end c = λ e a rest at.
    gives_fault c.args.graph.now c.args.loops.now c.args.print c.filling-l.result c.filling-l.ensures a at c.args.text.now c.extend.new.self c.in-Faulted.fault rest (slice_get_read c.args.loops.now (length c.args.loops.now) c.filling-l.result c.index-loops-l.result refl (omega arith) c.index-loops-l.is ∙ ap (λ x. Some x) c.in-Faulted.is)
    (c.in_ok-extend-in-Faulted.ensures.ok ∙ ap (λ l. c.args.text.now ++ l) (c.as_bytes.ensures ∙ c.in_ok-line-in-Faulted.ensures))
