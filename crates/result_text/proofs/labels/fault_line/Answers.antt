use Rattle.lemmas.proofs.{None, slice_index_or}
use Rattle.graph_numbers.specs.{Pass}
use Rattle.result_text.proofs.PassLines.{is_pass_at, pass_there, result_within}
use Rattle.result_text.proofs.labels.fault_line.Goals as goal

pub result_name-name-requires : goal.result_name-name-requires
result_name-name-requires c =
    let g = c.args.graph.now in
    let ps = c.passes.result.now in
    let n = c.args.fault.now.pass in
    let none : Pass = record { result = 0; variation = None } in
    let at = pass_there ps n none (c.requires.its_pass ps c.passes.ensures) in
    result_within g c.args.loop_index n (slice_index_or ps n none) (is_pass_at g c.args.loop_index n ps (slice_index_or ps n none) c.passes.ensures at)
