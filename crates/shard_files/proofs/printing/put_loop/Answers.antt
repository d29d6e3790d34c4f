use Rattle.lemmas.proofs.{◌∙◌, ap, ◌++◌, ◌∷◌, [], map, sym, on_ok}
use Rattle.shard_files.specs.{lines_text, loop_lines}
use Rattle.shard_files.proofs.Runs.{behind_loop, one_line}
use Rattle.shard_files.specs.declared.file_line.FileLine.{FileLine}
use Rattle.shard_files.proofs.printing.put_loop.Goals as goal

pub returns-in-Whole : goal.returns-in-Whole
returns-in-Whole c =
    on_ok c.put_passes.result _ _
    (λ e. behind_loop c.args.text.now c.extend.new.self c.put_passes.new.text (map FileLine.Pass c.in-Whole.lines) c.in_ok-extend.ensures.ok (e ∙ ap (λ ps. c.extend.new.self ++ lines_text (map FileLine.Pass ps)) c.as_slice.ensures)
    ∙ ap (λ l. c.args.text.now ++ lines_text (loop_lines l)) (sym c.in-Whole.is))
    c.put_passes.ensures

pub returns-in-Faulted : goal.returns-in-Faulted
returns-in-Faulted c =
    on_ok c.put_fault.result _ _
    (λ e. behind_loop c.args.text.now c.extend.new.self c.put_fault.new.text (FileLine.Fault c.in-Faulted.fault ∷ []) c.in_ok-extend.ensures.ok (e ∙ ap (λ t. c.extend.new.self ++ t) (sym (one_line (FileLine.Fault c.in-Faulted.fault))))
    ∙ ap (λ l. c.args.text.now ++ lines_text (loop_lines l)) (sym c.in-Faulted.is))
    c.put_fault.ensures
