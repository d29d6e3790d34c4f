use Rattle.lemmas.proofs.{◌∙◌, ap, ap₂, ◌++◌, codes, flat_map, map}
use Rattle.chain_files.specs.{line_text, lines_text, loop_lines}
use Rattle.chain_files.proofs.Runs.{whole_text}
use Rattle.chain_files.specs.declared.part_line.PartLine.{PartLine}
use Rattle.chain_files.proofs.printing.print_part.Goals as goal

pub returns : goal.returns
returns c =
    whole_text c.args.part.now c.extend.new.self c.put_files.new.text c.put_entries.new.text c.put_script.new.text c.put_columns.new.text c.put_loops.new.text c.extend-2.new.self
    (c.in_ok-extend.ensures.ok ∙ ap (λ t. t ++ codes "rdfpart 1\n") c.new-text.ensures)
    (c.in_ok-put_files.ensures ∙ ap₂ (λ a b. c.extend.new.self ++ line_text (PartLine.Files a b)) c.first_file.ensures c.end_file.ensures)
    (c.in_ok-put_entries.ensures ∙ ap (λ n. c.put_files.new.text ++ line_text (PartLine.Entries n)) c.entries.ensures)
    (c.in_ok-put_script.ensures ∙ ap (λ w. c.put_entries.new.text ++ line_text (PartLine.Script w)) c.script.ensures)
    (c.in_ok-put_columns.ensures ∙ ap (λ cs. c.put_script.new.text ++ lines_text (map PartLine.Column cs)) c.columns.ensures)
    (c.in_ok-put_loops.ensures ∙ ap (λ ls. c.put_columns.new.text ++ lines_text (flat_map loop_lines ls)) c.loops.ensures)
    c.in_ok-extend-2.ensures.ok
