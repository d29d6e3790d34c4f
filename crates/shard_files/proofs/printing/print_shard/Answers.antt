use Rattle.lemmas.proofs.{◌∙◌, ap, ap₂, ◌++◌, ◌∷◌, [], codes, decimal, flat_map, map}
use Rattle.rdf_values.specs.{line}
use Rattle.shard_files.specs.{lines_text, loop_lines}
use Rattle.shard_files.proofs.Runs.{whole_text}
use Rattle.shard_files.specs.declared.file_line.FileLine.{FileLine}
use Rattle.shard_lines.specs.{joined_words}
use Rattle.shard_files.proofs.printing.print_shard.Goals as goal

pub returns : goal.returns
returns c =
    whole_text c.args.shard.now c.extend.new.self c.put_pair.new.text c.put_columns.new.text c.put_pair-2.new.text c.put_loops.new.text c.extend-2.new.self
    (c.in_ok-extend.ensures.ok ∙ ap (λ t. t ++ codes "rdfshard 1\n") c.new-text.ensures)
    (c.in_ok-put_pair.ensures ∙ ap₂ (λ a b. c.extend.new.self ++ line (joined_words (codes "table" ∷ decimal a ∷ decimal b ∷ []))) c.entries.ensures c.clusters.ensures)
    (c.in_ok-put_columns.ensures ∙ ap (λ cs. c.put_pair.new.text ++ lines_text (map FileLine.Column cs)) c.columns.ensures)
    (c.in_ok-put_pair-2.ensures ∙ ap₂ (λ a b. c.put_columns.new.text ++ line (joined_words (codes "span" ∷ decimal a ∷ decimal b ∷ []))) c.lo.ensures c.hi.ensures)
    (c.in_ok-put_loops.ensures ∙ ap (λ ls. c.put_pair-2.new.text ++ lines_text (flat_map loop_lines ls)) c.loops.ensures)
    c.in_ok-extend-2.ensures.ok
