use Rattle.lemmas.proofs.{◌∙◌, ap, ◌++◌, ◌∷◌, [], codes, decimal, length, map, sym, flat_map, on_ok}
use Rattle.shard_lines.specs.{cell_words, count_words, joined_words, line_words, scalar_word, spaced}
use Rattle.shard_lines.proofs.Runs.{spaced_on, words_on}
use Rattle.shard_lines.proofs.printing.put_line.Goals as goal

pub returns-in_ok-put_count-in-Take : goal.returns-in_ok-put_count-in-Take
returns-in_ok-put_count-in-Take c =
    let size = decimal (length c.in-Take.values) in
    on_ok c.put_scalars.result _ _
    (λ e. words_on c.args.text.now c.extend-in-Take.new.self c.put_scalars.new.text (codes "take") (size ∷ map scalar_word c.in-Take.values) c.in_ok-extend-in-Take.ensures.ok
    (spaced_on c.extend-in-Take.new.self c.put_count-in-Take.new.text c.put_scalars.new.text size (map scalar_word c.in-Take.values)
    (c.in_ok-put_count-in-Take.ensures ∙ ap (λ n. c.extend-in-Take.new.self ++ spaced (decimal n ∷ [])) c.len.ensures)
    (e ∙ ap (λ xs. c.put_count-in-Take.new.text ++ spaced (map scalar_word xs)) c.as_slice.ensures)) ∙ ap (λ p. c.args.text.now ++ joined_words (line_words p)) (sym c.in-Take.is))
    c.put_scalars.ensures

pub returns-in_ok-put_count-in-Cells : goal.returns-in_ok-put_count-in-Cells
returns-in_ok-put_count-in-Cells c =
    let size = decimal (length c.in-Cells.cells) in
    on_ok c.put_cells.result _ _
    (λ e. words_on c.args.text.now c.extend-in-Cells.new.self c.put_cells.new.text (codes "cells") (size ∷ flat_map cell_words c.in-Cells.cells) c.in_ok-extend-in-Cells.ensures.ok
    (spaced_on c.extend-in-Cells.new.self c.put_count-in-Cells.new.text c.put_cells.new.text size (flat_map cell_words c.in-Cells.cells)
    (c.in_ok-put_count-in-Cells.ensures ∙ ap (λ n. c.extend-in-Cells.new.self ++ spaced (decimal n ∷ [])) c.len-in-Cells.ensures)
    (e ∙ ap (λ xs. c.put_count-in-Cells.new.text ++ spaced (flat_map cell_words xs)) c.as_slice-in-Cells.ensures)) ∙ ap (λ p. c.args.text.now ++ joined_words (line_words p)) (sym c.in-Cells.is))
    c.put_cells.ensures

pub returns-in_ok-put_count-in-Report : goal.returns-in_ok-put_count-in-Report
returns-in_ok-put_count-in-Report c =
    let size = decimal (length c.in-Report.counts) in
    on_ok c.put_counts.result _ _
    (λ e. words_on c.args.text.now c.extend-in-Report.new.self c.put_counts.new.text (codes "report") (size ∷ flat_map count_words c.in-Report.counts) c.in_ok-extend-in-Report.ensures.ok
    (spaced_on c.extend-in-Report.new.self c.put_count-in-Report.new.text c.put_counts.new.text size (flat_map count_words c.in-Report.counts)
    (c.in_ok-put_count-in-Report.ensures ∙ ap (λ n. c.extend-in-Report.new.self ++ spaced (decimal n ∷ [])) c.len-in-Report.ensures)
    (e ∙ ap (λ xs. c.put_count-in-Report.new.text ++ spaced (flat_map count_words xs)) c.as_slice-in-Report.ensures)) ∙ ap (λ p. c.args.text.now ++ joined_words (line_words p)) (sym c.in-Report.is))
    c.put_counts.ensures
