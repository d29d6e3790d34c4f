use Rattle.lemmas.proofs.{◌++◌, ap, ◌∙◌, map, on_ok}
use Rattle.histograms.specs.{cell_seen}
use Rattle.result_text.proofs.PassLines.{flat_lines}
use Rattle.merged_text.proofs.cells.put_flat.Goals as goal

pub returns : goal.returns
returns c = on_ok c.put_row.result _ _ (λ e. e ∙ ap (λ l. c.args.text.now ++ l) (flat_lines c.args.edges.now (map cell_seen c.args.cells.now))) c.put_row.ensures
