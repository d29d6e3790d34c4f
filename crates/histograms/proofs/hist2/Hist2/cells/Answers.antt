use Rattle.lemmas.proofs.{arith, ◌∙◌, sym}
use Rattle.histograms.proofs.FillingPairs.{length-row, length-rows}
use Rattle.histograms.proofs.hist2.Hist2.cells.Goals as goal

pub returns-clause-rows : goal.returns-clause-rows
returns-clause-rows c = rw (← c.self.view_is) (c.cells.ensures ∙ sym (length-rows c.self.inside.x c.self.inside.y c.self.inside.cells.items))

pub returns-clause-columns : goal.returns-clause-columns
returns-clause-columns = grind (arith, length-row)
