use Rattle.lemmas.proofs.{arith}
use Rattle.std.proofs.lemmas.List.{get_or-replicate, length-replicate}
use Rattle.histograms.proofs.FillingPairs.{square_cells-none}
use Rattle.histograms.proofs.hist2.Hist2.new.Goals as goal

pub returns : goal.returns
returns = grind (arith, square_cells-none, length-replicate, get_or-replicate)
