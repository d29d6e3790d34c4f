use Rattle.lemmas.proofs.{arith}
use Rattle.std.proofs.lemmas.List.{get_or-replicate, length-replicate}
use Rattle.histograms.proofs.Filling.{flat_cells-none}
use Rattle.histograms.proofs.hist1.Hist1.new.Goals as goal

pub returns : goal.returns
returns = grind (arith, flat_cells-none, length-replicate, get_or-replicate)
