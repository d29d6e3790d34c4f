-- What an accumulator answers.
use Rattle.rdf_values.specs.results.Fold as fold
use Rattle.actions.specs.declared.acc.Filled.{Filled}
use Rattle.actions.specs.declared.acc.Filled.TheVariants.{Count, Sum, Extreme, Taken, Number, Flat, Square}

-- the answer as the definitions see it
abbrev pub filled_seen : Filled → fold.Filled
filled_seen (Count n) = fold.Count n
filled_seen (Sum z) = fold.Sum z
filled_seen (Extreme o) = fold.Extreme o
filled_seen (Taken xs) = fold.Taken xs
filled_seen (Number z) = fold.Reduced z
filled_seen (Flat h) = fold.Flat h.now.cells
filled_seen (Square h) = fold.Square h.now.cells
