use Rattle.lemmas.proofs.{length}
use Rattle.histograms.specs.{AreStarts, bucket_of_edge}
use Rattle.histograms.proofs.buckets.Buckets.new.Given as goal

abbrev pub invariant-loop-cell : goal.invariant-loop-cell
invariant-loop-cell l = AreStarts (bucket_of_edge l.first l.shift l.edges) (length l.edges) l.starts.items l.cell
