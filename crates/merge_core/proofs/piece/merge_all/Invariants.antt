use Rattle.lemmas.proofs.{ℕ, List, reverse, vec_len}
use Rattle.rdf_values.specs.{IsUnion}
use Rattle.merge_core.specs.{Stand}
use Rattle.merge_core.proofs.Merging.{IsMerged}
use Rattle.merge_core.proofs.piece.merge_all.Given as goal

abbrev pub invariant-loop-piece : goal.invariant-loop-piece
invariant-loop-piece g l =
    let stands = g.P.Piece.stands in
    (job : g.row.P-Job.Denot) (sets : List (List ℕ)) (all : List ℕ) → Stand (stands job) sets l.fn.pieces → IsUnion sets all → IsMerged (stands job) l.merged (reverse l.left.items) all

abbrev pub decreases-loop-piece : goal.decreases-loop-piece
decreases-loop-piece g l = vec_len l.left
