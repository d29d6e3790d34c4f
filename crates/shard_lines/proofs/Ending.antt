-- Lists that are added place by place, up to the end of the shorter one.
use Rattle.lemmas.proofs.{◌≡◌, ◌≤◌, ◌⊎◌, ℕ, List, [], ◌∷◌, ◌++◌, length, drop, refl, ap, ◌∙◌, sym, arith, append-nil, inl, inr, drop_all}
use Rattle.loop_pieces.specs.{Counts}
use Rattle.histograms.specs.{CellSum}
use Rattle.shard_lines.specs.{added_cells, added_counts, joined_lines, PassShape, ShardLine}

no_cells : (cs : List CellSum) → added_cells cs [] ≡ []
no_cells [] = refl
no_cells (c ∷ cs) = refl

no_counts : (cs : List Counts) → added_counts cs [] ≡ []
no_counts [] = refl
no_counts (c ∷ cs) = refl

no_lines : (ss : List PassShape) (qs : List ShardLine) → joined_lines ss [] qs ≡ []
no_lines [] qs = refl
no_lines (s ∷ ss) qs = refl

no_others : (ss : List PassShape) (ps : List ShardLine) → joined_lines ss ps [] ≡ []
no_others [] ps = refl
no_others (s ∷ ss) [] = refl
no_others (s ∷ ss) (p ∷ ps) = refl

pub cells_end : (cs ds all : List CellSum) (i : ℕ) → all ++ added_cells (drop i cs) (drop i ds) ≡ added_cells cs ds → length ds ≤ i → all ≡ added_cells cs ds
cells_end cs ds all i h l = sym (append-nil all) ∙ ap (λ t. all ++ t) (sym (ap (added_cells (drop i cs)) (drop_all i ds l) ∙ no_cells (drop i cs))) ∙ h

pub counts_end : (cs ds all : List Counts) (i : ℕ) → all ++ added_counts (drop i cs) (drop i ds) ≡ added_counts cs ds → length ds ≤ i → all ≡ added_counts cs ds
counts_end cs ds all i h l = sym (append-nil all) ∙ ap (λ t. all ++ t) (sym (ap (added_counts (drop i cs)) (drop_all i ds l) ∙ no_counts (drop i cs))) ∙ h

pub lines_end : (ss : List PassShape) (ps qs all joined : List ShardLine) (i : ℕ) → all ++ joined_lines (drop i ss) ps (drop i qs) ≡ joined → (length ss ≤ i) ⊎ (length qs ≤ i) → all ≡ joined
lines_end ss ps qs all joined i h (inl l) = sym (append-nil all) ∙ ap (λ t. all ++ t) (sym (ap (λ xs. joined_lines xs ps (drop i qs)) (drop_all i ss l))) ∙ h
lines_end ss ps qs all joined i h (inr l) = sym (append-nil all) ∙ ap (λ t. all ++ t) (sym (ap (joined_lines (drop i ss) ps) (drop_all i qs l) ∙ no_others (drop i ss) ps)) ∙ h

pub lines_over : (ss : List PassShape) (ps qs all joined : List ShardLine) → length ps ≡ 0 → all ++ joined_lines ss ps qs ≡ joined → all ≡ joined
lines_over ss [] qs all joined e h = sym (append-nil all) ∙ ap (λ t. all ++ t) (sym (no_lines ss qs)) ∙ h
lines_over ss (p ∷ ps) qs all joined e h = absurd (omega arith)
