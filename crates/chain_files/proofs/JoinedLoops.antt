-- Where joining the loops of two parts ends.
use Rattle.lemmas.proofs.{◌≡◌, ◌≤◌, ◌⊎◌, ℕ, List, [], ◌∷◌, ◌++◌, length, drop, refl, ap, ◌∙◌, sym, arith, append-nil, inl, inr, drop_all}
use Rattle.shard_lines.specs.{PassShape}
use Rattle.chain_files.specs.{joined_loops, PartLoop}

no_earlier : (ss : List (List PassShape)) (ms : List PartLoop) → joined_loops ss [] ms ≡ []
no_earlier [] ms = refl
no_earlier (s ∷ ss) ms = refl

no_later : (ss : List (List PassShape)) (ls : List PartLoop) → joined_loops ss ls [] ≡ []
no_later [] ls = refl
no_later (s ∷ ss) [] = refl
no_later (s ∷ ss) (l ∷ ls) = refl

pub loops_end : (ss : List (List PassShape)) (ls ms all joined : List PartLoop) (i : ℕ) → all ++ joined_loops (drop i ss) ls (drop i ms) ≡ joined → (length ss ≤ i) ⊎ (length ms ≤ i) → all ≡ joined
loops_end ss ls ms all joined i h (inl l) = sym (append-nil all) ∙ ap (λ t. all ++ t) (sym (ap (λ xs. joined_loops xs ls (drop i ms)) (drop_all i ss l))) ∙ h
loops_end ss ls ms all joined i h (inr l) = sym (append-nil all) ∙ ap (λ t. all ++ t) (sym (ap (joined_loops (drop i ss) ls) (drop_all i ms l) ∙ no_later (drop i ss) ls)) ∙ h

pub loops_over : (ss : List (List PassShape)) (ls ms all joined : List PartLoop) → length ls ≡ 0 → all ++ joined_loops ss ls ms ≡ joined → all ≡ joined
loops_over ss [] ms all joined e h = sym (append-nil all) ∙ ap (λ t. all ++ t) (sym (no_earlier ss ms)) ∙ h
loops_over ss (l ∷ ls) ms all joined e h = absurd (omega arith)
