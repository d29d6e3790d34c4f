-- Texts of lines.
use Rattle.lemmas.proofs.{◌≡◌, ℕ, List, [], ◌∷◌, ◌++◌, map, ap, ◌∙◌, sym, append_assoc, append-nil, codes, decimal, flat_map}
use Rattle.rdf_values.specs.{line}
use Rattle.shard_lines.specs.{joined_words}
use Rattle.shard_lines.proofs.Runs.{joins}
use Rattle.shard_files.specs.{line_text, lines_text, loop_lines, shard_text, ShardView}
use Rattle.shard_files.specs.declared.file_line.FileLine.{FileLine}

-- words and the end of their line
pub line_on : (t a b : List ℕ) (w : List ℕ) → a ≡ t ++ w → b ≡ a ++ 10 ∷ [] → b ≡ t ++ line w
line_on t a b w h k = k ∙ ap (λ z. z ++ 10 ∷ []) h ∙ append_assoc t w (10 ∷ [])

-- ---- lines

pub one_line : (l : FileLine) → lines_text (l ∷ []) ≡ line_text l
one_line l = append-nil (line_text l)

-- lines behind that of a loop
pub behind_loop : (t a b : List ℕ) (ls : List FileLine) → a ≡ t ++ codes "loop\n" → b ≡ a ++ lines_text ls → b ≡ t ++ lines_text (FileLine.Loop ∷ ls)
unfolding line_text
behind_loop t a b ls h k = k ∙ ap (λ z. z ++ lines_text ls) h ∙ append_assoc t (codes "loop\n") (lines_text ls)

-- ---- the whole text

pub whole_text : (s : ShardView) (a b c d e f : List ℕ) → a ≡ codes "rdfshard 1\n" → b ≡ a ++ line (joined_words (codes "table" ∷ decimal s.entries ∷ decimal s.clusters ∷ []))
    → c ≡ b ++ lines_text (map FileLine.Column s.columns) → d ≡ c ++ line (joined_words (codes "span" ∷ decimal s.lo ∷ decimal s.hi ∷ [])) → e ≡ d ++ lines_text (flat_map loop_lines s.loops) → f ≡ e ++ codes "end\n"
    → f ≡ shard_text s
unfolding line_text
whole_text s a b c d e f ha hb hc hd he hf =
    let columns = lines_text (map FileLine.Column s.columns) in
    let loops = lines_text (flat_map loop_lines s.loops) in
    let tail = FileLine.Span s.lo s.hi ∷ (flat_map loop_lines s.loops ++ FileLine.End ∷ []) in
    hf ∙ ap (λ t. t ++ codes "end\n") (he ∙ ap (λ t. t ++ loops) (hd ∙ ap (λ t. t ++ line_text (FileLine.Span s.lo s.hi)) (hc ∙ ap (λ t. t ++ columns) (hb ∙ ap (λ t. t ++ line_text (FileLine.Table s.entries s.clusters)) ha))))
    ∙ append_assoc ((((codes "rdfshard 1\n" ++ line_text (FileLine.Table s.entries s.clusters)) ++ columns) ++ line_text (FileLine.Span s.lo s.hi))) loops (codes "end\n")
    ∙ append_assoc ((codes "rdfshard 1\n" ++ line_text (FileLine.Table s.entries s.clusters)) ++ columns) (line_text (FileLine.Span s.lo s.hi)) (loops ++ codes "end\n")
    ∙ append_assoc (codes "rdfshard 1\n" ++ line_text (FileLine.Table s.entries s.clusters)) columns (line_text (FileLine.Span s.lo s.hi) ++ (loops ++ codes "end\n"))
    ∙ append_assoc (codes "rdfshard 1\n") (line_text (FileLine.Table s.entries s.clusters)) (columns ++ (line_text (FileLine.Span s.lo s.hi) ++ (loops ++ codes "end\n")))
    ∙ ap (λ t. codes "rdfshard 1\n" ++ (line_text (FileLine.Table s.entries s.clusters) ++ t))
    (ap (λ t. columns ++ (line_text (FileLine.Span s.lo s.hi) ++ t)) (ap (λ t. loops ++ t) (sym (one_line FileLine.End)) ∙ sym (joins line_text (flat_map loop_lines s.loops) (FileLine.End ∷ []))) ∙ sym (joins line_text (map FileLine.Column s.columns) tail))
