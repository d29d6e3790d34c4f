-- Texts of lines.
use Rattle.lemmas.proofs.{◌≡◌, ℕ, List, [], ◌∷◌, ◌++◌, map, ap, ◌∙◌, sym, append_assoc, append-nil, codes, refl, flat_map}
use Rattle.shard_lines.proofs.Runs.{joins}
use Rattle.chain_files.specs.{head_lines, line_text, lines_text, loop_lines, part_text, PartView}
use Rattle.chain_files.specs.declared.part_line.PartLine.{PartLine}
use Rattle.rdf_values.specs.{line}

-- words and the end of their line
pub line_on : (t a b : List ℕ) (w : List ℕ) → a ≡ t ++ w → b ≡ a ++ 10 ∷ [] → b ≡ t ++ line w
line_on t a b w h k = k ∙ ap (λ z. z ++ 10 ∷ []) h ∙ append_assoc t w (10 ∷ [])

-- ---- lines

pub one_line : (l : PartLine) → lines_text (l ∷ []) ≡ line_text l
one_line l = append-nil (line_text l)

-- lines behind that of a loop
pub behind_loop : (t a b : List ℕ) (ls : List PartLine) → a ≡ t ++ codes "loop\n" → b ≡ a ++ lines_text ls → b ≡ t ++ lines_text (PartLine.Loop ∷ ls)
unfolding line_text
behind_loop t a b ls h k = k ∙ ap (λ z. z ++ lines_text ls) h ∙ append_assoc t (codes "loop\n") (lines_text ls)

-- ---- the whole text

lines_on : (ls ms : List PartLine) (t u : List ℕ) → t ≡ lines_text ls → u ≡ t ++ lines_text ms → u ≡ lines_text (ls ++ ms)
lines_on ls ms t u h k = k ∙ ap (λ z. z ++ lines_text ms) h ∙ sym (joins line_text ls ms)

line_behind : (ls : List PartLine) (l : PartLine) (t u : List ℕ) → t ≡ lines_text ls → u ≡ t ++ line_text l → u ≡ lines_text (ls ++ l ∷ [])
line_behind ls l t u h k = lines_on ls (l ∷ []) t u h (k ∙ ap (λ z. t ++ z) (sym (one_line l)))

version_text : codes "rdfpart 1\n" ≡ lines_text (PartLine.Version ∷ [])
unfolding line_text
version_text = refl

end_text : codes "end\n" ≡ lines_text (PartLine.End ∷ [])
unfolding line_text
end_text = refl

pub whole_text : (s : PartView) (a b c d e f g : List ℕ) → a ≡ codes "rdfpart 1\n" → b ≡ a ++ line_text (PartLine.Files s.first_file s.end_file) → c ≡ b ++ line_text (PartLine.Entries s.entries)
    → d ≡ c ++ line_text (PartLine.Script s.script) → e ≡ d ++ lines_text (map PartLine.Column s.columns) → f ≡ e ++ lines_text (flat_map loop_lines s.loops) → g ≡ f ++ codes "end\n" → g ≡ part_text s
whole_text s a b c d e f g ha hb hc hd he hf hg =
    let files = PartLine.Files s.first_file s.end_file in
    let entries = PartLine.Entries s.entries in
    let script = PartLine.Script s.script in
    let columns = map PartLine.Column s.columns in
    let loops = flat_map loop_lines s.loops in
    let qa : a ≡ lines_text (PartLine.Version ∷ []) = ha ∙ version_text in
    let qb = line_behind (PartLine.Version ∷ []) files a b qa hb in
    let qc = line_behind (PartLine.Version ∷ files ∷ []) entries b c qb hc in
    let qd = line_behind (PartLine.Version ∷ files ∷ entries ∷ []) script c d qc hd in
    let qe = lines_on (PartLine.Version ∷ files ∷ entries ∷ script ∷ []) columns d e qd he in
    let qf = lines_on (head_lines s) loops e f qe hf in
    let qg = lines_on (head_lines s ++ loops) (PartLine.End ∷ []) f g qf (hg ∙ ap (λ z. f ++ z) end_text) in
    qg ∙ ap lines_text (append_assoc (head_lines s) loops (PartLine.End ∷ []))
