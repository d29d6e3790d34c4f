-- A text is split into lines, and a line into words, in one way.
use Rattle.lemmas.proofs.{◌≡◌, ◌≢◌, ◌<◌, ℕ, Bool, true, false, ◌&&◌, List, [], ◌∷◌, ◌++◌, length, map, flat_map, refl, ap, ap₂, ◌∙◌, sym, arith, append_assoc, codes, ◌==◌, nat_le, not, and_left, and_right, join_with_byte-slice_split, list_all, nat_tests}
use Rattle.rdf_values.specs.{AreColumns, ColType, Column, is_name, is_word, is_word_byte, is_word_start, same}
use Rattle.shard_lines.specs.{EachFits, FitLines, joined_words, ShardLine, words_in}
use Rattle.shard_lines.proofs.Plain.{AllPlain, Plain, decimal_plain, line_plain, line_some, words_found, written}
use Rattle.shard_files.specs.Endless.{Endless}
use Rattle.shard_files.specs.{fault_number, file_lines, FitLoops, IsShard, kind_word, line_text, lines_text, loop_lines, shard_limits, ShardLoop, ShardView, words_of}
use Rattle.shard_files.specs.declared.file_line.FileLine.{FileLine}
use Rattle.shard_files.specs.declared.shard_loop.ShardLoop.TheVariants.{Whole, Faulted}
use Rattle.shard_files.proofs.FileLines.{FitsFileLine, same_line}

-- ---- words are plain

word_byte : (b : ℕ) → is_word_byte b ≡ true → 32 < b
word_byte b e = grind (arith, nat_tests)

word_start : (b : ℕ) → is_word_start b ≡ true → 32 < b
word_start b e = grind (arith, nat_tests)

word_bytes : (bs : List ℕ) → list_all is_word_byte bs ≡ true → Plain bs
word_bytes [] h = tt
word_bytes (b ∷ bs) h = (word_byte b (and_left (is_word_byte b) (list_all is_word_byte bs) h), word_bytes bs (and_right (is_word_byte b) (list_all is_word_byte bs) h))

word_plain : (name : List ℕ) → is_word name ≡ true → Plain name
word_plain [] h = tt
word_plain (b ∷ bs) h = (word_start b (and_left (is_word_start b) (list_all is_word_byte bs) h), word_bytes bs (and_right (is_word_start b) (list_all is_word_byte bs) h))

pub name_plain : (name : List ℕ) → is_name name ≡ true → Plain name
unfolding is_name
name_plain name h =
    word_plain name (and_left (is_word name) (nat_le (length name) 64)
    (and_left (is_word name && nat_le (length name) 64) (not (same name (codes "true"))) (and_left (is_word name && nat_le (length name) 64 && not (same name (codes "true"))) (not (same name (codes "false"))) h)))

pub kind_plain : (t : ColType) → Plain (kind_word t)
kind_plain ColType.Int = written (codes "int") refl
kind_plain ColType.Bool = written (codes "bool") refl
kind_plain ColType.Vect = written (codes "vec") refl

file_plain : (l : FileLine) → FitsFileLine l → AllPlain (words_of l)
file_plain FileLine.Version h = (written (codes "rdfshard") refl, (written (codes "1") refl, tt))
file_plain (FileLine.Table e c) h = (written (codes "table") refl, (decimal_plain e, (decimal_plain c, tt)))
file_plain (FileLine.Column c) h = (written (codes "column") refl, (name_plain c.name h.0, (kind_plain c.kind, tt)))
file_plain (FileLine.Span lo hi) h = (written (codes "span") refl, (decimal_plain lo, (decimal_plain hi, tt)))
file_plain FileLine.Loop h = (written (codes "loop") refl, tt)
file_plain (FileLine.Pass l) h = line_plain l
file_plain (FileLine.Fault f) h = (written (codes "fault") refl, (decimal_plain f.entry, (decimal_plain f.pass, (decimal_plain (fault_number f.kind), tt))))
file_plain FileLine.End h = (written (codes "end") refl, tt)

file_some : (l : FileLine) → words_of l ≢ []
file_some FileLine.Version e = cc e
file_some (FileLine.Table a b) e = cc e
file_some (FileLine.Column c) e = cc e
file_some (FileLine.Span lo hi) e = cc e
file_some FileLine.Loop e = cc e
file_some (FileLine.Pass l) e = line_some l e
file_some (FileLine.Fault f) e = cc e
file_some FileLine.End e = cc e

-- the words of a line are found again
pub found_again : (l : FileLine) → FitsFileLine l → words_in (joined_words (words_of l)) ≡ words_of l
found_again l f = words_found (words_of l) (file_some l) (file_plain l f)

-- words are joined to the text that they were found in
pub joined_again : (text : List ℕ) → joined_words (words_in text) ≡ text
joined_again text = join_with_byte-slice_split 32 text

-- ---- ends of lines

no_end : (b : ℕ) → 32 < b → (b == 10) ≡ false
no_end b h = grind (arith, nat_tests)

endless_word : (w rest : List ℕ) → Plain w → Endless rest → Endless (w ++ rest)
endless_word [] rest p h = h
endless_word (b ∷ bs) rest p h = (no_end b p.0, endless_word bs rest p.1 h)

pub endless_words : (ws : List (List ℕ)) → AllPlain ws → Endless (joined_words ws)
endless_words [] h = tt
endless_words (w ∷ []) h = endless_alone w h.0
  where
    endless_alone : (w : List ℕ) → Plain w → Endless w
    endless_alone [] p = tt
    endless_alone (b ∷ bs) p = (no_end b p.0, endless_alone bs p.1)
endless_words (w ∷ v ∷ ws) h = endless_word w (32 ∷ joined_words (v ∷ ws)) h.0 (refl, endless_words (v ∷ ws) h.1)

pub endless_line : (l : FileLine) → FitsFileLine l → Endless (joined_words (words_of l))
endless_line l f = endless_words (words_of l) (file_plain l f)

-- a line ends at the first end
pub ends_same : (t u r s : List ℕ) → Endless t → Endless u → t ++ 10 ∷ r ≡ u ++ 10 ∷ s → (t ≡ u) × (r ≡ s)
ends_same [] [] r s p q h = (refl, cc h)
ends_same [] (b ∷ u) r s p q h = let same : 10 ≡ b = cc h in absurd (let no = q.0 in grind (arith, nat_tests))
ends_same (b ∷ t) [] r s p q h = let same : b ≡ 10 = cc h in absurd (let no = p.0 in grind (arith, nat_tests))
ends_same (b ∷ t) (d ∷ u) r s p q h =
    let first : b ≡ d = cc h in
    let rest : t ++ 10 ∷ r ≡ u ++ 10 ∷ s = cc h in
    let on = ends_same t u r s p.1 q.1 rest in
    (ap₂ (λ x xs. x ∷ xs) first on.0, on.1)

-- bytes without an end have no line
pub no_line : (bytes t r : List ℕ) → Endless bytes → bytes ≡ t ++ 10 ∷ r → ⊥
no_line [] [] r p h = cc h
no_line [] (b ∷ t) r p h = cc h
no_line (b ∷ bytes) [] r p h = let same : b ≡ 10 = cc h in absurd (let no = p.0 in grind (arith, nat_tests))
no_line (b ∷ bytes) (d ∷ t) r p h = let rest : bytes ≡ t ++ 10 ∷ r = cc h in no_line bytes t r p.1 rest

pub text_is : (l : FileLine) (r : List ℕ) → line_text l ++ r ≡ joined_words (words_of l) ++ 10 ∷ r
unfolding line_text
text_is l r = append_assoc (joined_words (words_of l)) (10 ∷ []) r

-- ---- the lines of a text

abbrev pub AllFit : List FileLine → Type 0
AllFit ls = EachFits FitsFileLine ls

one_line : (l m : FileLine) (r s : List ℕ) → FitsFileLine l → FitsFileLine m → line_text l ++ r ≡ line_text m ++ s → (l ≡ m) × (r ≡ s)
one_line l m r s f g h =
    let ends = ends_same (joined_words (words_of l)) (joined_words (words_of m)) r s (endless_line l f) (endless_line m g) (sym (text_is l r) ∙ h ∙ text_is m s) in
    (same_line l m f g (sym (found_again l f) ∙ ap words_in ends.0 ∙ found_again m g), ends.1)

pub nothing : (l : FileLine) (r : List ℕ) → [] ≡ line_text l ++ r → ⊥
nothing l r h = by (joined_words (words_of l)) (h ∙ text_is l r)
  where
    by : (t : List ℕ) → [] ≡ t ++ 10 ∷ r → ⊥
    by [] e = cc e
    by (x ∷ t) e = cc e

-- lines at the beginning of a text are its first lines
pub begins_with : (ls before : List FileLine) (rest : List ℕ) → AllFit ls → AllFit before → lines_text ls ≡ lines_text before ++ rest → (more : List FileLine) × (ls ≡ before ++ more) × (rest ≡ lines_text more) × AllFit more
begins_with ls [] rest f g h = (ls, refl, sym h, f)
begins_with [] (m ∷ before) rest f g h = absurd (nothing m (lines_text before ++ rest) (h ∙ append_assoc (line_text m) (lines_text before) rest))
begins_with (l ∷ ls) (m ∷ before) rest f g h =
    let ends = one_line l m (lines_text ls) (lines_text before ++ rest) f.0 g.0 (h ∙ append_assoc (line_text m) (lines_text before) rest) in
    let on = begins_with ls before rest f.1 g.1 ends.1 in
    (on.0, ap₂ (λ x xs. x ∷ xs) ends.0 on.1, on.2, on.3)

-- ---- the lines of a shard are within the limits

fit_append : (ls ms : List FileLine) → AllFit ls → AllFit ms → AllFit (ls ++ ms)
fit_append [] ms f g = g
fit_append (l ∷ ls) ms f g = (f.0, fit_append ls ms f.1 g)

pub fit_front : (ls ms : List FileLine) → AllFit (ls ++ ms) → AllFit ls
fit_front [] ms f = tt
fit_front (l ∷ ls) ms f = (f.0, fit_front ls ms f.1)

pub fit_last : (ls : List FileLine) (l : FileLine) → AllFit (ls ++ l ∷ []) → FitsFileLine l
fit_last [] l f = f.0
fit_last (m ∷ ls) l f = fit_last ls l f.1

columns_fit : (seen cs : List Column) → AreColumns seen cs → list_all (λ (c : Column). is_name c.name) cs ≡ true → AllFit (map FileLine.Column cs)
columns_fit seen [] a h = tt
columns_fit seen (c ∷ cs) a h =
    ((and_left (is_name c.name) (list_all (λ (d : Column). is_name d.name) cs) h, a.1), columns_fit (seen ++ c ∷ []) cs a.2 (and_right (is_name c.name) (list_all (λ (d : Column). is_name d.name) cs) h))

passes_fit : (ls : List ShardLine) → FitLines shard_limits ls → AllFit (map FileLine.Pass ls)
passes_fit [] h = tt
passes_fit (l ∷ ls) h = (h.0, passes_fit ls h.1)

loops_fit : (ls : List ShardLoop) → FitLoops ls → AllFit (flat_map loop_lines ls)
loops_fit [] h = tt
loops_fit (Whole ms ∷ ls) h = (tt, fit_append (map FileLine.Pass ms) (flat_map loop_lines ls) (passes_fit ms h.1) (loops_fit ls h.2))
loops_fit (Faulted f ∷ []) h = (tt, (h, tt))
loops_fit (Faulted f ∷ l ∷ ls) h = absurd h

pub lines_fit : (s : ShardView) → IsShard s → AllFit (file_lines s)
lines_fit s v =
    let most = v.clusters in
    let high = v.within in
    let low = v.span in
    let header = v.header in (
      tt,
      (
        (v.entries, v.clusters),
        fit_append (map FileLine.Column s.columns) (FileLine.Span s.lo s.hi ∷ (flat_map loop_lines s.loops ++ FileLine.End ∷ [])) (columns_fit [] s.columns header.distinct v.named)
            ((omega arith, omega arith), fit_append (flat_map loop_lines s.loops) (FileLine.End ∷ []) (loops_fit s.loops v.loops) (tt, tt)),
      ),
    )
