-- A text is split into lines, and a line into words, in one way.
use Rattle.lemmas.proofs.{◌≡◌, ◌≢◌, ◌≤◌, ◌<◌, ℕ, true, List, [], ◌∷◌, ◌++◌, length, map, flat_map, refl, ap, ap₂, ◌∙◌, sym, arith, append_assoc, codes, nat_eq, and_left, and_right, list_all, nat_tests}
use Rattle.rdf_values.specs.{AreColumns, Column, is_name}
use Rattle.shard_lines.specs.{EachFits, FitLines, joined_words, ShardLine, words_in}
use Rattle.shard_lines.proofs.Plain.{AllPlain, Plain, decimal_plain, line_plain, line_some, words_found, written}
use Rattle.shard_files.specs.Endless.{Endless}
use Rattle.shard_files.specs.{fault_number}
use Rattle.shard_files.proofs.Splitting.{ends_same, endless_words, kind_plain, name_plain}
use Rattle.chain_files.specs.{FitLoops, is_digest, is_hex, IsPart, line_text, lines_text, loop_lines, part_limits, part_lines, PartLoop, PartView, words_of}
use Rattle.chain_files.specs.declared.part_line.PartLine.{PartLine}
use Rattle.chain_files.specs.declared.part_loop.PartLoop.TheVariants.{Whole, Faulted}
use Rattle.chain_files.proofs.PartLines.{FitsPartLine, same_line}
use Rattle.chain_files.proofs.Within.{lines_grow}

-- ---- words are plain

hex_plain : (b : ℕ) → is_hex b ≡ true → 32 < b
hex_plain b e = grind (arith, nat_tests)

hexes_plain : (bs : List ℕ) → list_all is_hex bs ≡ true → Plain bs
hexes_plain [] h = tt
hexes_plain (b ∷ bs) h = (hex_plain b (and_left (is_hex b) (list_all is_hex bs) h), hexes_plain bs (and_right (is_hex b) (list_all is_hex bs) h))

digest_plain : (w : List ℕ) → is_digest w ≡ true → Plain w
digest_plain w h = hexes_plain w (and_right (nat_eq (length w) 16) (list_all is_hex w) h)

part_plain : (l : PartLine) → FitsPartLine l → AllPlain (words_of l)
part_plain PartLine.Version h = (written (codes "rdfpart") refl, (written (codes "1") refl, tt))
part_plain (PartLine.Files a b) h = (written (codes "files") refl, (decimal_plain a, (decimal_plain b, tt)))
part_plain (PartLine.Entries n) h = (written (codes "entries") refl, (decimal_plain n, tt))
part_plain (PartLine.Script w) h = (written (codes "script") refl, (digest_plain w h, tt))
part_plain (PartLine.Column c) h = (written (codes "column") refl, (name_plain c.name h.0, (kind_plain c.kind, tt)))
part_plain PartLine.Loop h = (written (codes "loop") refl, tt)
part_plain (PartLine.Pass l) h = line_plain l
part_plain (PartLine.Fault f) h = (written (codes "fault") refl, (decimal_plain f.file, (decimal_plain f.entry, (decimal_plain f.pass, (decimal_plain (fault_number f.kind), tt)))))
part_plain PartLine.End h = (written (codes "end") refl, tt)

part_some : (l : PartLine) → words_of l ≢ []
part_some PartLine.Version e = cc e
part_some (PartLine.Files a b) e = cc e
part_some (PartLine.Entries n) e = cc e
part_some (PartLine.Script w) e = cc e
part_some (PartLine.Column c) e = cc e
part_some PartLine.Loop e = cc e
part_some (PartLine.Pass l) e = line_some l e
part_some (PartLine.Fault f) e = cc e
part_some PartLine.End e = cc e

-- the words of a line are found again
pub found_again : (l : PartLine) → FitsPartLine l → words_in (joined_words (words_of l)) ≡ words_of l
found_again l f = words_found (words_of l) (part_some l) (part_plain l f)

-- ---- ends of lines

pub endless_line : (l : PartLine) → FitsPartLine l → Endless (joined_words (words_of l))
endless_line l f = endless_words (words_of l) (part_plain l f)

pub text_is : (l : PartLine) (r : List ℕ) → line_text l ++ r ≡ joined_words (words_of l) ++ 10 ∷ r
unfolding line_text
text_is l r = append_assoc (joined_words (words_of l)) (10 ∷ []) r

-- ---- the lines of a text

abbrev pub AllFit : List PartLine → Type 0
AllFit ls = EachFits FitsPartLine ls

one_line : (l m : PartLine) (r s : List ℕ) → FitsPartLine l → FitsPartLine m → line_text l ++ r ≡ line_text m ++ s → (l ≡ m) × (r ≡ s)
one_line l m r s f g h =
    let ends = ends_same (joined_words (words_of l)) (joined_words (words_of m)) r s (endless_line l f) (endless_line m g) (sym (text_is l r) ∙ h ∙ text_is m s) in
    (same_line l m f g (sym (found_again l f) ∙ ap words_in ends.0 ∙ found_again m g), ends.1)

pub nothing : (l : PartLine) (r : List ℕ) → [] ≡ line_text l ++ r → ⊥
nothing l r h = by (joined_words (words_of l)) (h ∙ text_is l r)
  where
    by : (t : List ℕ) → [] ≡ t ++ 10 ∷ r → ⊥
    by [] e = cc e
    by (x ∷ t) e = cc e

-- lines at the beginning of a text are its first lines
pub begins_with : (ls before : List PartLine) (rest : List ℕ) → AllFit ls → AllFit before → lines_text ls ≡ lines_text before ++ rest → (more : List PartLine) × (ls ≡ before ++ more) × (rest ≡ lines_text more) × AllFit more
begins_with ls [] rest f g h = (ls, refl, sym h, f)
begins_with [] (m ∷ before) rest f g h = absurd (nothing m (lines_text before ++ rest) (h ∙ append_assoc (line_text m) (lines_text before) rest))
begins_with (l ∷ ls) (m ∷ before) rest f g h =
    let ends = one_line l m (lines_text ls) (lines_text before ++ rest) f.0 g.0 (h ∙ append_assoc (line_text m) (lines_text before) rest) in
    let on = begins_with ls before rest f.1 g.1 ends.1 in
    (on.0, ap₂ (λ x xs. x ∷ xs) ends.0 on.1, on.2, on.3)

-- ---- the lines of a part are within the limits

fit_append : (ls ms : List PartLine) → AllFit ls → AllFit ms → AllFit (ls ++ ms)
fit_append [] ms f g = g
fit_append (l ∷ ls) ms f g = (f.0, fit_append ls ms f.1 g)

pub fit_front : (ls ms : List PartLine) → AllFit (ls ++ ms) → AllFit ls
fit_front [] ms f = tt
fit_front (l ∷ ls) ms f = (f.0, fit_front ls ms f.1)

pub fit_last : (ls : List PartLine) (l : PartLine) → AllFit (ls ++ l ∷ []) → FitsPartLine l
fit_last [] l f = f.0
fit_last (m ∷ ls) l f = fit_last ls l f.1

columns_fit : (seen cs : List Column) → AreColumns seen cs → list_all (λ (c : Column). is_name c.name) cs ≡ true → AllFit (map PartLine.Column cs)
columns_fit seen [] a h = tt
columns_fit seen (c ∷ cs) a h =
    ((and_left (is_name c.name) (list_all (λ (d : Column). is_name d.name) cs) h, a.1), columns_fit (seen ++ c ∷ []) cs a.2 (and_right (is_name c.name) (list_all (λ (d : Column). is_name d.name) cs) h))

module _ (first end n : ℕ) (low : end ≤ 16777216) (few : n ≤ 16777216000000) where
  passes_fit : (ls : List ShardLine) → FitLines (part_limits n) ls → AllFit (map PartLine.Pass ls)
  passes_fit ls h = by ls (lines_grow n ls few h)
    where
      by : (ls : List ShardLine) → EachFits (λ l. FitsPartLine (PartLine.Pass l)) ls → AllFit (map PartLine.Pass ls)
      by [] h = tt
      by (l ∷ ls) h = (h.0, by ls h.1)

  loops_fit : (ls : List PartLoop) → FitLoops first end n ls → AllFit (flat_map loop_lines ls)
  loops_fit [] h = tt
  loops_fit (Whole ms ∷ ls) h = (tt, fit_append (map PartLine.Pass ms) (flat_map loop_lines ls) (passes_fit ms h.1) (loops_fit ls h.2))
  loops_fit (Faulted f ∷ []) h = let below = h.1 in (tt, ((omega arith, h.2, h.3), tt))
  loops_fit (Faulted f ∷ l ∷ ls) h = absurd h

pub few_entries : (s : PartView) → IsPart s → s.entries ≤ 16777216000000
few_entries s v =
    let most = v.within in
    let entries = v.entries in
    omega arith

pub lines_fit : (s : PartView) → IsPart s → AllFit (part_lines s)
lines_fit s v =
    let most = v.within in
    let files = v.files in
    let header = v.header in
    let few = few_entries s v in (
      tt,
      (
        (omega arith, most),
        (
          few,
          (
            v.digest,
            fit_append (map PartLine.Column s.columns) (flat_map loop_lines s.loops ++ PartLine.End ∷ []) (columns_fit [] s.columns header.distinct v.named)
                (fit_append (flat_map loop_lines s.loops) (PartLine.End ∷ []) (loops_fit s.first_file s.end_file s.entries most few s.loops v.loops) (tt, tt)),
          ),
        ),
      ),
    )
