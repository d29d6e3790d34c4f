-- Lines of a part file are read back from their words, and from nothing else.
use Rattle.lemmas.proofs.{◌≡◌, ◌≤◌, ◌<◌, ℕ, Bool, true, false, Option, None, Some, List, [], ◌∷◌, refl, ap, ap₂, ◌∙◌, sym, subst, arith, codes, decimal, if◌then◌else◌, option_map}
use Rattle.rdf_values.specs.{ColType, EntryFault, is_name, IsStored, magnitude_of, same}
use Rattle.shard_lines.specs.{AreLimits, both_of, FitsLine, line_of_words, line_words, lone, ShardLine}
use Rattle.shard_lines.proofs.ReadBack.{both_say, count_reads, count_says, lines_read_back, mapped, read_lines_fit, same_says}
use Rattle.shard_files.specs.{fault_kind_of, fault_number, name_of, stored_kind_of}
use Rattle.shard_files.proofs.FileLines.{fault_reads, fault_says, kind_reads, kind_says, name_says}
use Rattle.chain_files.specs.{bare, ChainFault, column_of_words, entries_of_word, fault_from, fault_of_words, files_of_words, four_of, is_digest, part_line_behind, part_line_by, part_line_of, part_word_of, script_of_word, two_of, version_of_word, widest, words_of}
use Rattle.chain_files.specs.declared.part_line.PartLine.{PartLine}
use Rattle.chain_files.specs.declared.part_word.PartWord.{PartWord}

pub are_limits : AreLimits widest
are_limits = record { count = omega arith; sum = omega arith; cell_sum = omega arith; cell_squares = omega arith }

-- a fault that a part may have somewhere
abbrev pub FitsChainFault : ChainFault → Type 0
FitsChainFault f = (f.file < 16777216) × (f.entry < 1000000) × (f.pass < 8256)

-- a line that a part may have somewhere
abbrev pub FitsPartLine : PartLine → Type 0
FitsPartLine PartLine.Version = Unit {0}
FitsPartLine (PartLine.Files first end) = (first ≤ 16777216) × (end ≤ 16777216)
FitsPartLine (PartLine.Entries n) = n ≤ 16777216000000
FitsPartLine (PartLine.Script w) = is_digest w ≡ true
FitsPartLine (PartLine.Column c) = (is_name c.name ≡ true) × IsStored c.kind
FitsPartLine PartLine.Loop = Unit {0}
FitsPartLine (PartLine.Pass l) = FitsLine widest l
FitsPartLine (PartLine.Fault f) = FitsChainFault f
FitsPartLine PartLine.End = Unit {0}

-- ---- lines are read back

pass_reads : (l : ShardLine) → FitsLine widest l → part_line_of (line_words l) ≡ Some (PartLine.Pass l)
pass_reads (ShardLine.Count n) h = ap (option_map PartLine.Pass) (lines_read_back widest (ShardLine.Count n) are_limits h)
pass_reads (ShardLine.Sum z) h = ap (option_map PartLine.Pass) (lines_read_back widest (ShardLine.Sum z) are_limits h)
pass_reads (ShardLine.Number z) h = ap (option_map PartLine.Pass) (lines_read_back widest (ShardLine.Number z) are_limits h)
pass_reads (ShardLine.Extreme z) h = ap (option_map PartLine.Pass) (lines_read_back widest (ShardLine.Extreme z) are_limits h)
pass_reads (ShardLine.Take xs) h = ap (option_map PartLine.Pass) (lines_read_back widest (ShardLine.Take xs) are_limits h)
pass_reads (ShardLine.Cells cs) h = ap (option_map PartLine.Pass) (lines_read_back widest (ShardLine.Cells cs) are_limits h)
pass_reads (ShardLine.Report cs) h = ap (option_map PartLine.Pass) (lines_read_back widest (ShardLine.Report cs) are_limits h)

pub part_reads : (l : PartLine) → FitsPartLine l → part_line_of (words_of l) ≡ Some l
part_reads PartLine.Version h = refl
part_reads (PartLine.Files a b) h = ap₂ (both_of (λ (x y : ℕ). PartLine.Files x y)) (count_reads 16777216 a (omega arith) h.0) (count_reads 16777216 b (omega arith) h.1)
part_reads (PartLine.Entries n) h = ap (option_map (λ (x : ℕ). PartLine.Entries x)) (count_reads 16777216000000 n (omega arith) h)
part_reads (PartLine.Script w) h = ap (λ b. if b then Some (PartLine.Script w) else None) h
part_reads (PartLine.Column c) h =
    ap₂ (both_of (λ (name : List ℕ) (kind : ColType). PartLine.Column (record { name = name; kind = kind }))) (ap (λ b. if b then Some c.name else None) h.0) (kind_reads c.kind h.1)
part_reads PartLine.Loop h = refl
part_reads (PartLine.Pass l) h = pass_reads l h
part_reads (PartLine.Fault f) h =
    let file = h.0 in
    let entry = h.1 in
    let number = h.2 in
    let kind = fault_kind_of (decimal (fault_number f.kind)) in
    ap (λ o. fault_from o (magnitude_of 999999 (decimal f.entry)) (magnitude_of 8255 (decimal f.pass)) kind) (count_reads 16777215 f.file (omega arith) (omega arith))
    ∙ ap₂ (λ e n. fault_from (Some f.file) e n kind) (count_reads 999999 f.entry (omega arith) (omega arith)) (count_reads 8255 f.pass (omega arith) (omega arith))
    ∙ ap (fault_from (Some f.file) (Some f.entry) (Some f.pass)) (fault_reads f.kind)
part_reads PartLine.End h = refl

-- two lines of the same words are one
pub same_line : (l m : PartLine) → FitsPartLine l → FitsPartLine m → words_of l ≡ words_of m → l ≡ m
same_line l m h g e = let both : Some l ≡ Some m = sym (part_reads l h) ∙ ap part_line_of e ∙ part_reads m g in cc both

-- ---- what is read as a line is its words

abbrev Says : List (List ℕ) → PartLine → Type 0
Says ws l = (words_of l ≡ ws) × FitsPartLine l

lone_say : (read : List ℕ → Option PartLine) (ws : List (List ℕ)) (l : PartLine) → lone read ws ≡ Some l → (w : List ℕ) × (ws ≡ w ∷ []) × (read w ≡ Some l)
lone_say read [] l h = cc h
lone_say read (w ∷ []) l h = (w, refl, h)
lone_say read (w ∷ v ∷ ws) l h = cc h

two_say : (read : List ℕ → List ℕ → Option PartLine) (ws : List (List ℕ)) (l : PartLine) → two_of read ws ≡ Some l → (w : List ℕ) × (v : List ℕ) × (ws ≡ w ∷ v ∷ []) × (read w v ≡ Some l)
two_say read [] l h = cc h
two_say read (w ∷ []) l h = cc h
two_say read (w ∷ v ∷ []) l h = (w, v, refl, h)
two_say read (w ∷ v ∷ u ∷ ws) l h = cc h

four_say : (read : List ℕ → List ℕ → List ℕ → List ℕ → Option PartLine) (ws : List (List ℕ)) (l : PartLine) → four_of read ws ≡ Some l
    → (w : List ℕ) × (v : List ℕ) × (u : List ℕ) × (t : List ℕ) × (ws ≡ w ∷ v ∷ u ∷ t ∷ []) × (read w v u t ≡ Some l)
four_say read [] l h = cc h
four_say read (w ∷ []) l h = cc h
four_say read (w ∷ v ∷ []) l h = cc h
four_say read (w ∷ v ∷ u ∷ []) l h = cc h
four_say read (w ∷ v ∷ u ∷ t ∷ []) l h = (w, v, u, t, refl, h)
four_say read (w ∷ v ∷ u ∷ t ∷ s ∷ ws) l h = cc h

fault_parts : (i o p : Option ℕ) (q : Option EntryFault) (l : PartLine) → fault_from i o p q ≡ Some l
    → (f : ℕ) × (entry : ℕ) × (number : ℕ) × (kind : EntryFault) × (i ≡ Some f) × (o ≡ Some entry) × (p ≡ Some number) × (q ≡ Some kind) × (PartLine.Fault (record { file = f; entry = entry; pass = number; kind = kind }) ≡ l)
fault_parts None o p q l h = cc h
fault_parts (Some f) None p q l h = cc h
fault_parts (Some f) (Some e) None q l h = cc h
fault_parts (Some f) (Some e) (Some n) None l h = cc h
fault_parts (Some f) (Some e) (Some n) (Some k) l h = (f, e, n, k, refl, refl, refl, refl, cc h)

abbrev part_word : PartWord → List ℕ
part_word PartWord.Version = codes "rdfpart"
part_word PartWord.Files = codes "files"
part_word PartWord.Entries = codes "entries"
part_word PartWord.Script = codes "script"
part_word PartWord.Column = codes "column"
part_word PartWord.Loop = codes "loop"
part_word PartWord.Fault = codes "fault"
part_word PartWord.End = codes "end"

chosen : (w v : List ℕ) (k r : PartWord) (rest : Option PartWord) → part_word k ≡ v → (rest ≡ Some r → part_word r ≡ w) → (if same w v then Some k else rest) ≡ Some r → part_word r ≡ w
chosen w v k r rest e f h = by (same w v) refl h
  where
    by : (b : Bool) → same w v ≡ b → (if b then Some k else rest) ≡ Some r → part_word r ≡ w
    by true s h = let is : k ≡ r = cc h in ap part_word (sym is) ∙ e ∙ sym (same_says w v s)
    by false s h = f h

word_says : (w : List ℕ) (k : PartWord) → part_word_of w ≡ Some k → part_word k ≡ w
word_says w k h =
    chosen w (codes "rdfpart") PartWord.Version k _ refl
    (chosen w (codes "files") PartWord.Files k _ refl
    (chosen w (codes "entries") PartWord.Entries k _ refl
    (chosen w (codes "script") PartWord.Script k _ refl
    (chosen w (codes "column") PartWord.Column k _ refl
    (chosen w (codes "loop") PartWord.Loop k _ refl (chosen w (codes "fault") PartWord.Fault k _ refl (chosen w (codes "end") PartWord.End k None refl (λ (e : None ≡ Some k). cc e)))))))) h

version_says : (w : List ℕ) (l : PartLine) → version_of_word w ≡ Some l → Says (codes "rdfpart" ∷ w ∷ []) l
version_says w l h = by (same w (codes "1")) refl h
  where
    by : (b : Bool) → same w (codes "1") ≡ b → (if b then Some PartLine.Version else None) ≡ Some l → Says (codes "rdfpart" ∷ w ∷ []) l
    by true e h = let is : PartLine.Version ≡ l = cc h in subst (Says (codes "rdfpart" ∷ w ∷ [])) is (ap (λ v. codes "rdfpart" ∷ v ∷ []) (sym (same_says w (codes "1") e)), tt)
    by false e h = cc h

script_says : (w : List ℕ) (l : PartLine) → script_of_word w ≡ Some l → Says (codes "script" ∷ w ∷ []) l
script_says w l h = by (is_digest w) refl h
  where
    by : (b : Bool) → is_digest w ≡ b → (if b then Some (PartLine.Script w) else None) ≡ Some l → Says (codes "script" ∷ w ∷ []) l
    by true e h = let is : PartLine.Script w ≡ l = cc h in subst (Says (codes "script" ∷ w ∷ [])) is (refl, e)
    by false e h = cc h

bare_says : (line l : PartLine) (ws : List (List ℕ)) → bare line ws ≡ Some l → (ws ≡ []) × (line ≡ l)
bare_says line l [] h = (refl, cc h)
bare_says line l (w ∷ ws) h = cc h

behind_says : (k : PartWord) (ws : List (List ℕ)) (l : PartLine) → part_line_behind k ws ≡ Some l → Says (part_word k ∷ ws) l
behind_says PartWord.Version ws l h = let one = lone_say version_of_word ws l h in subst (λ (t : List (List ℕ)). Says (codes "rdfpart" ∷ t) l) (sym one.1) (version_says one.0 l one.2)
behind_says PartWord.Files ws l h =
    let two = two_say files_of_words ws l h in
    let parts = both_say (λ (x y : ℕ). PartLine.Files x y) (magnitude_of 16777216 two.0) (magnitude_of 16777216 two.1) l two.3 in
    let one = count_says 16777216 parts.0 two.0 (omega arith) parts.2 in
    let other = count_says 16777216 parts.1 two.1 (omega arith) parts.3 in
    subst (Says (codes "files" ∷ ws)) parts.4 (ap (λ t. codes "files" ∷ t) (ap₂ (λ a b. a ∷ b ∷ []) one.0 other.0 ∙ sym two.2), (one.1, other.1))
behind_says PartWord.Entries ws l h =
    let lone = lone_say entries_of_word ws l h in
    let made = mapped (λ (x : ℕ). PartLine.Entries x) (magnitude_of 16777216000000 lone.0) l lone.2 in
    let one = count_says 16777216000000 made.0 lone.0 (omega arith) made.1 in
    subst (Says (codes "entries" ∷ ws)) made.2 (ap (λ t. codes "entries" ∷ t) (ap (λ a. a ∷ []) one.0 ∙ sym lone.1), one.1)
behind_says PartWord.Script ws l h = let one = lone_say script_of_word ws l h in subst (λ (t : List (List ℕ)). Says (codes "script" ∷ t) l) (sym one.1) (script_says one.0 l one.2)
behind_says PartWord.Column ws l h =
    let two = two_say column_of_words ws l h in
    let parts = both_say (λ (name : List ℕ) (kind : ColType). PartLine.Column (record { name = name; kind = kind })) (name_of two.0) (stored_kind_of two.1) l two.3 in
    let one = name_says two.0 parts.0 parts.2 in
    let other = kind_says two.1 parts.1 parts.3 in
    subst (Says (codes "column" ∷ ws)) parts.4 (ap (λ t. codes "column" ∷ t) (ap₂ (λ a b. a ∷ b ∷ []) one.0 other.0 ∙ sym two.2), (one.1, other.1))
behind_says PartWord.Loop ws l h = let q = bare_says PartLine.Loop l ws h in subst (Says (codes "loop" ∷ ws)) q.1 (ap (λ t. codes "loop" ∷ t) (sym q.0), tt)
behind_says PartWord.Fault ws l h =
    let four = four_say fault_of_words ws l h in
    let parts = fault_parts (magnitude_of 16777215 four.0) (magnitude_of 999999 four.1) (magnitude_of 8255 four.2) (fault_kind_of four.3) l four.5 in
    let place = count_says 16777215 parts.0 four.0 (omega arith) parts.4 in
    let entry = count_says 999999 parts.1 four.1 (omega arith) parts.5 in
    let number = count_says 8255 parts.2 four.2 (omega arith) parts.6 in
    let kind = fault_says four.3 parts.3 parts.7 in
    let near = place.1 in
    let low = entry.1 in
    let few = number.1 in
    subst (Says (codes "fault" ∷ ws)) parts.8
    (ap (λ t. codes "fault" ∷ t) (ap₂ (λ a t. a ∷ t) place.0 (ap₂ (λ a t. a ∷ t) entry.0 (ap₂ (λ a b. a ∷ b ∷ []) number.0 kind)) ∙ sym four.4), (omega arith, omega arith, omega arith))
behind_says PartWord.End ws l h = let q = bare_says PartLine.End l ws h in subst (Says (codes "end" ∷ ws)) q.1 (ap (λ t. codes "end" ∷ t) (sym q.0), tt)

pub part_says : (ws : List (List ℕ)) (l : PartLine) → part_line_of ws ≡ Some l → Says ws l
part_says [] l h = cc h
part_says (w ∷ ws) l h = by (part_word_of w) refl h
  where
    by : (o : Option PartWord) → part_word_of w ≡ o → part_line_by o w ws ≡ Some l → Says (w ∷ ws) l
    by None e h =
        let made = mapped PartLine.Pass (line_of_words widest (w ∷ ws)) l h in
        subst (Says (w ∷ ws)) made.2 (read_lines_fit widest (w ∷ ws) made.0 are_limits made.1)
    by (Some k) e h = subst (λ (v : List ℕ). Says (v ∷ ws) l) (word_says w k e) (behind_says k ws l h)
