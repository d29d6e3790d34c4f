-- Lines of a file are read back from their words, and from nothing else.
use Rattle.lemmas.proofs.{◌≡◌, ◌≤◌, ℕ, Bool, true, false, Option, None, Some, List, [], ◌∷◌, refl, ap, ap₂, ◌∙◌, sym, subst, arith, codes, decimal, if◌then◌else◌, nat_eq, option_and_then, option_map}
use Rattle.std.proofs.lemmas.Bool.{eqb-true}
use Rattle.rdf_values.specs.{ColType, EntryFault, is_name, IsStored, magnitude_of, same}
use Rattle.rdf_values.specs.declared.results.EntryFault.TheVariants.{Overflow, ZeroDivisor, Index, EmptyVector, Lengths, VaryCount, Weight, Function}
use Rattle.shard_lines.specs.{AreLimits, both_of, FitsLine, line_of_words, line_words, ShardLine}
use Rattle.shard_lines.proofs.ReadBack.{both_say, count_reads, count_says, lines_read_back, mapped, read_lines_fit, same_says}
use Rattle.shard_files.specs.{bare, column_of_words, fault_from, fault_kind_of, fault_number, fault_of_number, fault_of_words, file_line_behind, file_line_by, file_line_of, file_word_of, FitsFault, kind_word, name_of, shard_limits, span_of_words, stored_kind_of, table_of_words, three_of, two_of, version_of, words_of}
use Rattle.shard_files.specs.declared.file_line.FileLine.{FileLine}
use Rattle.shard_files.specs.declared.file_word.FileWord.{FileWord}

pub are_limits : AreLimits shard_limits
are_limits = record { count = omega arith; sum = omega arith; cell_sum = omega arith; cell_squares = omega arith }

-- a line that a shard may have somewhere
abbrev pub FitsFileLine : FileLine → Type 0
FitsFileLine FileLine.Version = Unit {0}
FitsFileLine (FileLine.Table entries clusters) = (entries ≤ 1000000) × (clusters ≤ 1000000)
FitsFileLine (FileLine.Column c) = (is_name c.name ≡ true) × IsStored c.kind
FitsFileLine (FileLine.Span lo hi) = (lo ≤ 1000000) × (hi ≤ 1000000)
FitsFileLine FileLine.Loop = Unit {0}
FitsFileLine (FileLine.Pass l) = FitsLine shard_limits l
FitsFileLine (FileLine.Fault f) = FitsFault f
FitsFileLine FileLine.End = Unit {0}

-- ---- lines are read back

small_reads : (most n : ℕ) → most ≤ 1000000 → n ≤ most → magnitude_of most (decimal n) ≡ Some n
small_reads most n m l = count_reads most n (omega arith) l

pub kind_reads : (t : ColType) → IsStored t → stored_kind_of (kind_word t) ≡ Some t
kind_reads ColType.Int h = refl
kind_reads ColType.Bool h = absurd h
kind_reads ColType.Vect h = refl

kind_of_fault : (f : EntryFault) → (fault_number f ≤ 8) × (fault_of_number (fault_number f) ≡ Some f)
kind_of_fault Overflow = (omega arith, refl)
kind_of_fault ZeroDivisor = (omega arith, refl)
kind_of_fault Index = (omega arith, refl)
kind_of_fault EmptyVector = (omega arith, refl)
kind_of_fault Lengths = (omega arith, refl)
kind_of_fault VaryCount = (omega arith, refl)
kind_of_fault Weight = (omega arith, refl)
kind_of_fault Function = (omega arith, refl)

pub fault_reads : (f : EntryFault) → fault_kind_of (decimal (fault_number f)) ≡ Some f
fault_reads f = let q = kind_of_fault f in ap (option_and_then fault_of_number) (small_reads 8 (fault_number f) (omega arith) q.0) ∙ q.1

pass_reads : (l : ShardLine) → FitsLine shard_limits l → file_line_of (line_words l) ≡ Some (FileLine.Pass l)
pass_reads (ShardLine.Count n) h = ap (option_map FileLine.Pass) (lines_read_back shard_limits (ShardLine.Count n) are_limits h)
pass_reads (ShardLine.Sum z) h = ap (option_map FileLine.Pass) (lines_read_back shard_limits (ShardLine.Sum z) are_limits h)
pass_reads (ShardLine.Number z) h = ap (option_map FileLine.Pass) (lines_read_back shard_limits (ShardLine.Number z) are_limits h)
pass_reads (ShardLine.Extreme z) h = ap (option_map FileLine.Pass) (lines_read_back shard_limits (ShardLine.Extreme z) are_limits h)
pass_reads (ShardLine.Take xs) h = ap (option_map FileLine.Pass) (lines_read_back shard_limits (ShardLine.Take xs) are_limits h)
pass_reads (ShardLine.Cells cs) h = ap (option_map FileLine.Pass) (lines_read_back shard_limits (ShardLine.Cells cs) are_limits h)
pass_reads (ShardLine.Report cs) h = ap (option_map FileLine.Pass) (lines_read_back shard_limits (ShardLine.Report cs) are_limits h)

pub file_reads : (l : FileLine) → FitsFileLine l → file_line_of (words_of l) ≡ Some l
file_reads FileLine.Version h = refl
file_reads (FileLine.Table e c) h = ap₂ (both_of (λ (x y : ℕ). FileLine.Table x y)) (small_reads 1000000 e (omega arith) h.0) (small_reads 1000000 c (omega arith) h.1)
file_reads (FileLine.Column c) h =
    ap₂ (both_of (λ (name : List ℕ) (kind : ColType). FileLine.Column (record { name = name; kind = kind }))) (ap (λ b. if b then Some c.name else None) h.0) (kind_reads c.kind h.1)
file_reads (FileLine.Span lo hi) h = ap₂ (both_of (λ (x y : ℕ). FileLine.Span x y)) (small_reads 1000000 lo (omega arith) h.0) (small_reads 1000000 hi (omega arith) h.1)
file_reads FileLine.Loop h = refl
file_reads (FileLine.Pass l) h = pass_reads l h
file_reads (FileLine.Fault f) h =
    let entry = h.0 in
    let number = h.1 in
    ap₂ (λ e n. fault_from e n (fault_kind_of (decimal (fault_number f.kind)))) (small_reads 999999 f.entry (omega arith) (omega arith)) (small_reads 8255 f.pass (omega arith) (omega arith))
    ∙ ap (fault_from (Some f.entry) (Some f.pass)) (fault_reads f.kind)
file_reads FileLine.End h = refl

-- two lines of the same words are one
pub same_line : (l m : FileLine) → FitsFileLine l → FitsFileLine m → words_of l ≡ words_of m → l ≡ m
same_line l m h g e = let both : Some l ≡ Some m = sym (file_reads l h) ∙ ap file_line_of e ∙ file_reads m g in cc both

-- ---- what is read as a line is its words

abbrev Says : List (List ℕ) → FileLine → Type 0
Says ws l = (words_of l ≡ ws) × FitsFileLine l

small_says : (most n : ℕ) (w : List ℕ) → most ≤ 1000000 → magnitude_of most w ≡ Some n → (decimal n ≡ w) × (n ≤ most)
small_says most n w m h = count_says most n w (omega arith) h

pub name_says : (w name : List ℕ) → name_of w ≡ Some name → (name ≡ w) × (is_name name ≡ true)
name_says w name h = by (is_name w) refl h
  where
    by : (b : Bool) → is_name w ≡ b → (if b then Some w else None) ≡ Some name → (name ≡ w) × (is_name name ≡ true)
    by true e h = let same : w ≡ name = cc h in (sym same, ap is_name (sym same) ∙ e)
    by false e h = cc h

pub kind_says : (w : List ℕ) (t : ColType) → stored_kind_of w ≡ Some t → (kind_word t ≡ w) × IsStored t
kind_says w t h = by (same w (codes "int")) (same w (codes "vec")) refl refl h
  where
    by : (a b : Bool) → same w (codes "int") ≡ a → same w (codes "vec") ≡ b → (if a then Some ColType.Int else (if b then Some ColType.Vect else None)) ≡ Some t → (kind_word t ≡ w) × IsStored t
    by true b e f h = let is : ColType.Int ≡ t = cc h in subst (λ (u : ColType). (kind_word u ≡ w) × IsStored u) is (sym (same_says w (codes "int") e), tt)
    by false true e f h = let is : ColType.Vect ≡ t = cc h in subst (λ (u : ColType). (kind_word u ≡ w) × IsStored u) is (sym (same_says w (codes "vec") f), tt)
    by false false e f h = cc h

chosen_fault : (n m : ℕ) (f g : EntryFault) (rest : Option EntryFault) → fault_number f ≡ m → (rest ≡ Some g → fault_number g ≡ n) → (if nat_eq n m then Some f else rest) ≡ Some g → fault_number g ≡ n
chosen_fault n m f g rest e next h = by (nat_eq n m) refl h
  where
    by : (b : Bool) → nat_eq n m ≡ b → (if b then Some f else rest) ≡ Some g → fault_number g ≡ n
    by true s h = let is : f ≡ g = cc h in ap fault_number (sym is) ∙ e ∙ sym (eqb-true n m s)
    by false s h = next h

fault_number_says : (n : ℕ) (f : EntryFault) → fault_of_number n ≡ Some f → fault_number f ≡ n
fault_number_says n f h =
    chosen_fault n 1 Overflow f _ refl
    (chosen_fault n 2 ZeroDivisor f _ refl
    (chosen_fault n 3 Index f _ refl
    (chosen_fault n 4 EmptyVector f _ refl
    (chosen_fault n 5 Lengths f _ refl
    (chosen_fault n 6 VaryCount f _ refl (chosen_fault n 7 Weight f _ refl (chosen_fault n 8 Function f None refl (λ (e : None ≡ Some f). cc e)))))))) h

then_says : (o : Option ℕ) (f : EntryFault) → option_and_then fault_of_number o ≡ Some f → (n : ℕ) × (o ≡ Some n) × (fault_of_number n ≡ Some f)
then_says None f h = cc h
then_says (Some n) f h = (n, refl, h)

pub fault_says : (w : List ℕ) (f : EntryFault) → fault_kind_of w ≡ Some f → decimal (fault_number f) ≡ w
fault_says w f h =
    let q = then_says (magnitude_of 8 w) f h in
    ap decimal (fault_number_says q.0 f q.2) ∙ (small_says 8 q.0 w (omega arith) q.1).0

two_say : (read : List ℕ → List ℕ → Option FileLine) (ws : List (List ℕ)) (l : FileLine) → two_of read ws ≡ Some l → (w : List ℕ) × (v : List ℕ) × (ws ≡ w ∷ v ∷ []) × (read w v ≡ Some l)
two_say read [] l h = cc h
two_say read (w ∷ []) l h = cc h
two_say read (w ∷ v ∷ []) l h = (w, v, refl, h)
two_say read (w ∷ v ∷ u ∷ ws) l h = cc h

three_say : (read : List ℕ → List ℕ → List ℕ → Option FileLine) (ws : List (List ℕ)) (l : FileLine) → three_of read ws ≡ Some l → (w : List ℕ) × (v : List ℕ) × (u : List ℕ) × (ws ≡ w ∷ v ∷ u ∷ []) × (read w v u ≡ Some l)
three_say read [] l h = cc h
three_say read (w ∷ []) l h = cc h
three_say read (w ∷ v ∷ []) l h = cc h
three_say read (w ∷ v ∷ u ∷ []) l h = (w, v, u, refl, h)
three_say read (w ∷ v ∷ u ∷ t ∷ ws) l h = cc h

fault_parts : (o p : Option ℕ) (q : Option EntryFault) (l : FileLine) → fault_from o p q ≡ Some l
    → (entry : ℕ) × (number : ℕ) × (kind : EntryFault) × (o ≡ Some entry) × (p ≡ Some number) × (q ≡ Some kind) × (FileLine.Fault (record { entry = entry; pass = number; kind = kind }) ≡ l)
fault_parts None p q l h = cc h
fault_parts (Some e) None q l h = cc h
fault_parts (Some e) (Some n) None l h = cc h
fault_parts (Some e) (Some n) (Some k) l h = (e, n, k, refl, refl, refl, cc h)

abbrev file_word : FileWord → List ℕ
file_word FileWord.Version = codes "rdfshard"
file_word FileWord.Table = codes "table"
file_word FileWord.Column = codes "column"
file_word FileWord.Span = codes "span"
file_word FileWord.Loop = codes "loop"
file_word FileWord.Fault = codes "fault"
file_word FileWord.End = codes "end"

chosen : (w v : List ℕ) (k r : FileWord) (rest : Option FileWord) → file_word k ≡ v → (rest ≡ Some r → file_word r ≡ w) → (if same w v then Some k else rest) ≡ Some r → file_word r ≡ w
chosen w v k r rest e f h = by (same w v) refl h
  where
    by : (b : Bool) → same w v ≡ b → (if b then Some k else rest) ≡ Some r → file_word r ≡ w
    by true s h = let is : k ≡ r = cc h in ap file_word (sym is) ∙ e ∙ sym (same_says w v s)
    by false s h = f h

word_says : (w : List ℕ) (k : FileWord) → file_word_of w ≡ Some k → file_word k ≡ w
word_says w k h =
    chosen w (codes "rdfshard") FileWord.Version k _ refl
    (chosen w (codes "table") FileWord.Table k _ refl
    (chosen w (codes "column") FileWord.Column k _ refl
    (chosen w (codes "span") FileWord.Span k _ refl
    (chosen w (codes "loop") FileWord.Loop k _ refl (chosen w (codes "fault") FileWord.Fault k _ refl (chosen w (codes "end") FileWord.End k None refl (λ (e : None ≡ Some k). cc e))))))) h

version_says : (ws : List (List ℕ)) (l : FileLine) → version_of ws ≡ Some l → Says (codes "rdfshard" ∷ ws) l
version_says [] l h = cc h
version_says (w ∷ []) l h = by (same w (codes "1")) refl h
  where
    by : (b : Bool) → same w (codes "1") ≡ b → (if b then Some FileLine.Version else None) ≡ Some l → Says (codes "rdfshard" ∷ w ∷ []) l
    by true e h = let is : FileLine.Version ≡ l = cc h in subst (Says (codes "rdfshard" ∷ w ∷ [])) is (ap (λ v. codes "rdfshard" ∷ v ∷ []) (sym (same_says w (codes "1") e)), tt)
    by false e h = cc h
version_says (w ∷ v ∷ ws) l h = cc h

bare_says : (line l : FileLine) (ws : List (List ℕ)) → bare line ws ≡ Some l → (ws ≡ []) × (line ≡ l)
bare_says line l [] h = (refl, cc h)
bare_says line l (w ∷ ws) h = cc h

behind_says : (k : FileWord) (ws : List (List ℕ)) (l : FileLine) → file_line_behind k ws ≡ Some l → Says (file_word k ∷ ws) l
behind_says FileWord.Version ws l h = version_says ws l h
behind_says FileWord.Table ws l h =
    let two = two_say table_of_words ws l h in
    let parts = both_say (λ (x y : ℕ). FileLine.Table x y) (magnitude_of 1000000 two.0) (magnitude_of 1000000 two.1) l two.3 in
    let one = small_says 1000000 parts.0 two.0 (omega arith) parts.2 in
    let other = small_says 1000000 parts.1 two.1 (omega arith) parts.3 in
    subst (Says (codes "table" ∷ ws)) parts.4 (ap (λ t. codes "table" ∷ t) (ap₂ (λ a b. a ∷ b ∷ []) one.0 other.0 ∙ sym two.2), (one.1, other.1))
behind_says FileWord.Column ws l h =
    let two = two_say column_of_words ws l h in
    let parts = both_say (λ (name : List ℕ) (kind : ColType). FileLine.Column (record { name = name; kind = kind })) (name_of two.0) (stored_kind_of two.1) l two.3 in
    let one = name_says two.0 parts.0 parts.2 in
    let other = kind_says two.1 parts.1 parts.3 in
    subst (Says (codes "column" ∷ ws)) parts.4 (ap (λ t. codes "column" ∷ t) (ap₂ (λ a b. a ∷ b ∷ []) one.0 other.0 ∙ sym two.2), (one.1, other.1))
behind_says FileWord.Span ws l h =
    let two = two_say span_of_words ws l h in
    let parts = both_say (λ (x y : ℕ). FileLine.Span x y) (magnitude_of 1000000 two.0) (magnitude_of 1000000 two.1) l two.3 in
    let one = small_says 1000000 parts.0 two.0 (omega arith) parts.2 in
    let other = small_says 1000000 parts.1 two.1 (omega arith) parts.3 in
    subst (Says (codes "span" ∷ ws)) parts.4 (ap (λ t. codes "span" ∷ t) (ap₂ (λ a b. a ∷ b ∷ []) one.0 other.0 ∙ sym two.2), (one.1, other.1))
behind_says FileWord.Loop ws l h = let q = bare_says FileLine.Loop l ws h in subst (Says (codes "loop" ∷ ws)) q.1 (ap (λ t. codes "loop" ∷ t) (sym q.0), tt)
behind_says FileWord.Fault ws l h =
    let three = three_say fault_of_words ws l h in
    let parts = fault_parts (magnitude_of 999999 three.0) (magnitude_of 8255 three.1) (fault_kind_of three.2) l three.4 in
    let entry = small_says 999999 parts.0 three.0 (omega arith) parts.3 in
    let number = small_says 8255 parts.1 three.1 (omega arith) parts.4 in
    let kind = fault_says three.2 parts.2 parts.5 in
    let low = entry.1 in
    let few = number.1 in
    subst (Says (codes "fault" ∷ ws)) parts.6
    (ap (λ t. codes "fault" ∷ t) (ap₂ (λ a t. a ∷ t) entry.0 (ap₂ (λ a b. a ∷ b ∷ []) number.0 kind) ∙ sym three.3), (omega arith, omega arith))
behind_says FileWord.End ws l h = let q = bare_says FileLine.End l ws h in subst (Says (codes "end" ∷ ws)) q.1 (ap (λ t. codes "end" ∷ t) (sym q.0), tt)

pub file_says : (ws : List (List ℕ)) (l : FileLine) → file_line_of ws ≡ Some l → Says ws l
file_says [] l h = cc h
file_says (w ∷ ws) l h = by (file_word_of w) refl h
  where
    by : (o : Option FileWord) → file_word_of w ≡ o → file_line_by o w ws ≡ Some l → Says (w ∷ ws) l
    by None e h =
        let made = mapped FileLine.Pass (line_of_words shard_limits (w ∷ ws)) l h in
        subst (Says (w ∷ ws)) made.2 (read_lines_fit shard_limits (w ∷ ws) made.0 are_limits made.1)
    by (Some k) e h = subst (λ (v : List ℕ). Says (v ∷ ws) l) (word_says w k e) (behind_says k ws l h)
