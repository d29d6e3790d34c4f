-- Lines are read back from their words, and from nothing else.
use Rattle.lemmas.proofs.{◌≡◌, ◌≤◌, ◌<◌, ◌^◌, ℕ, ℤ, pos, negsuc, zero, suc, Bool, true, false, ◌&&◌, Option, None, Some, List, [], ◌∷◌, length, map, flat_map, refl, ap, ap₂, ◌∙◌, sym, subst, arith, codes, decimal, ◌==◌, bytes_eq, if◌then◌else◌, option_map, bytes_eq-Decides, nat_tests, signed_decimal}
use Rattle.rdf_values.proofs.OneText.{integer_of_text, magnitude_bound, text_of_integer}
use Rattle.rdf_values.specs.{Has64Bits, integer_of, magnitude_of, negative, positive, same, Scalar}
use Rattle.loop_pieces.specs.{Counts}
use Rattle.histograms.specs.{CellSum}
use Rattle.shard_lines.specs.{are_alike, AreLimits, both_of, cell_of, counts_of_words, each_of, EachFits, extreme_of_word, extreme_word, FitsCell, FitsCount, FitsExtreme, FitsLine, FitsScalar, FitsTake, is_short, IsShort, IsSmall, kind_of_word, line_behind, line_of_kind, line_words, LineLimits, LinesReadBack, list_of, lone, numbered, one_sort, onto, pairs_of, ReadLinesFit, scalar_of, scalar_word, ShardLine, sum_of_word}
use Rattle.shard_lines.specs.declared.line_kind.LineKind.{LineKind}
use Rattle.shard_lines.proofs.Numerals.{Digits, decimal_digits, magnitude_reads, magnitude_says}
use Rattle.rdf_values.proofs.KeptLemmas.{integer_word as integer_fits}

-- ---- tests of words

pub same_says : (w v : List ℕ) → same w v ≡ true → w ≡ v
same_says w v h = (bytes_eq-Decides w v).0 h

pub same_self : (w : List ℕ) → same w w ≡ true
same_self w = (bytes_eq-Decides w w).1 refl

-- a word of digits is no other word
other_word : (ds : List ℕ) (b : ℕ) (bs : List ℕ) → Digits ds → 57 < b → same ds (b ∷ bs) ≡ false
other_word [] b bs h l = refl
other_word (d ∷ ds) b bs h l =
    let high = h.1 in
    let no : (d == b) ≡ false = grind (arith, nat_tests) in
    ap (λ t. t && bytes_eq ds bs) no

-- ---- numbers

pub mapped : {A B : Type 0} (f : A → B) (o : Option A) (y : B) → option_map f o ≡ Some y → (x : A) × (o ≡ Some x) × (f x ≡ y)
mapped f None y h = cc h
mapped f (Some x) y h = (x, refl, cc h)

pub count_reads : (most n : ℕ) → most < 2 ^ 127 → n ≤ most → magnitude_of most (decimal n) ≡ Some n
count_reads most n m l = magnitude_reads most n l (omega arith)

pub count_says : (most n : ℕ) (w : List ℕ) → most < 2 ^ 127 → magnitude_of most w ≡ Some n → (decimal n ≡ w) × (n ≤ most)
count_says most n w m h = let bound = magnitude_bound most n w h in (magnitude_says most n w (omega arith) h, bound)

sum_of_digits : (most : ℕ) (ds : List ℕ) → Digits ds → sum_of_word most ds ≡ positive (magnitude_of most ds)
unfolding magnitude_of
sum_of_digits most [] h = refl
sum_of_digits most (d ∷ ds) h =
    let low = h.0 in
    let no : (d == 45) ≡ false = grind (arith, nat_tests) in
    ap (λ b. if b then negative (magnitude_of most ds) else positive (magnitude_of most (d ∷ ds))) no

sum_reads : (most : ℕ) (z : ℤ) → most < 2 ^ 127 → IsSmall most z → sum_of_word most (signed_decimal z) ≡ Some z
sum_reads most (pos n) m l = sum_of_digits most (decimal n) (decimal_digits n) ∙ ap positive (count_reads most n m l)
sum_reads most (negsuc n) m l = ap negative (count_reads most (suc n) m l)

positive_says : (most : ℕ) (w : List ℕ) (o : Option ℕ) (z : ℤ) → most < 2 ^ 127 → magnitude_of most w ≡ o → positive o ≡ Some z → (signed_decimal z ≡ w) × IsSmall most z
positive_says most w None z m h e = cc e
positive_says most w (Some n) z m h e =
    let number : pos n ≡ z = cc e in
    let says = count_says most n w m h in
    subst (λ (y : ℤ). (signed_decimal y ≡ w) × IsSmall most y) number (says.0, says.1)

negative_says : (most : ℕ) (w : List ℕ) (o : Option ℕ) (z : ℤ) → most < 2 ^ 127 → magnitude_of most w ≡ o → negative o ≡ Some z → (signed_decimal z ≡ 45 ∷ w) × IsSmall most z
negative_says most w None z m h e = cc e
negative_says most w (Some zero) z m h e = cc e
negative_says most w (Some (suc n)) z m h e =
    let number : negsuc n ≡ z = cc e in
    let says = count_says most (suc n) w m h in
    subst (λ (y : ℤ). (signed_decimal y ≡ 45 ∷ w) × IsSmall most y) number (ap (λ t. 45 ∷ t) says.0, says.1)

sum_says : (most : ℕ) (w : List ℕ) (z : ℤ) → most < 2 ^ 127 → sum_of_word most w ≡ Some z → (signed_decimal z ≡ w) × IsSmall most z
sum_says most [] z m h = cc h
sum_says most (b ∷ bs) z m h = by (b == 45) refl h
  where
    by : (c : Bool) → (b == 45) ≡ c → (if c then negative (magnitude_of most bs) else positive (magnitude_of most (b ∷ bs))) ≡ Some z → (signed_decimal z ≡ b ∷ bs) × IsSmall most z
    by true e h =
        let minus : 45 ≡ b = grind (arith, nat_tests) in
        subst (λ (c : ℕ). (signed_decimal z ≡ c ∷ bs) × IsSmall most z) minus (negative_says most bs (magnitude_of most bs) z m refl h)
    by false e h = positive_says most (b ∷ bs) (magnitude_of most (b ∷ bs)) z m refl h

integer_reads : (z : ℤ) → Has64Bits z → integer_of (signed_decimal z) ≡ Some z
integer_reads (pos n) h = integer_of_text (pos n) h
integer_reads (negsuc n) h = integer_of_text (negsuc n) h

positive_fits : (w : List ℕ) (o : Option ℕ) (z : ℤ) → magnitude_of 9223372036854775807 w ≡ o → positive o ≡ Some z → Has64Bits z
positive_fits w None z h e = cc e
positive_fits w (Some n) z h e =
    let bound = magnitude_bound 9223372036854775807 n w h in
    let small : n < 2 ^ 63 = omega (arith, bound) in
    let number : pos n ≡ z = cc e in
    subst Has64Bits number small

negative_fits : (w : List ℕ) (o : Option ℕ) (z : ℤ) → magnitude_of 9223372036854775808 w ≡ o → negative o ≡ Some z → Has64Bits z
negative_fits w None z h e = cc e
negative_fits w (Some zero) z h e = cc e
negative_fits w (Some (suc n)) z h e =
    let bound = magnitude_bound 9223372036854775808 (suc n) w h in
    let small : n < 2 ^ 63 = omega (arith, bound) in
    let number : negsuc n ≡ z = cc e in
    subst Has64Bits number small

integer_says : (w : List ℕ) (z : ℤ) → integer_of w ≡ Some z → (signed_decimal z ≡ w) × Has64Bits z
integer_says w z h = (text_of_integer w z h, integer_fits w z h)

-- ---- scalars and extremes

scalar_of_other : (w : List ℕ) → same w (codes "true") ≡ false → same w (codes "false") ≡ false → scalar_of w ≡ option_map Scalar.Int (integer_of w)
scalar_of_other w e f = ap₂ (λ a b. if a then Some (Scalar.Bool true) else (if b then Some (Scalar.Bool false) else option_map Scalar.Int (integer_of w))) e f

scalar_reads : (x : Scalar) → FitsScalar x → scalar_of (scalar_word x) ≡ Some x
scalar_reads (Scalar.Int (pos n)) h =
    let ds = decimal_digits n in
    scalar_of_other (decimal n) (other_word (decimal n) 116 (codes "rue") ds (omega arith)) (other_word (decimal n) 102 (codes "alse") ds (omega arith)) ∙ ap (option_map Scalar.Int) (integer_reads (pos n) h)
scalar_reads (Scalar.Int (negsuc n)) h = ap (option_map Scalar.Int) (integer_reads (negsuc n) h)
scalar_reads (Scalar.Bool true) h = refl
scalar_reads (Scalar.Bool false) h = refl

scalar_says : (w : List ℕ) (x : Scalar) → scalar_of w ≡ Some x → (scalar_word x ≡ w) × FitsScalar x
scalar_says w x h = by (same w (codes "true")) (same w (codes "false")) refl refl h
  where
    by : (a b : Bool) → same w (codes "true") ≡ a → same w (codes "false") ≡ b → (if a then Some (Scalar.Bool true) else (if b then Some (Scalar.Bool false) else option_map Scalar.Int (integer_of w))) ≡ Some x → (scalar_word x ≡ w) × FitsScalar x
    by true b e f h = let is : Scalar.Bool true ≡ x = cc h in subst (λ (y : Scalar). (scalar_word y ≡ w) × FitsScalar y) is (sym (same_says w (codes "true") e), tt)
    by false true e f h = let is : Scalar.Bool false ≡ x = cc h in subst (λ (y : Scalar). (scalar_word y ≡ w) × FitsScalar y) is (sym (same_says w (codes "false") f), tt)
    by false false e f h =
        let number = mapped Scalar.Int (integer_of w) x h in
        subst (λ (y : Scalar). (scalar_word y ≡ w) × FitsScalar y) number.2 (integer_says w number.0 number.1)

extreme_of_other : (w : List ℕ) → same w (codes "none") ≡ false → extreme_of_word w ≡ option_map Some (integer_of w)
extreme_of_other w e = ap (λ a. if a then Some None else option_map Some (integer_of w)) e

extreme_reads : (z : Option ℤ) → FitsExtreme z → extreme_of_word (extreme_word z) ≡ Some z
extreme_reads None h = refl
extreme_reads (Some (pos n)) h = extreme_of_other (decimal n) (other_word (decimal n) 110 (codes "one") (decimal_digits n) (omega arith)) ∙ ap (option_map Some) (integer_reads (pos n) h)
extreme_reads (Some (negsuc n)) h = ap (option_map Some) (integer_reads (negsuc n) h)

extreme_says : (w : List ℕ) (x : Option ℤ) → extreme_of_word w ≡ Some x → (extreme_word x ≡ w) × FitsExtreme x
extreme_says w x h = by (same w (codes "none")) refl h
  where
    by : (a : Bool) → same w (codes "none") ≡ a → (if a then Some None else option_map Some (integer_of w)) ≡ Some x → (extreme_word x ≡ w) × FitsExtreme x
    by true e h = let is : None ≡ x = cc h in subst (λ (y : Option ℤ). (extreme_word y ≡ w) × FitsExtreme y) is (sym (same_says w (codes "none") e), tt)
    by false e h =
        let number = mapped Some (integer_of w) x h in
        subst (λ (y : Option ℤ). (extreme_word y ≡ w) × FitsExtreme y) number.2 (integer_says w number.0 number.1)

-- ---- lists

onto_says : {A : Type 0} (o : Option A) (os : Option (List A)) (all : List A) → onto o os ≡ Some all → (x : A) × (xs : List A) × (o ≡ Some x) × (os ≡ Some xs) × (x ∷ xs ≡ all)
onto_says None os all h = cc h
onto_says (Some x) None all h = cc h
onto_says (Some x) (Some xs) all h = (x, xs, refl, refl, cc h)

each_reads : (xs : List Scalar) → EachFits FitsScalar xs → each_of scalar_of (map scalar_word xs) ≡ Some xs
each_reads [] h = refl
each_reads (x ∷ xs) h = ap₂ onto (scalar_reads x h.0) (each_reads xs h.1)

each_says : (ws : List (List ℕ)) (xs : List Scalar) → each_of scalar_of ws ≡ Some xs → (map scalar_word xs ≡ ws) × EachFits FitsScalar xs
each_says [] [] h = (refl, tt)
each_says [] (x ∷ xs) h = cc h
each_says (w ∷ ws) xs h =
    let parts = onto_says (scalar_of w) (each_of scalar_of ws) xs h in
    let one = scalar_says w parts.0 parts.2 in
    let on = each_says ws parts.1 parts.3 in
    subst (λ (ys : List Scalar). (map scalar_word ys ≡ w ∷ ws) × EachFits FitsScalar ys) parts.4 (ap₂ (λ v vs. v ∷ vs) one.0 on.0, (one.1, on.1))

module _ {A : Type 0} (read : List ℕ → List ℕ → Option A) (first second : A → List ℕ) (Fits : A → Type 0) where
  abbrev words : A → List (List ℕ)
  words x = first x ∷ second x ∷ []

  pairs_read : ((x : A) → Fits x → read (first x) (second x) ≡ Some x) → (xs : List A) → EachFits Fits xs → pairs_of read (flat_map words xs) ≡ Some xs
  pairs_read f [] h = refl
  pairs_read f (x ∷ xs) h = ap₂ onto (f x h.0) (pairs_read f xs h.1)

  pairs_say : ((w v : List ℕ) (x : A) → read w v ≡ Some x → (first x ≡ w) × (second x ≡ v) × Fits x) → (ws : List (List ℕ)) (xs : List A) → pairs_of read ws ≡ Some xs → (flat_map words xs ≡ ws) × EachFits Fits xs
  pairs_say f [] [] h = (refl, tt)
  pairs_say f [] (x ∷ xs) h = cc h
  pairs_say f (w ∷ []) xs h = cc h
  pairs_say f (w ∷ v ∷ ws) xs h =
      let parts = onto_says (read w v) (pairs_of read ws) xs h in
      let one = f w v parts.0 parts.2 in
      let on = pairs_say f ws parts.1 parts.3 in
      subst (λ (ys : List A). (flat_map words ys ≡ w ∷ v ∷ ws) × EachFits Fits ys) parts.4 (ap₂ (λ a b. a ∷ b) one.0 (ap₂ (λ a b. a ∷ b) one.1 on.0), (one.2, on.1))

pub both_say : {A B C : Type 0} (make : A → B → C) (o : Option A) (p : Option B) (z : C) → both_of make o p ≡ Some z → (x : A) × (y : B) × (o ≡ Some x) × (p ≡ Some y) × (make x y ≡ z)
both_say make None p z h = cc h
both_say make (Some x) None z h = cc h
both_say make (Some x) (Some y) z h = (x, y, refl, refl, cc h)

cell_reads : (m : LineLimits) → AreLimits m → (c : CellSum) → FitsCell m c → cell_of m (signed_decimal c.sum) (signed_decimal c.squares) ≡ Some c
cell_reads m v c h = ap₂ (both_of (λ (s q : ℤ). let e : CellSum = record { sum = s; squares = q } in e)) (sum_reads m.cell_sum c.sum v.cell_sum h.0) (sum_reads m.cell_squares c.squares v.cell_squares h.1)

cell_says : (m : LineLimits) → AreLimits m → (w u : List ℕ) (c : CellSum) → cell_of m w u ≡ Some c → (signed_decimal c.sum ≡ w) × (signed_decimal c.squares ≡ u) × FitsCell m c
cell_says m v w u c h =
    let parts = both_say (λ (s q : ℤ). let e : CellSum = record { sum = s; squares = q } in e) (sum_of_word m.cell_sum w) (sum_of_word m.cell_squares u) c h in
    let one = sum_says m.cell_sum w parts.0 v.cell_sum parts.2 in
    let two = sum_says m.cell_squares u parts.1 v.cell_squares parts.3 in
    subst (λ (d : CellSum). (signed_decimal d.sum ≡ w) × (signed_decimal d.squares ≡ u) × FitsCell m d) parts.4 (one.0, two.0, (one.1, two.1))

counts_read : (m : LineLimits) → AreLimits m → (c : Counts) → FitsCount m c → counts_of_words m (decimal c.all) (decimal c.pass) ≡ Some c
counts_read m v c h =
    let limit = v.count in
    ap₂ (both_of (λ (a p : ℕ). let e : Counts = record { all = a; pass = p } in e)) (count_reads m.count c.all (omega arith) h.0) (count_reads m.count c.pass (omega arith) h.1)

counts_say : (m : LineLimits) → AreLimits m → (w u : List ℕ) (c : Counts) → counts_of_words m w u ≡ Some c → (decimal c.all ≡ w) × (decimal c.pass ≡ u) × FitsCount m c
counts_say m v w u c h =
    let limit = v.count in
    let parts = both_say (λ (a p : ℕ). let e : Counts = record { all = a; pass = p } in e) (magnitude_of m.count w) (magnitude_of m.count u) c h in
    let one = count_says m.count parts.0 w (omega arith) parts.2 in
    let two = count_says m.count parts.1 u (omega arith) parts.3 in
    subst (λ (d : Counts). (decimal d.all ≡ w) × (decimal d.pass ≡ u) × FitsCount m d) parts.4 (one.0, two.0, (one.1, two.1))

numbered_reads : {A : Type 0} (xs : List A) → numbered (decimal (length xs)) (Some xs) ≡ Some xs
numbered_reads xs = ap (λ b. if b then Some xs else None) (same_self (decimal (length xs)))

numbered_says : {A : Type 0} (w : List ℕ) (o : Option (List A)) (xs : List A) → numbered w o ≡ Some xs → (decimal (length xs) ≡ w) × (o ≡ Some xs)
numbered_says w None xs h = cc h
numbered_says w (Some ys) xs h = by (bytes_eq w (decimal (length ys))) refl h
  where
    by : (b : Bool) → bytes_eq w (decimal (length ys)) ≡ b → (if b then Some ys else None) ≡ Some xs → (decimal (length xs) ≡ w) × (Some ys ≡ Some xs)
    by true e h = let is : ys ≡ xs = cc h in (ap (λ zs. decimal (length zs)) (sym is) ∙ sym (same_says w (decimal (length ys)) e), h)
    by false e h = cc h

list_says : {A : Type 0} (read : List (List ℕ) → Option (List A)) (ws : List (List ℕ)) (xs : List A) → list_of read ws ≡ Some xs → (vs : List (List ℕ)) × (ws ≡ decimal (length xs) ∷ vs) × (read vs ≡ Some xs)
list_says read [] xs h = cc h
list_says read (w ∷ ws) xs h = let q = numbered_says w (read ws) xs h in (ws, ap (λ v. v ∷ ws) (sym q.0), q.1)

short_reads : (most : Option ℕ) (n : ℕ) → IsShort most n → is_short most n ≡ true
short_reads None n h = refl
short_reads (Some most) n h = grind (arith, nat_tests)

short_says : (most : Option ℕ) (n : ℕ) → is_short most n ≡ true → IsShort most n
short_says None n h = tt
short_says (Some most) n h = grind (arith, nat_tests)

sort_reads : (m : LineLimits) (xs : List Scalar) → FitsTake m xs → one_sort m (Some xs) ≡ Some xs
sort_reads m xs h = ap₂ (λ a b. if a then (if b then Some xs else None) else None) h.alike (short_reads m.values (length xs) h.short)

sort_says : (m : LineLimits) (o : Option (List Scalar)) (xs : List Scalar) → one_sort m o ≡ Some xs → (o ≡ Some xs) × (are_alike xs ≡ true) × IsShort m.values (length xs)
sort_says m None xs h = cc h
sort_says m (Some ys) xs h = by (are_alike ys) (is_short m.values (length ys)) refl refl h
  where
    by : (a b : Bool) → are_alike ys ≡ a → is_short m.values (length ys) ≡ b → (if a then (if b then Some ys else None) else None) ≡ Some xs → (Some ys ≡ Some xs) × (are_alike xs ≡ true) × IsShort m.values (length xs)
    by true true e f h =
        let is : ys ≡ xs = cc h in
        subst (λ (zs : List Scalar). (Some ys ≡ Some zs) × (are_alike zs ≡ true) × IsShort m.values (length zs)) is (refl, e, short_says m.values (length ys) f)
    by true false e f h = cc h
    by false b e f h = cc h

lone_says : {A : Type 0} (read : List ℕ → Option A) (ws : List (List ℕ)) (x : A) → lone read ws ≡ Some x → (w : List ℕ) × (ws ≡ w ∷ []) × (read w ≡ Some x)
lone_says read [] x h = cc h
lone_says read (w ∷ []) x h = (w, refl, h)
lone_says read (w ∷ v ∷ ws) x h = cc h

-- ---- lines

pub lines_read_back : LinesReadBack
lines_read_back m (ShardLine.Count n) v h = let limit = v.count in ap (option_map ShardLine.Count) (count_reads m.count n (omega arith) h)
lines_read_back m (ShardLine.Sum z) v h = ap (option_map ShardLine.Sum) (sum_reads m.sum z v.sum h)
lines_read_back m (ShardLine.Number z) v h = ap (option_map ShardLine.Number) (integer_reads z h)
lines_read_back m (ShardLine.Extreme z) v h = ap (option_map ShardLine.Extreme) (extreme_reads z h)
lines_read_back m (ShardLine.Take xs) v h =
    ap (option_map ShardLine.Take) (ap (one_sort m) (ap (numbered (decimal (length xs))) (each_reads xs h.fit) ∙ numbered_reads xs) ∙ sort_reads m xs h)
lines_read_back m (ShardLine.Cells cs) v h =
    ap (option_map ShardLine.Cells) (ap (numbered (decimal (length cs))) (pairs_read (cell_of m) (λ (c : CellSum). signed_decimal c.sum) (λ (c : CellSum). signed_decimal c.squares) (FitsCell m) (cell_reads m v) cs h) ∙ numbered_reads cs)
lines_read_back m (ShardLine.Report cs) v h =
    ap (option_map ShardLine.Report) (ap (numbered (decimal (length cs))) (pairs_read (counts_of_words m) (λ (c : Counts). decimal c.all) (λ (c : Counts). decimal c.pass) (FitsCount m) (counts_read m v) cs h) ∙ numbered_reads cs)

abbrev kind_word : LineKind → List ℕ
kind_word LineKind.Count = codes "count"
kind_word LineKind.Sum = codes "sum"
kind_word LineKind.Number = codes "number"
kind_word LineKind.Extreme = codes "extreme"
kind_word LineKind.Take = codes "take"
kind_word LineKind.Cells = codes "cells"
kind_word LineKind.Report = codes "report"

chosen : (w v : List ℕ) (k r : LineKind) (rest : Option LineKind) → kind_word k ≡ v → (rest ≡ Some r → kind_word r ≡ w) → (if same w v then Some k else rest) ≡ Some r → kind_word r ≡ w
chosen w v k r rest e f h = by (same w v) refl h
  where
    by : (b : Bool) → same w v ≡ b → (if b then Some k else rest) ≡ Some r → kind_word r ≡ w
    by true s h = let is : k ≡ r = cc h in ap kind_word (sym is) ∙ e ∙ sym (same_says w v s)
    by false s h = f h

kind_says : (w : List ℕ) (k : LineKind) → kind_of_word w ≡ Some k → kind_word k ≡ w
kind_says w k h =
    chosen w (codes "count") LineKind.Count k _ refl
    (chosen w (codes "sum") LineKind.Sum k _ refl
    (chosen w (codes "number") LineKind.Number k _ refl
    (chosen w (codes "extreme") LineKind.Extreme k _ refl (chosen w (codes "take") LineKind.Take k _ refl (chosen w (codes "cells") LineKind.Cells k _ refl (chosen w (codes "report") LineKind.Report k None refl (λ (e : None ≡ Some k). cc e))))))) h

abbrev Says : LineLimits → List (List ℕ) → ShardLine → Type 0
Says m ws l = (line_words l ≡ ws) × FitsLine m l

behind_says : (m : LineLimits) (k : LineKind) (ws : List (List ℕ)) (l : ShardLine) → AreLimits m → line_behind m k ws ≡ Some l → Says m (kind_word k ∷ ws) l
behind_says m LineKind.Count ws l v h =
    let limit = v.count in
    let made = mapped ShardLine.Count (lone (magnitude_of m.count) ws) l h in
    let word = lone_says (magnitude_of m.count) ws made.0 made.1 in
    let says = count_says m.count made.0 word.0 (omega arith) word.2 in
    subst (Says m (codes "count" ∷ ws)) made.2 (ap (λ t. codes "count" ∷ t) (ap (λ w. w ∷ []) says.0 ∙ sym word.1), says.1)
behind_says m LineKind.Sum ws l v h =
    let made = mapped ShardLine.Sum (lone (sum_of_word m.sum) ws) l h in
    let word = lone_says (sum_of_word m.sum) ws made.0 made.1 in
    let says = sum_says m.sum word.0 made.0 v.sum word.2 in
    subst (Says m (codes "sum" ∷ ws)) made.2 (ap (λ t. codes "sum" ∷ t) (ap (λ w. w ∷ []) says.0 ∙ sym word.1), says.1)
behind_says m LineKind.Number ws l v h =
    let made = mapped ShardLine.Number (lone integer_of ws) l h in
    let word = lone_says integer_of ws made.0 made.1 in
    let says = integer_says word.0 made.0 word.2 in
    subst (Says m (codes "number" ∷ ws)) made.2 (ap (λ t. codes "number" ∷ t) (ap (λ w. w ∷ []) says.0 ∙ sym word.1), says.1)
behind_says m LineKind.Extreme ws l v h =
    let made = mapped ShardLine.Extreme (lone extreme_of_word ws) l h in
    let word = lone_says extreme_of_word ws made.0 made.1 in
    let says = extreme_says word.0 made.0 word.2 in
    subst (Says m (codes "extreme" ∷ ws)) made.2 (ap (λ t. codes "extreme" ∷ t) (ap (λ w. w ∷ []) says.0 ∙ sym word.1), says.1)
behind_says m LineKind.Take ws l v h =
    let made = mapped ShardLine.Take (one_sort m (list_of (each_of scalar_of) ws)) l h in
    let sort = sort_says m (list_of (each_of scalar_of) ws) made.0 made.1 in
    let list = list_says (each_of scalar_of) ws made.0 sort.0 in
    let says = each_says list.0 made.0 list.2 in
    subst (Says m (codes "take" ∷ ws)) made.2 (ap (λ t. codes "take" ∷ t) (ap (λ t. decimal (length made.0) ∷ t) says.0 ∙ sym list.1), record { alike = sort.1; fit = says.1; short = sort.2 })
behind_says m LineKind.Cells ws l v h =
    let made = mapped ShardLine.Cells (list_of (pairs_of (cell_of m)) ws) l h in
    let list = list_says (pairs_of (cell_of m)) ws made.0 made.1 in
    let says = pairs_say (cell_of m) (λ (c : CellSum). signed_decimal c.sum) (λ (c : CellSum). signed_decimal c.squares) (FitsCell m) (cell_says m v) list.0 made.0 list.2 in
    subst (Says m (codes "cells" ∷ ws)) made.2 (ap (λ t. codes "cells" ∷ t) (ap (λ t. decimal (length made.0) ∷ t) says.0 ∙ sym list.1), says.1)
behind_says m LineKind.Report ws l v h =
    let made = mapped ShardLine.Report (list_of (pairs_of (counts_of_words m)) ws) l h in
    let list = list_says (pairs_of (counts_of_words m)) ws made.0 made.1 in
    let says = pairs_say (counts_of_words m) (λ (c : Counts). decimal c.all) (λ (c : Counts). decimal c.pass) (FitsCount m) (counts_say m v) list.0 made.0 list.2 in
    subst (Says m (codes "report" ∷ ws)) made.2 (ap (λ t. codes "report" ∷ t) (ap (λ t. decimal (length made.0) ∷ t) says.0 ∙ sym list.1), says.1)

pub read_lines_fit : ReadLinesFit
read_lines_fit m [] l v h = cc h
read_lines_fit m (w ∷ ws) l v h = by (kind_of_word w) refl h
  where
    by : (o : Option LineKind) → kind_of_word w ≡ o → line_of_kind m o ws ≡ Some l → Says m (w ∷ ws) l
    by None e h = cc h
    by (Some k) e h = subst (λ (v : List ℕ). Says m (v ∷ ws) l) (kind_says w k e) (behind_says m k ws l v h)
