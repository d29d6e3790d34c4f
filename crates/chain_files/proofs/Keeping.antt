-- What two parts come to is within the limits of their entries together.
use Rattle.lemmas.proofs.{◌≡◌, ◌≤◌, ◌<◌, ◌+◌, ◌*◌, ◌-◌, ◌^◌, ℕ, ℤ, pos, negsuc, Bool, true, false, ◌&&◌, cond, Option, None, Some, List, [], ◌∷◌, ◌++◌, length, refl, ap, ap₂, ◌∙◌, sym, subst, arith, length-append, w64, ◌||◌, nat_abs, nat_eq, int_lt, abs_add, both_true, cast_signed, int_max, int_min, list_all, nat_tests, or_true}
use borrow.Author.Differences.{read_fits, up, down}
use Rattle.rdf_values.specs.{ColType, Has64Bits, reduce_step, ReduceOp, Scalar}
use Rattle.loop_pieces.specs.{Counts}
use Rattle.histograms.specs.{CellSum}
use Rattle.shard_lines.specs.{added_cells, added_counts, are_alike, are_cells, better_of, cells_of, count_of, counts_of, EachFits, extreme_of, FitLines, FitsCell, FitsCount, FitsExtreme, FitsLine, FitsScalar, has_shape, have_shapes, is_number, is_report, is_take_from, is_taken_from, is_truth, joined_line, joined_lines, number_of, PassShape, ShardLine, sum_of, taken_of}
use Rattle.chain_files.specs.{are_loops, CanJoin, CanJoinAll, FitLoops, IsPart, joined_loops, joined_part, joined_parts, JoinedIsPart, JoinedKeepsShape, part_limits, PartLoop, PartView, view_of}
use Rattle.chain_files.specs.declared.part.PartFields.{PartFields}
use Rattle.chain_files.specs.declared.part_loop.PartLoop.TheVariants.{Whole, Faulted}

-- ---- numbers of 64 bits

word_fits : (n : ℕ) → Has64Bits (cast_signed w64 n)
word_fits n = of_parts (cast_signed w64 n) (read_fits w64 n)
  where
    of_parts : (y : ℤ) → (up y < down y + 2 ^ 63) × (down y ≤ up y + 2 ^ 63) → Has64Bits y
    of_parts (pos n) f = let a = f.0 in omega (arith, a)
    of_parts (negsuc n) f = let a = f.1 in omega (arith, a)

either : (b : Bool) (x y : ℤ) → Has64Bits x → Has64Bits y → Has64Bits (cond b x y)
either true x y h g = h
either false x y h g = g

least_fits : (x y : ℤ) → Has64Bits x → Has64Bits y → Has64Bits (int_min x y)
least_fits x y h g = either (int_lt y x) y x g h

greatest_fits : (x y : ℤ) → Has64Bits x → Has64Bits y → Has64Bits (int_max x y)
greatest_fits x y h g = either (int_lt y x) x y h g

step_fits : (o : ReduceOp) (x y : ℤ) → Has64Bits x → Has64Bits y → Has64Bits (reduce_step o x y)
step_fits ReduceOp.Min x y h g = least_fits x y h g
step_fits ReduceOp.Max x y h g = greatest_fits x y h g
step_fits ReduceOp.And x y h g = word_fits _
step_fits ReduceOp.Or x y h g = word_fits _
step_fits ReduceOp.Xor x y h g = word_fits _
step_fits ReduceOp.WrapAdd x y h g = word_fits _

better_fits : (better : ℤ → ℤ → ℤ) → ((x y : ℤ) → Has64Bits x → Has64Bits y → Has64Bits (better x y)) → (o p : Option ℤ) → FitsExtreme o → FitsExtreme p → FitsExtreme (better_of better o p)
better_fits better f None p h g = g
better_fits better f (Some x) None h g = h
better_fits better f (Some x) (Some y) h g = f x y h g

-- ---- what a line holds

module _ (n : ℕ) where
  count_held : (p : ShardLine) → FitsLine (part_limits n) p → count_of p ≤ n
  count_held (ShardLine.Count c) h = h
  count_held (ShardLine.Sum z) h = omega arith
  count_held (ShardLine.Number z) h = omega arith
  count_held (ShardLine.Extreme z) h = omega arith
  count_held (ShardLine.Take xs) h = omega arith
  count_held (ShardLine.Cells cs) h = omega arith
  count_held (ShardLine.Report cs) h = omega arith

  sum_held : (p : ShardLine) → FitsLine (part_limits n) p → nat_abs (sum_of p) ≤ n * 2 ^ 75
  sum_held (ShardLine.Count c) h = omega arith
  sum_held (ShardLine.Sum z) h = h
  sum_held (ShardLine.Number z) h = omega arith
  sum_held (ShardLine.Extreme z) h = omega arith
  sum_held (ShardLine.Take xs) h = omega arith
  sum_held (ShardLine.Cells cs) h = omega arith
  sum_held (ShardLine.Report cs) h = omega arith

  number_held : (p : ShardLine) → FitsLine (part_limits n) p → Has64Bits (number_of p)
  number_held (ShardLine.Count c) h = omega arith
  number_held (ShardLine.Sum z) h = omega arith
  number_held (ShardLine.Number z) h = h
  number_held (ShardLine.Extreme z) h = omega arith
  number_held (ShardLine.Take xs) h = omega arith
  number_held (ShardLine.Cells cs) h = omega arith
  number_held (ShardLine.Report cs) h = omega arith

  extreme_held : (p : ShardLine) → FitsLine (part_limits n) p → FitsExtreme (extreme_of p)
  extreme_held (ShardLine.Count c) h = tt
  extreme_held (ShardLine.Sum z) h = tt
  extreme_held (ShardLine.Number z) h = tt
  extreme_held (ShardLine.Extreme z) h = h
  extreme_held (ShardLine.Take xs) h = tt
  extreme_held (ShardLine.Cells cs) h = tt
  extreme_held (ShardLine.Report cs) h = tt

  cells_held : (p : ShardLine) → FitsLine (part_limits n) p → EachFits (FitsCell (part_limits n)) (cells_of p)
  cells_held (ShardLine.Count c) h = tt
  cells_held (ShardLine.Sum z) h = tt
  cells_held (ShardLine.Number z) h = tt
  cells_held (ShardLine.Extreme z) h = tt
  cells_held (ShardLine.Take xs) h = tt
  cells_held (ShardLine.Cells cs) h = h
  cells_held (ShardLine.Report cs) h = tt

  counts_held : (p : ShardLine) → FitsLine (part_limits n) p → EachFits (FitsCount (part_limits n)) (counts_of p)
  counts_held (ShardLine.Count c) h = tt
  counts_held (ShardLine.Sum z) h = tt
  counts_held (ShardLine.Number z) h = tt
  counts_held (ShardLine.Extreme z) h = tt
  counts_held (ShardLine.Take xs) h = tt
  counts_held (ShardLine.Cells cs) h = tt
  counts_held (ShardLine.Report cs) h = h

  taken_held : (column : ColType) (p : ShardLine) → is_take_from column p ≡ true → FitsLine (part_limits n) p → (list_all (is_taken_from column) (taken_of p) ≡ true) × EachFits FitsScalar (taken_of p) × (length (taken_of p) ≤ n)
  taken_held column (ShardLine.Count c) e h = cc e
  taken_held column (ShardLine.Sum z) e h = cc e
  taken_held column (ShardLine.Number z) e h = cc e
  taken_held column (ShardLine.Extreme z) e h = cc e
  taken_held column (ShardLine.Take xs) e h = (e, h.fit, h.short)
  taken_held column (ShardLine.Cells cs) e h = cc e
  taken_held column (ShardLine.Report cs) e h = cc e

-- ---- lists

same_tests : (f g : Scalar → Bool) → ((x : Scalar) → f x ≡ g x) → (xs : List Scalar) → list_all f xs ≡ list_all g xs
same_tests f g h [] = refl
same_tests f g h (x ∷ xs) = ap₂ (λ a b. a && b) (h x) (same_tests f g h xs)

alike : (column : ColType) (xs : List Scalar) → list_all (is_taken_from column) xs ≡ true → are_alike xs ≡ true
alike ColType.Int xs h = ap (λ b. b || list_all is_truth xs) (sym (same_tests (is_taken_from ColType.Int) is_number (λ x. refl) xs) ∙ h)
alike ColType.Bool xs h = ap (λ b. list_all is_number xs || b) (sym (same_tests (is_taken_from ColType.Bool) is_truth (λ x. refl) xs) ∙ h) ∙ or_true (list_all is_number xs)
alike ColType.Vect xs h = ap (λ b. b || list_all is_truth xs) (sym (same_tests (is_taken_from ColType.Vect) is_number (λ x. refl) xs) ∙ h)

all_joined : (f : Scalar → Bool) (xs ys : List Scalar) → list_all f xs ≡ true → list_all f ys ≡ true → list_all f (xs ++ ys) ≡ true
all_joined f [] ys h g = g
all_joined f (x ∷ xs) ys h g = let both = both_true (f x) (list_all f xs) h in ap₂ (λ a b. a && b) both.0 (all_joined f xs ys both.1 g)

fits_joined : (xs ys : List Scalar) → EachFits FitsScalar xs → EachFits FitsScalar ys → EachFits FitsScalar (xs ++ ys)
fits_joined [] ys h g = g
fits_joined (x ∷ xs) ys h g = (h.0, fits_joined xs ys h.1 g)

module _ (n m : ℕ) where
  cells_fit : (cs ds : List CellSum) → EachFits (FitsCell (part_limits n)) cs → EachFits (FitsCell (part_limits m)) ds → EachFits (FitsCell (part_limits (n + m))) (added_cells cs ds)
  cells_fit [] ds h g = tt
  cells_fit (c ∷ cs) [] h g = tt
  cells_fit (c ∷ cs) (d ∷ ds) h g =
      let one = h.0 in
      let other = g.0 in
      let a = one.0 in
      let b = one.1 in
      let e = other.0 in
      let f = other.1 in
      let s = abs_add c.sum d.sum in
      let q = abs_add c.squares d.squares in
      ((omega arith, omega arith), cells_fit cs ds h.1 g.1)

  counts_fit : (cs ds : List Counts) → EachFits (FitsCount (part_limits n)) cs → EachFits (FitsCount (part_limits m)) ds → EachFits (FitsCount (part_limits (n + m))) (added_counts cs ds)
  counts_fit [] ds h g = tt
  counts_fit (c ∷ cs) [] h g = tt
  counts_fit (c ∷ cs) (d ∷ ds) h g =
      let one = h.0 in
      let other = g.0 in
      let a = one.0 in
      let b = one.1 in
      let e = other.0 in
      let f = other.1 in
      ((omega arith, omega arith), counts_fit cs ds h.1 g.1)

  line_fits : (s : PassShape) (p q : ShardLine) → has_shape s p ≡ true → has_shape s q ≡ true → FitsLine (part_limits n) p → FitsLine (part_limits m) q → FitsLine (part_limits (n + m)) (joined_line s p q)
  line_fits PassShape.Count p q e f h g = let a = count_held n p h in let b = count_held m q g in omega arith
  line_fits PassShape.Sum p q e f h g = let a = sum_held n p h in let b = sum_held m q g in let s = abs_add (sum_of p) (sum_of q) in omega arith
  line_fits PassShape.Least p q e f h g = better_fits int_min least_fits (extreme_of p) (extreme_of q) (extreme_held n p h) (extreme_held m q g)
  line_fits PassShape.Greatest p q e f h g = better_fits int_max greatest_fits (extreme_of p) (extreme_of q) (extreme_held n p h) (extreme_held m q g)
  line_fits (PassShape.Take column) p q e f h g =
      let a = taken_held n column p e h in
      let b = taken_held m column q f g in
      let few = a.2 in
      let more = b.2 in
      record {
        alike = alike column (taken_of p ++ taken_of q) (all_joined (is_taken_from column) (taken_of p) (taken_of q) a.0 b.0);
        fit = fits_joined (taken_of p) (taken_of q) a.1 b.1;
        short = omega (arith, length-append (taken_of p) (taken_of q), few, more);
      }
  line_fits (PassShape.Number o) p q e f h g = step_fits o (number_of p) (number_of q) (number_held n p h) (number_held m q g)
  line_fits (PassShape.Cells c) p q e f h g = cells_fit (cells_of p) (cells_of q) (cells_held n p h) (cells_held m q g)
  line_fits (PassShape.Report c) p q e f h g = counts_fit (counts_of p) (counts_of q) (counts_held n p h) (counts_held m q g)

  lines_fit : (ss : List PassShape) (ps qs : List ShardLine) → have_shapes ss ps ≡ true → have_shapes ss qs ≡ true → FitLines (part_limits n) ps → FitLines (part_limits m) qs → FitLines (part_limits (n + m)) (joined_lines ss ps qs)
  lines_fit [] ps qs e f h g = tt
  lines_fit (s ∷ ss) [] qs e f h g = tt
  lines_fit (s ∷ ss) (p ∷ ps) [] e f h g = tt
  lines_fit (s ∷ ss) (p ∷ ps) (q ∷ qs) e f h g =
      let a = both_true (has_shape s p) (have_shapes ss ps) e in
      let b = both_true (has_shape s q) (have_shapes ss qs) f in
      (line_fits s p q a.0 b.0 h.0 g.0, lines_fit ss ps qs a.1 b.1 h.1 g.1)

some_lines : (ss : List PassShape) (ps qs : List ShardLine) → have_shapes ss ps ≡ true → 0 < length ps → 0 < length qs → 0 < length (joined_lines ss ps qs)
some_lines [] [] qs e h g = absurd (omega arith)
some_lines [] (p ∷ ps) qs e h g = cc e
some_lines (s ∷ ss) [] qs e h g = absurd (omega arith)
some_lines (s ∷ ss) (p ∷ ps) [] e h g = absurd (omega arith)
some_lines (s ∷ ss) (p ∷ ps) (q ∷ qs) e h g = omega arith

-- ---- loops and parts

module _ (a b c n m : ℕ) (low : a < b) (high : b < c) where
  loops_fit : (shapes : List (List PassShape)) (ks ls : List PartLoop) → are_loops shapes ks ≡ true → are_loops shapes ls ≡ true → FitLoops a b n ks → FitLoops b c m ls → FitLoops a c (n + m) (joined_loops shapes ks ls)
  loops_fit [] ks ls e f h g = tt
  loops_fit (ss ∷ shapes) [] ls e f h g = tt
  loops_fit (ss ∷ shapes) (k ∷ ks) [] e f h g = tt
  loops_fit (ss ∷ shapes) (Faulted x ∷ []) (l ∷ ls) e f h g = let under = h.1 in (h.0, omega arith, h.2, h.3)
  loops_fit (ss ∷ shapes) (Faulted x ∷ k ∷ ks) (l ∷ ls) e f h g = absurd h
  loops_fit (ss ∷ shapes) (Whole ps ∷ ks) (Faulted x ∷ []) e f h g = let over = g.0 in (omega arith, g.1, g.2, g.3)
  loops_fit (ss ∷ shapes) (Whole ps ∷ ks) (Faulted x ∷ l ∷ ls) e f h g = absurd g
  loops_fit (ss ∷ shapes) (Whole ps ∷ ks) (Whole qs ∷ ls) e f h g =
      let one = both_true (have_shapes ss ps) (are_loops shapes ks) e in
      let other = both_true (have_shapes ss qs) (are_loops shapes ls) f in
      (some_lines ss ps qs one.0 h.0 g.0, lines_fit n m ss ps qs one.0 other.0 h.1 g.1, loops_fit shapes ks ls one.1 other.1 h.2 g.2)

pub joined_is_part : JoinedIsPart
joined_is_part loops s t v w e f next =
    let files = v.files in
    let others = w.files in
    let few = v.entries in
    let more = w.entries in
    let high : s.end_file < t.end_file = omega arith in
    let later : FitLoops s.end_file t.end_file t.entries t.loops = subst (λ i. FitLoops i t.end_file t.entries t.loops) (sym next) w.loops in
    record {
      files = omega arith;
      within = w.within;
      entries = omega arith;
      digest = v.digest;
      header = v.header;
      named = v.named;
      loops = loops_fit s.first_file s.end_file t.end_file s.entries t.entries files high loops s.loops t.loops e f v.loops later;
    }

-- the same of two parts' fields
pub fields_join : (loops : List (List PassShape)) (a b : PartFields) (s t : PartView) (all : List PartLoop) → view_of a ≡ s → view_of b ≡ t → IsPart (view_of a) → IsPart (view_of b) → s.end_file ≡ t.first_file
    → are_loops loops s.loops ≡ true → are_loops loops t.loops ≡ true → all ≡ joined_loops loops a.loops b.loops
    → IsPart (record { first_file = a.first_file; end_file = b.end_file; entries = a.entries + b.entries; script = a.script; columns = a.columns; loops = all })
fields_join loops a b s t all p q v w next e f h =
    subst (λ ls. IsPart (record { first_file = a.first_file; end_file = b.end_file; entries = a.entries + b.entries; script = a.script; columns = a.columns; loops = ls })) (sym h)
    (joined_is_part loops (view_of a) (view_of b) v w (ap (λ (x : PartView). are_loops loops x.loops) p ∙ e) (ap (λ (x : PartView). are_loops loops x.loops) q ∙ f)
    (ap (λ (x : PartView). x.end_file) p ∙ next ∙ sym (ap (λ (x : PartView). x.first_file) q)))

-- ---- shapes

cells_long : (cs ds : List CellSum) (n : ℕ) → nat_eq (length cs) n ≡ true → nat_eq (length ds) n ≡ true → nat_eq (length (added_cells cs ds)) n ≡ true
cells_long cs ds n h g = ap (λ m. nat_eq m n) (as_long cs ds (same (length cs) (length ds) n h g)) ∙ h
  where
    same : (a b n : ℕ) → nat_eq a n ≡ true → nat_eq b n ≡ true → a ≡ b
    same a b n h g = grind (arith, nat_tests)

    as_long : (cs ds : List CellSum) → length cs ≡ length ds → length (added_cells cs ds) ≡ length cs
    as_long [] ds e = refl
    as_long (c ∷ cs) [] e = absurd (omega (arith, e))
    as_long (c ∷ cs) (d ∷ ds) e = let rest = as_long cs ds (omega (arith, e)) in omega (arith, rest)

counts_long : (cs ds : List Counts) (n : ℕ) → nat_eq (length cs) n ≡ true → nat_eq (length ds) n ≡ true → nat_eq (length (added_counts cs ds)) n ≡ true
counts_long cs ds n h g = ap (λ m. nat_eq m n) (as_long cs ds (same (length cs) (length ds) n h g)) ∙ h
  where
    same : (a b n : ℕ) → nat_eq a n ≡ true → nat_eq b n ≡ true → a ≡ b
    same a b n h g = grind (arith, nat_tests)

    as_long : (cs ds : List Counts) → length cs ≡ length ds → length (added_counts cs ds) ≡ length cs
    as_long [] ds e = refl
    as_long (c ∷ cs) [] e = absurd (omega (arith, e))
    as_long (c ∷ cs) (d ∷ ds) e = let rest = as_long cs ds (omega (arith, e)) in omega (arith, rest)

taken_alone : (column : ColType) (p : ShardLine) → is_take_from column p ≡ true → list_all (is_taken_from column) (taken_of p) ≡ true
taken_alone column (ShardLine.Take xs) e = e
taken_alone column (ShardLine.Count c) e = refl
taken_alone column (ShardLine.Sum z) e = refl
taken_alone column (ShardLine.Number z) e = refl
taken_alone column (ShardLine.Extreme z) e = refl
taken_alone column (ShardLine.Cells cs) e = refl
taken_alone column (ShardLine.Report cs) e = refl

so_many_cells : (n : ℕ) (p : ShardLine) → are_cells n p ≡ true → nat_eq (length (cells_of p)) n ≡ true
so_many_cells n (ShardLine.Cells cs) e = e
so_many_cells n (ShardLine.Count c) e = cc e
so_many_cells n (ShardLine.Sum z) e = cc e
so_many_cells n (ShardLine.Number z) e = cc e
so_many_cells n (ShardLine.Extreme z) e = cc e
so_many_cells n (ShardLine.Take xs) e = cc e
so_many_cells n (ShardLine.Report cs) e = cc e

so_many_counts : (n : ℕ) (p : ShardLine) → is_report n p ≡ true → nat_eq (length (counts_of p)) n ≡ true
so_many_counts n (ShardLine.Report cs) e = e
so_many_counts n (ShardLine.Count c) e = cc e
so_many_counts n (ShardLine.Sum z) e = cc e
so_many_counts n (ShardLine.Number z) e = cc e
so_many_counts n (ShardLine.Extreme z) e = cc e
so_many_counts n (ShardLine.Take xs) e = cc e
so_many_counts n (ShardLine.Cells cs) e = cc e

line_keeps : (s : PassShape) (p q : ShardLine) → has_shape s p ≡ true → has_shape s q ≡ true → has_shape s (joined_line s p q) ≡ true
line_keeps PassShape.Count p q e f = refl
line_keeps PassShape.Sum p q e f = refl
line_keeps PassShape.Least p q e f = refl
line_keeps PassShape.Greatest p q e f = refl
line_keeps (PassShape.Take column) p q e f = all_joined (is_taken_from column) (taken_of p) (taken_of q) (taken_alone column p e) (taken_alone column q f)
line_keeps (PassShape.Number o) p q e f = refl
line_keeps (PassShape.Cells n) p q e f = cells_long (cells_of p) (cells_of q) n (so_many_cells n p e) (so_many_cells n q f)
line_keeps (PassShape.Report n) p q e f = counts_long (counts_of p) (counts_of q) n (so_many_counts n p e) (so_many_counts n q f)

lines_keep : (ss : List PassShape) (ps qs : List ShardLine) → have_shapes ss ps ≡ true → have_shapes ss qs ≡ true → have_shapes ss (joined_lines ss ps qs) ≡ true
lines_keep [] ps qs e f = refl
lines_keep (s ∷ ss) [] qs e f = cc e
lines_keep (s ∷ ss) (p ∷ ps) [] e f = cc f
lines_keep (s ∷ ss) (p ∷ ps) (q ∷ qs) e f =
    let a = both_true (has_shape s p) (have_shapes ss ps) e in
    let b = both_true (has_shape s q) (have_shapes ss qs) f in
    ap₂ (λ x y. x && y) (line_keeps s p q a.0 b.0) (lines_keep ss ps qs a.1 b.1)

pub joined_keeps_shape : JoinedKeepsShape
joined_keeps_shape [] ks ls e f = refl
joined_keeps_shape (ss ∷ loops) [] ls e f = cc e
joined_keeps_shape (ss ∷ loops) (k ∷ ks) [] e f = cc f
joined_keeps_shape (ss ∷ loops) (Faulted x ∷ ks) (l ∷ ls) e f = e
joined_keeps_shape (ss ∷ loops) (Whole ps ∷ ks) (Faulted x ∷ ls) e f = f
joined_keeps_shape (ss ∷ loops) (Whole ps ∷ ks) (Whole qs ∷ ls) e f =
    let a = both_true (have_shapes ss ps) (are_loops loops ks) e in
    let b = both_true (have_shapes ss qs) (are_loops loops ls) f in
    ap₂ (λ x y. x && y) (lines_keep ss ps qs a.0 b.0) (joined_keeps_shape loops ks ls a.1 b.1)

-- the part of two is followed by what follows the second
pub can_go_on : (loops : List (List PassShape)) (a b : PartView) (bs : List PartView) → CanJoin loops a b → CanJoinAll loops b bs → CanJoinAll loops (joined_part loops a b) bs
can_go_on loops a b [] h g = tt
can_go_on loops a b (c ∷ cs) h g =
    let next = g.0 in (
      record {
        next = next.next;
        script = h.script ∙ next.script;
        columns = h.columns ∙ next.columns;
        earlier = joined_keeps_shape loops a.loops b.loops h.earlier h.later;
        later = next.later;
      },
      g.1,
    )

-- one part more
pub one_more_joined : (loops : List (List PassShape)) (a b all wanted : PartView) (rest bs : List PartView) → rest ≡ b ∷ bs → all ≡ joined_part loops a b → joined_parts loops a rest ≡ wanted → CanJoinAll loops a rest
    → (joined_parts loops all bs ≡ wanted) × CanJoinAll loops all bs
one_more_joined loops a b all wanted rest bs e q h g =
    let can : CanJoinAll loops a (b ∷ bs) = subst (CanJoinAll loops a) e g in
    (ap (λ x. joined_parts loops x bs) q ∙ sym (ap (joined_parts loops a) e) ∙ h, subst (λ x. CanJoinAll loops x bs) (sym q) (can_go_on loops a b bs can.0 can.1))
