-- Parts may be joined in any groups.
use Rattle.lemmas.proofs.{◌≡◌, ◌+◌, ◌+ℤ◌, ℕ, ℤ, Option, None, Some, List, [], ◌∷◌, ◌++◌, fold, refl, ap, ap₂, ◌∙◌, arith, append_assoc, int_max, int_min, ints}
use Rattle.rdf_values.specs.{ReduceOp}
use Rattle.loop_pieces.specs.{Counts}
use Rattle.histograms.specs.{CellSum}
use Rattle.shard_lines.specs.{added_cells, added_counts, better_of, cells_of, count_of, counts_of, extreme_of, joined_line, joined_lines, number_of, PassShape, ShardLine, sum_of, taken_of}
use Rattle.chain_files.specs.{GroupsAreFree, joined_loops, joined_part, JoiningIsAssociative, PartLoop, PartView}
use Rattle.chain_files.specs.declared.part_loop.PartLoop.TheVariants.{Whole, Faulted}
use Rattle.actions.proofs.Folds.{step_assoc}

-- ---- what lines hold

sums : (x y z : ℤ) → (x +ℤ y) +ℤ z ≡ x +ℤ (y +ℤ z)
sums x y z = omega (arith, ints)

numbers : (x y z : ℕ) → (x + y) + z ≡ x + (y + z)
numbers x y z = omega arith

best : (better : ℤ → ℤ → ℤ) → ((a x y : ℤ) → better (better a x) y ≡ better a (better x y)) → (o p q : Option ℤ) → better_of better (better_of better o p) q ≡ better_of better o (better_of better p q)
best better h None p q = refl
best better h (Some x) None q = refl
best better h (Some x) (Some y) None = refl
best better h (Some x) (Some y) (Some z) = ap Some (h x y z)

abbrev cell : ℤ → ℤ → CellSum
cell s q = record { sum = s; squares = q }

cells : (cs ds es : List CellSum) → added_cells (added_cells cs ds) es ≡ added_cells cs (added_cells ds es)
cells [] ds es = refl
cells (c ∷ cs) [] es = refl
cells (c ∷ cs) (d ∷ ds) [] = refl
cells (c ∷ cs) (d ∷ ds) (e ∷ es) = ap₂ (λ x xs. x ∷ xs) (ap₂ cell (sums c.sum d.sum e.sum) (sums c.squares d.squares e.squares)) (cells cs ds es)

abbrev count : ℕ → ℕ → Counts
count a p = record { all = a; pass = p }

counts : (cs ds es : List Counts) → added_counts (added_counts cs ds) es ≡ added_counts cs (added_counts ds es)
counts [] ds es = refl
counts (c ∷ cs) [] es = refl
counts (c ∷ cs) (d ∷ ds) [] = refl
counts (c ∷ cs) (d ∷ ds) (e ∷ es) = ap₂ (λ x xs. x ∷ xs) (ap₂ count (numbers c.all d.all e.all) (numbers c.pass d.pass e.pass)) (counts cs ds es)

-- ---- lines and loops

one_line : (s : PassShape) (p q r : ShardLine) → joined_line s (joined_line s p q) r ≡ joined_line s p (joined_line s q r)
one_line PassShape.Count p q r = ap ShardLine.Count (numbers (count_of p) (count_of q) (count_of r))
one_line PassShape.Sum p q r = ap ShardLine.Sum (sums (sum_of p) (sum_of q) (sum_of r))
one_line PassShape.Least p q r = ap ShardLine.Extreme (best int_min (step_assoc ReduceOp.Min) (extreme_of p) (extreme_of q) (extreme_of r))
one_line PassShape.Greatest p q r = ap ShardLine.Extreme (best int_max (step_assoc ReduceOp.Max) (extreme_of p) (extreme_of q) (extreme_of r))
one_line (PassShape.Take column) p q r = ap ShardLine.Take (append_assoc (taken_of p) (taken_of q) (taken_of r))
one_line (PassShape.Number o) p q r = ap ShardLine.Number (step_assoc o (number_of p) (number_of q) (number_of r))
one_line (PassShape.Cells n) p q r = ap ShardLine.Cells (cells (cells_of p) (cells_of q) (cells_of r))
one_line (PassShape.Report n) p q r = ap ShardLine.Report (counts (counts_of p) (counts_of q) (counts_of r))

lines : (ss : List PassShape) (ps qs rs : List ShardLine) → joined_lines ss (joined_lines ss ps qs) rs ≡ joined_lines ss ps (joined_lines ss qs rs)
lines [] ps qs rs = refl
lines (s ∷ ss) [] qs rs = refl
lines (s ∷ ss) (p ∷ ps) [] rs = refl
lines (s ∷ ss) (p ∷ ps) (q ∷ qs) [] = refl
lines (s ∷ ss) (p ∷ ps) (q ∷ qs) (r ∷ rs) = ap₂ (λ x xs. x ∷ xs) (one_line s p q r) (lines ss ps qs rs)

loops_grouped : (shapes : List (List PassShape)) (ks ls ms : List PartLoop) → joined_loops shapes (joined_loops shapes ks ls) ms ≡ joined_loops shapes ks (joined_loops shapes ls ms)
loops_grouped [] ks ls ms = refl
loops_grouped (ss ∷ shapes) [] ls ms = refl
loops_grouped (ss ∷ shapes) (k ∷ ks) [] ms = refl
loops_grouped (ss ∷ shapes) (Faulted f ∷ ks) (l ∷ ls) [] = refl
loops_grouped (ss ∷ shapes) (Whole ps ∷ ks) (Faulted g ∷ ls) [] = refl
loops_grouped (ss ∷ shapes) (Whole ps ∷ ks) (Whole qs ∷ ls) [] = refl
loops_grouped (ss ∷ shapes) (Faulted f ∷ ks) (Faulted g ∷ ls) (m ∷ ms) = refl
loops_grouped (ss ∷ shapes) (Faulted f ∷ ks) (Whole qs ∷ ls) (Faulted g ∷ ms) = refl
loops_grouped (ss ∷ shapes) (Faulted f ∷ ks) (Whole qs ∷ ls) (Whole rs ∷ ms) = refl
loops_grouped (ss ∷ shapes) (Whole ps ∷ ks) (Faulted g ∷ ls) (m ∷ ms) = refl
loops_grouped (ss ∷ shapes) (Whole ps ∷ ks) (Whole qs ∷ ls) (Faulted g ∷ ms) = refl
loops_grouped (ss ∷ shapes) (Whole ps ∷ ks) (Whole qs ∷ ls) (Whole rs ∷ ms) = ap₂ (λ x xs. Whole x ∷ xs) (lines ss ps qs rs) (loops_grouped shapes ks ls ms)

-- ---- parts

pub joining_is_associative : JoiningIsAssociative
joining_is_associative loops a b c = ap₂ whole (numbers a.entries b.entries c.entries) (loops_grouped loops a.loops b.loops c.loops)
  where
    whole : ℕ → List PartLoop → PartView
    whole n ls = record { first_file = a.first_file; end_file = c.end_file; entries = n; script = a.script; columns = a.columns; loops = ls }

module _ {A : Type 0} (f : A → A → A) (assoc : (x y z : A) → f (f x y) z ≡ f x (f y z)) where
  from_one : (x y : A) (ys : List A) → fold f (f x y) ys ≡ f x (fold f y ys)
  from_one x y [] = refl
  from_one x y (z ∷ ys) = ap (λ t. fold f t ys) (assoc x y z) ∙ from_one x (f y z) ys

  pub grouped : (x : A) (xs : List A) (y : A) (ys : List A) → fold f x (xs ++ y ∷ ys) ≡ f (fold f x xs) (fold f y ys)
  grouped x [] y ys = from_one x y ys
  grouped x (z ∷ xs) y ys = grouped (f x z) xs y ys

pub groups_are_free : GroupsAreFree
groups_are_free loops a before b behind = grouped (joined_part loops) (joining_is_associative loops) a before b behind
