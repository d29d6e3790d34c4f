-- Lines that so many entries can come to.
use Rattle.lemmas.proofs.{◌≡◌, ◌≤◌, ◌*◌, ◌^◌, ℕ, Bool, true, ◌&&◌, List, [], ◌∷◌, length, refl, ap₂, arith, nat_abs, nat_le, both_true, leb-true, le-leb, list_all}
use Rattle.loop_pieces.specs.{Counts}
use Rattle.histograms.specs.{CellSum}
use Rattle.shard_lines.specs.{EachFits, FitLines, FitsCell, FitsCount, FitsLine, ShardLine}
use Rattle.chain_files.specs.{is_cell_within, is_count_within, is_within, part_limits, widest}

all_says : {A : Type 0} (test : A → Bool) (Fits : A → Type 0) (xs : List A) → ((x : A) → test x ≡ true → Fits x) → list_all test xs ≡ true → EachFits Fits xs
all_says test Fits [] f h = tt
all_says test Fits (x ∷ xs) f h = let both = both_true (test x) (list_all test xs) h in (f x both.0, all_says test Fits xs f both.1)

all_true : {A : Type 0} (test : A → Bool) (Fits : A → Type 0) (xs : List A) → ((x : A) → Fits x → test x ≡ true) → EachFits Fits xs → list_all test xs ≡ true
all_true test Fits [] f h = refl
all_true test Fits (x ∷ xs) f h = ap₂ (λ a b. a && b) (f x h.0) (all_true test Fits xs f h.1)

all_grow : {A : Type 0} (Fits More : A → Type 0) (xs : List A) → ((x : A) → Fits x → More x) → EachFits Fits xs → EachFits More xs
all_grow Fits More [] f h = tt
all_grow Fits More (x ∷ xs) f h = (f x h.0, all_grow Fits More xs f h.1)

-- ---- a part's limits are within the widest

pub grows : (n : ℕ) (l : ShardLine) → n ≤ 16777216000000 → FitsLine (part_limits n) l → FitsLine widest l
grows n (ShardLine.Count k) l h = omega arith
grows n (ShardLine.Sum z) l h = let a = nat_abs z in omega arith
grows n (ShardLine.Number z) l h = h
grows n (ShardLine.Extreme z) l h = h
grows n (ShardLine.Take xs) l h = let short = h.short in record { alike = h.alike; fit = h.fit; short = omega arith }
grows n (ShardLine.Cells cs) l h = all_grow (FitsCell (part_limits n)) (FitsCell widest) cs cell h
  where
    cell : (c : CellSum) → FitsCell (part_limits n) c → FitsCell widest c
    cell c f = let s = f.0 in let q = f.1 in (omega arith, omega arith)
grows n (ShardLine.Report cs) l h = all_grow (FitsCount (part_limits n)) (FitsCount widest) cs count h
  where
    count : (c : Counts) → FitsCount (part_limits n) c → FitsCount widest c
    count c f = let a = f.0 in let b = f.1 in (omega arith, omega arith)

pub lines_grow : (n : ℕ) (ls : List ShardLine) → n ≤ 16777216000000 → FitLines (part_limits n) ls → FitLines widest ls
lines_grow n ls l h = all_grow (FitsLine (part_limits n)) (FitsLine widest) ls (λ x f. grows n x l f) h

-- ---- what the test says

pub within_says : (n : ℕ) (l : ShardLine) → FitsLine widest l → is_within n l ≡ true → FitsLine (part_limits n) l
within_says n (ShardLine.Count k) f h = leb-true k n h
within_says n (ShardLine.Sum z) f h = leb-true (nat_abs z) (n * 2 ^ 75) h
within_says n (ShardLine.Number z) f h = f
within_says n (ShardLine.Extreme z) f h = f
within_says n (ShardLine.Take xs) f h = record { alike = f.alike; fit = f.fit; short = leb-true (length xs) n h }
within_says n (ShardLine.Cells cs) f h = all_says (is_cell_within n) (FitsCell (part_limits n)) cs cell h
  where
    cell : (c : CellSum) → is_cell_within n c ≡ true → FitsCell (part_limits n) c
    cell c t =
        let both = both_true (nat_le (nat_abs c.sum) (n * 2 ^ 43)) (nat_le (nat_abs c.squares) (n * 2 ^ 74)) t in
        (leb-true (nat_abs c.sum) (n * 2 ^ 43) both.0, leb-true (nat_abs c.squares) (n * 2 ^ 74) both.1)
within_says n (ShardLine.Report cs) f h = all_says (is_count_within n) (FitsCount (part_limits n)) cs count h
  where
    count : (c : Counts) → is_count_within n c ≡ true → FitsCount (part_limits n) c
    count c t = let both = both_true (nat_le c.all n) (nat_le c.pass n) t in (leb-true c.all n both.0, leb-true c.pass n both.1)

pub is_within_true : (n : ℕ) (l : ShardLine) → FitsLine (part_limits n) l → is_within n l ≡ true
is_within_true n (ShardLine.Count k) h = le-leb k n h
is_within_true n (ShardLine.Sum z) h = le-leb (nat_abs z) (n * 2 ^ 75) h
is_within_true n (ShardLine.Number z) h = refl
is_within_true n (ShardLine.Extreme z) h = refl
is_within_true n (ShardLine.Take xs) h = le-leb (length xs) n h.short
is_within_true n (ShardLine.Cells cs) h = all_true (is_cell_within n) (FitsCell (part_limits n)) cs cell h
  where
    cell : (c : CellSum) → FitsCell (part_limits n) c → is_cell_within n c ≡ true
    cell c f = ap₂ (λ a b. a && b) (le-leb (nat_abs c.sum) (n * 2 ^ 43) f.0) (le-leb (nat_abs c.squares) (n * 2 ^ 74) f.1)
is_within_true n (ShardLine.Report cs) h = all_true (is_count_within n) (FitsCount (part_limits n)) cs count h
  where
    count : (c : Counts) → FitsCount (part_limits n) c → is_count_within n c ≡ true
    count c f = ap₂ (λ a b. a && b) (le-leb c.all n f.0) (le-leb c.pass n f.1)
