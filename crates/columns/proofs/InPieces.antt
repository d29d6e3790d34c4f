-- Numbers in pieces, and the columns that are kept of a table.
use Rattle.lemmas.proofs.{◌≡◌, ◌≤◌, ◌<◌, ◌+◌, ◌-◌, ℕ, ℤ, List, [], ◌∷◌, ◌++◌, length, get_or, drop, take, max, min, refl, sym, ap, ap₂, ◌∙◌, arith, append-nil, length-append, zero, suc, map, Some, slice_get, pos, set, append_assoc, ◌*◌, ◌%◌, ◌^◌, ◌+ℤ◌, subst, All, drop-append-add, flat_map-append, take-put_mid, All-from_recursion, AllByRecursion, get_or_from_slice_get, slice_get-get_or, slice_get-map, slice_get_within, All-drop, All-take, drop_plus, Fits-lt-pow, Fits-of_z, FitsSigned, int_wrap-add_right, int_wrap_fits, to_z-of_z, wrapping_add-bits, each_append}
use borrow.Rule.Slice.PartMut.{mid_len, mid_of, put_mid}
use Rattle.std.proofs.lemmas.List.{drop-append-le, length-drop, length-take-le, take-append-drop, take-append-le, take_all, take_more, get_or-append-add, get_or_append_left, get_or-map, length-map, length-set, map-append, map-set, length-take, take_more_set}
use Rattle.columns.specs.{joined, cells_of, cluster_values, ColumnPieces, Holds, IsByCluster, whole, cells_joined, columns_joined, AreBlocks, AreNumbers, block_values, IsBlock, number_in, values_in}
use Rattle.rdf_values.specs.{AreKept, ColType, Column, count, cut, IsIntColumn, Keep, kind_at, rows_kept, Span, TableView, Value, below, cell_at, Cells, FitRows, HoldsTable, IsKept}
use Rattle.rdf_values.proofs.Evenly.{cuts_lead}
use Rattle.rdf_values.proofs.KeptLemmas.{ints_column, kept_within, no_ints, no_vects, vects_column, kept_length}
use Rattle.columns.specs.declared.kept.PackedColumn.{PackedColumn}
use Rattle.columns.proofs.BlockSteps.{ranges_joined, span_within, values_of_cluster, block_back, block_of, block_size, block_width, value_at}
use Rattle.rdf_values.proofs.UnionLemmas.{map-below}
use Rattle.std.specs.Int.{cast_signed, cast_unsigned, int_wrap}
use mir.Syntax.{w64}
use native.Mathlib.Nat.{add-mul}
use Rattle.columns.specs.declared.packed_ints.PackedCluster.{PackedCluster}
use Rattle.columns.specs.declared.packing.Packing.{Packing}

-- ---- the first pieces

pub joined_more : {A : Type 0} (pieces : List (List A)) (i : ℕ) (piece : List A) → piece ≡ get_or pieces i piece → i < length pieces → joined (take (i + 1) pieces) ≡ joined (take i pieces) ++ piece
joined_more pieces i piece e l =
    ap joined (take_more pieces i piece l) ∙ flat_map-append (λ p. p) (take i pieces) (get_or pieces i piece ∷ []) ∙ ap (λ ns. joined (take i pieces) ++ ns) (append-nil (get_or pieces i piece) ∙ sym e)

joined_parts : (pieces : List (List ℤ)) (i : ℕ) → joined (take i pieces) ++ joined (drop i pieces) ≡ joined pieces
joined_parts pieces i = sym (flat_map-append (λ p. p) (take i pieces) (drop i pieces)) ∙ ap joined (take-append-drop i pieces)

pub end_within : (pieces : List (List ℤ)) (i n : ℕ) (piece : List ℤ) → piece ≡ get_or pieces i piece → i < length pieces → n ≡ length (joined (take i pieces)) → n + length piece ≤ length (joined pieces)
end_within pieces i n piece e l s =
    let more = ap length (joined_more pieces i piece e l) in
    let all = ap length (joined_parts pieces (i + 1)) in
    omega (arith, more, all, s, length-append (joined (take i pieces)) piece, length-append (joined (take (i + 1) pieces)) (joined (drop (i + 1) pieces)))

pub size_more : (pieces : List (List ℤ)) (i n : ℕ) (piece : List ℤ) → piece ≡ get_or pieces i piece → i < length pieces → n ≡ length (joined (take i pieces)) → n + length piece ≡ length (joined (take (i + 1) pieces))
size_more pieces i n piece e l s =
    let more = ap length (joined_more pieces i piece e l) in
    omega (arith, more, s, length-append (joined (take i pieces)) piece)

-- ---- a range that stands in one piece

range_first : (xs ys : List ℤ) (lo hi : ℕ) → lo ≤ hi → hi ≤ length xs → take (hi - lo) (drop lo (xs ++ ys)) ≡ take (hi - lo) (drop lo xs)
range_first xs ys lo hi h l = grind (arith, length-drop, drop-append-le, take-append-le)

range_last : (xs ys : List ℤ) (n lo hi : ℕ) → n ≡ length xs → n ≤ lo → lo ≤ hi → take (hi - lo) (drop lo (xs ++ ys)) ≡ take (hi - n - (lo - n)) (drop (lo - n) ys)
range_last xs ys n lo hi s f h = grind (arith, drop-append-add)

pub in_piece : (pieces : List (List ℤ)) (i n : ℕ) (piece : List ℤ) (lo hi : ℕ) → piece ≡ get_or pieces i piece → i < length pieces → n ≡ length (joined (take i pieces)) → n ≤ lo → lo ≤ hi → hi ≤ n + length piece
    → take (hi - n - (lo - n)) (drop (lo - n) piece) ≡ take (hi - lo) (drop lo (joined pieces))
in_piece pieces i n piece lo hi e l s f h b =
    let size = size_more pieces i n piece e l s in
    let within : hi ≤ length (joined (take (i + 1) pieces)) = omega (arith, size, b) in
    sym (
    ap (λ ns. take (hi - lo) (drop lo ns)) (sym (joined_parts pieces (i + 1)))
    ∙ range_first (joined (take (i + 1) pieces)) (joined (drop (i + 1) pieces)) lo hi h within
    ∙ ap (λ ns. take (hi - lo) (drop lo ns)) (joined_more pieces i piece e l)
    ∙ range_last (joined (take i pieces)) piece n lo hi s f h)

-- ---- a range of several pieces

-- the numbers of a range are read as far as the first pieces go
pub record AreReadUpTo (pieces : List (List ℤ)) (lo n i before : ℕ) (numbers : List ℤ) : Type 0 where
  pub here : before ≡ length (joined (take i pieces))
  pub same : take (min (lo + n) before - lo) numbers ≡ take (min (lo + n) before - lo) (drop lo (joined pieces))

pub none_read : (pieces : List (List ℤ)) (lo n : ℕ) (numbers : List ℤ) → AreReadUpTo pieces lo n 0 0 numbers
none_read pieces lo n numbers = let none : min (lo + n) 0 - lo ≡ 0 = omega arith in record { here = refl; same = rw none refl }

-- no number of the range stands in the piece
pub read_on : (pieces : List (List ℤ)) (lo n i before after : ℕ) (piece numbers now : List ℤ) → AreReadUpTo pieces lo n i before numbers → piece ≡ get_or pieces i piece → i < length pieces → after ≡ before + length piece → after ≤ lo → now ≡ numbers
    → AreReadUpTo pieces lo n (i + 1) after now
read_on pieces lo n i before after piece numbers now r e l a b same = grind (arith, size_more)

-- the numbers of the range that stand in the piece are read
pub read_more : (pieces : List (List ℤ)) (lo n i before after from to : ℕ) (piece numbers part now : List ℤ) → AreReadUpTo pieces lo n i before numbers → piece ≡ get_or pieces i piece → i < length pieces → after ≡ before + length piece → length numbers ≡ n
    → before < lo + n → lo < after → from ≡ max lo before → to ≡ min (lo + n) after → part ≡ take (length (mid_of (from - lo) (to - lo - (from - lo)) numbers)) (drop (from - before) piece)
    → now ≡ put_mid (from - lo) (to - lo - (from - lo)) numbers part → AreReadUpTo pieces lo n (i + 1) after now
read_more pieces lo n i before after from to piece numbers part now r e l a long h b f t p q =
    let begins : before ≤ from = omega (arith, f) in
    let inside : lo ≤ from = omega (arith, f) in
    let some : from ≤ to = omega (arith, f, t, h, b, a) in
    let ends : to ≤ before + length piece = omega (arith, t, a) in
    let fits : to - lo ≤ length numbers = omega (arith, t, long) in
    let size = mid_len (from - lo) (to - lo) numbers fits in
    let sizes : to - lo - (from - lo) ≡ to - from = omega (arith, inside, some) in
    let counts : to - before - (from - before) ≡ to - from = omega (arith, begins, some) in
    let stands : part ≡ take (to - from) (drop from (joined pieces)) = p ∙ ap (λ (k : ℕ). take k (drop (from - before) piece)) (size ∙ sizes ∙ sym counts) ∙ in_piece pieces i before piece from to e l r.here begins some ends in
    let whole : length part ≡ to - from = rw stands (length-take-le (to - from) (drop from (joined pieces)) (omega (arith, length-drop from (joined pieces), end_within pieces i before piece e l r.here, ends))) in
    let so_far : min (lo + n) before - lo ≡ from - lo = omega (arith, f, h) in
    let now_far : min (lo + n) after - lo ≡ to - lo = omega (arith, t) in
    let front : take (to - lo) now ≡ take (from - lo) numbers ++ part = ap (take (to - lo)) q ∙ take-put_mid (from - lo) (to - lo - (from - lo)) numbers part (to - lo) (omega (arith, whole, inside, some)) (omega (arith, fits, some)) in
    record {
      here = a ∙ size_more pieces i before piece e l r.here;
      same = rw now_far (front ∙ ap₂ (λ xs ys. xs ++ ys) (rw so_far at r.same) stands ∙ ranges_joined (joined pieces) lo from to inside some);
    }

-- all are read
pub read_whole : (pieces : List (List ℤ)) (lo n i before : ℕ) (numbers : List ℤ) → AreReadUpTo pieces lo n i before numbers → length numbers ≡ n → lo + n ≤ before → numbers ≡ take n (drop lo (joined pieces))
read_whole pieces lo n i before numbers r long h = grind (arith, take_all)

pub read_to_the_end : (pieces : List (List ℤ)) (lo n i before : ℕ) (numbers : List ℤ) → AreReadUpTo pieces lo n i before numbers → length numbers ≡ n → length pieces ≤ i → lo + n ≤ length (joined pieces) → numbers ≡ take n (drop lo (joined pieces))
read_to_the_end pieces lo n i before numbers r long e h = grind (arith, take_all, read_whole)

-- ---- What is kept gives the table's columns.

pub col_within : (columns : List Column) (all : List PackedColumn) (n col : ℕ) (kind : ColType) → AreKept n columns (map cells_of all) → kind_at columns col ≡ Some kind → col < length all
col_within columns all n col kind h e = let l = kept_within columns (map cells_of all) n col kind h e in omega (arith, l, length-map all cells_of)

found : (columns : List Column) (all : List PackedColumn) (n col : ℕ) (kind : ColType) (x : PackedColumn) → AreKept n columns (map cells_of all) → kind_at columns col ≡ Some kind → x ≡ get_or all col x → slice_get (map cells_of all) col ≡ Some (cells_of x)
found columns all n col kind x h e q = grind (arith, slice_get-get_or, col_within, slice_get-map)

pub ints_found : (columns : List Column) (all : List PackedColumn) (n col : ℕ) (x : PackedColumn) (values : List (List ℤ)) → AreKept n columns (map cells_of all) → kind_at columns col ≡ Some ColType.Int → x ≡ get_or all col x → x ≡ PackedColumn.Ints values
    → map (λ row. slice_get row col) (rows_kept n (map cells_of all)) ≡ map (λ z. Some (Value.Int z)) (joined values)
ints_found columns all n col x values h e q i = ints_column columns (map cells_of all) n col (cells_of x) (joined values) h e (found columns all n col ColType.Int x h e q) (ap cells_of i)

pub vects_found : (columns : List Column) (all : List PackedColumn) (n col : ℕ) (x : PackedColumn) (vectors : List (List ℤ)) → AreKept n columns (map cells_of all) → kind_at columns col ≡ Some ColType.Vect → x ≡ get_or all col x → x ≡ PackedColumn.Vects vectors
    → map (λ row. slice_get row col) (rows_kept n (map cells_of all)) ≡ map (λ zs. Some (Value.Vect zs)) vectors
vects_found columns all n col x vectors h e q i = vects_column columns (map cells_of all) n col (cells_of x) vectors h e (found columns all n col ColType.Vect x h e q) (ap cells_of i)

pub not_vects : (columns : List Column) (all : List PackedColumn) (n col : ℕ) (x : PackedColumn) (vectors : List (List ℤ)) → AreKept n columns (map cells_of all) → kind_at columns col ≡ Some ColType.Int → x ≡ get_or all col x → x ≡ PackedColumn.Vects vectors → ⊥
not_vects columns all n col x vectors h e q i = no_vects columns (map cells_of all) n col (cells_of x) vectors h e (found columns all n col ColType.Int x h e q) (ap cells_of i)

pub not_ints : (columns : List Column) (all : List PackedColumn) (n col : ℕ) (x : PackedColumn) (values : List (List ℤ)) → AreKept n columns (map cells_of all) → kind_at columns col ≡ Some ColType.Vect → x ≡ get_or all col x → x ≡ PackedColumn.Ints values → ⊥
not_ints columns all n col x values h e q i = no_ints columns (map cells_of all) n col (cells_of x) (joined values) h e (found columns all n col ColType.Vect x h e q) (ap cells_of i)

at_by : (P : PackedColumn → Type 0) (all : List PackedColumn) (col : ℕ) (d : PackedColumn) → AllByRecursion P all → col < length all → P (get_or all col d)
at_by P all col d h l = All-from_recursion P all h col d l

pub by_cluster : (columns : List Column) (all : List PackedColumn) (n col : ℕ) (x : PackedColumn) (values : List (List ℤ)) (spans : List Span) → AreKept n columns (map cells_of all) → kind_at columns col ≡ Some ColType.Int → x ≡ get_or all col x → x ≡ PackedColumn.Ints values
    → AllByRecursion (IsByCluster spans) all → values ≡ cluster_values spans (joined values)
by_cluster columns all n col x values spans h e q i a = grind (arith, at_by, col_within)

-- ---- one number

pub cluster_at : (spans : List Span) (numbers : List ℤ) (c : ℕ) (s : Span) → slice_get spans c ≡ Some s → get_or (cluster_values spans numbers) c [] ≡ take (s.hi - s.lo) (drop s.lo numbers)
cluster_at spans numbers c s h = get_or_from_slice_get (cluster_values spans numbers) c _ [] (values_of_cluster spans numbers c s h)

pub cluster_there : (spans : List Span) (numbers : List ℤ) (c : ℕ) (s : Span) → slice_get spans c ≡ Some s → c < length (cluster_values spans numbers)
cluster_there spans numbers c s h = slice_get_within (cluster_values spans numbers) c _ (values_of_cluster spans numbers c s h)

pub get_taken : (xs : List ℤ) (n i : ℕ) → i < n → slice_get (take n xs) i ≡ slice_get xs i
get_taken [] zero i l = refl
get_taken [] (suc n) i l = refl
get_taken (x ∷ xs) zero i l = absurd (omega (arith, l))
get_taken (x ∷ xs) (suc n) zero l = refl
get_taken (x ∷ xs) (suc n) (suc i) l = get_taken xs n i (omega (arith, l))

pub get_dropped : (xs : List ℤ) (n i : ℕ) → slice_get (drop n xs) i ≡ slice_get xs (n + i)
get_dropped xs zero i = let e : i ≡ 0 + i = omega arith in ap (λ (k : ℕ). slice_get xs k) e
get_dropped [] (suc n) i = let e : suc n + i ≡ suc (n + i) = omega arith in sym (ap (λ (k : ℕ). slice_get [] k) e)
get_dropped (x ∷ xs) (suc n) i = let e : suc n + i ≡ suc (n + i) = omega arith in get_dropped xs n i ∙ sym (ap (λ (k : ℕ). slice_get (x ∷ xs) k) e)

pub number_here : (numbers : List ℤ) (s : Span) (entry : ℕ) → s.lo ≤ entry → entry < s.hi → slice_get (take (s.hi - s.lo) (drop s.lo numbers)) (entry - s.lo) ≡ slice_get numbers entry
number_here numbers s entry from below = grind (arith, get_taken, get_dropped)

pub place_here : (numbers : List ℤ) (s : Span) (entry : ℕ) → s.lo ≤ entry → entry < s.hi → s.hi ≤ length numbers → entry - s.lo < length (take (s.hi - s.lo) (drop s.lo numbers))
place_here numbers s entry from below few = omega (arith, from, below, few, length-take (s.hi - s.lo) (drop s.lo numbers), length-drop s.lo numbers)

pub entry_here : (n size : ℕ) (marks : List ℕ) (numbers : List ℤ) (values : List (List ℤ)) (entry c : ℕ) (s : Span) → values ≡ cluster_values (cut n size marks) numbers → length numbers ≡ n → Holds (cut n size marks) entry c
    → slice_get (cut n size marks) c ≡ Some s → (c < length values) × (s.lo ≤ entry) × (entry - s.lo < length (get_or values c [])) × (slice_get (get_or values c []) (entry - s.lo) ≡ slice_get numbers entry)
entry_here n size marks numbers values entry c s e l held at =
    let spans = cut n size marks in
    let same : held.range ≡ s = cc (sym held.stands ∙ at) in
    let lo : held.range.lo ≡ s.lo = ap (λ (x : Span). x.lo) same in
    let hi : held.range.hi ≡ s.hi = ap (λ (x : Span). x.hi) same in
    let hf = held.from in
    let hb = held.below in
    let from : s.lo ≤ entry = omega (arith, hf, lo) in
    let below : entry < s.hi = omega (arith, hb, hi) in
    let within = span_within spans 0 n c s (cuts_lead n size marks) at in
    let top = within.2 in
    let few : s.hi ≤ length numbers = omega (arith, top, l) in
    rw (e, cluster_at spans numbers c s at) (cluster_there spans numbers c s at, from, place_here numbers s entry from below few, number_here numbers s entry from below)

one_list : (xs ys : List ℤ) → map (λ z. Some (Value.Int z)) xs ≡ map (λ z. Some (Value.Int z)) ys → xs ≡ ys
one_list [] [] h = refl
one_list (x ∷ xs) (y ∷ ys) h = grind (arith, one_list xs ys)
one_list xs ys h = cc h

pub cluster_numbers : (table : TableView) (col : ℕ) (spans : List Span) (values : List (List ℤ)) (numbers : List ℤ) (c : ℕ) (s : Span) → IsIntColumn table col (joined values) → IsIntColumn table col numbers
    → values ≡ cluster_values spans (joined values) → slice_get spans c ≡ Some s → get_or values c [] ≡ take (s.hi - s.lo) (drop s.lo numbers)
cluster_numbers table col spans values numbers c s h k e at =
    let same = one_list (joined values) numbers (sym h ∙ k) in
    ap (λ (vs : List (List ℤ)). get_or vs c []) (e ∙ ap (cluster_values spans) same) ∙ cluster_at spans numbers c s at

-- each of the columns that are taken in turn keeps so many values
pub keep_next : (n : ℕ) (taken : List ColumnPieces) (x : ColumnPieces) (rest all : List ColumnPieces) → Keep n (map whole all) → all ≡ taken ++ x ∷ rest → count (whole x) ≡ n
keep_next n [] x rest all h e = (rw e at h).0
keep_next n (y ∷ ys) x rest all h e = keep_next n ys x rest (ys ++ x ∷ rest) (rw e at h).1 refl

-- ---- columns in two halves

pub keep_front : (n k : ℕ) (all : List ColumnPieces) → Keep n (map whole all) → Keep n (map whole (take k all))
keep_front n (suc k) (x ∷ xs) h = (h.0, keep_front n k xs h.1)
keep_front n k all h = grind arith

pub keep_back : (n k : ℕ) (all : List ColumnPieces) → Keep n (map whole all) → Keep n (map whole (drop k all))
keep_back n (suc k) (x ∷ xs) h = keep_back n k xs h.1
keep_back n k all h = grind arith

pub halves_joined : (k : ℕ) (all first last : List ColumnPieces) (front back both : List PackedColumn) → first ≡ take k all → last ≡ drop k all → map cells_of front ≡ map whole first → map cells_of back ≡ map whole last → both ≡ front ++ back
    → map cells_of both ≡ map whole all
halves_joined k all first last front back both t d f b e =
    ap (map cells_of) e ∙ map-append cells_of front back ∙ ap₂ (λ xs ys. xs ++ ys) (f ∙ ap (map whole) t) (b ∙ ap (map whole) d) ∙ sym (map-append whole (take k all) (drop k all)) ∙ ap (map whole) (take-append-drop k all)

pub halves_by_cluster : (spans : List Span) (front back both : List PackedColumn) → AllByRecursion (IsByCluster spans) front → AllByRecursion (IsByCluster spans) back → both ≡ front ++ back → AllByRecursion (IsByCluster spans) both
halves_by_cluster spans front back both f b e = rw e (each_append (IsByCluster spans) front back f b)

-- ---- columns of a table with those of another behind them: the first columns have others behind them

pub alone : (xs more : List Cells) (n : ℕ) → n ≡ 0 → columns_joined xs (take n more) ≡ xs
alone [] more n e = refl
alone (x ∷ xs) more n e = rw e refl

joined_set : (i : ℕ) (xs more : List Cells) (x y : Cells) → i < length xs → i < length more
    → set (columns_joined xs (take i more)) i (cells_joined (get_or (columns_joined xs (take i more)) i x) (get_or more i y)) ≡ columns_joined xs (take (suc i) more)
joined_set i [] more x y h l = absurd (omega arith)
joined_set i (w ∷ ws) [] x y h l = absurd (omega arith)
joined_set zero (w ∷ ws) (u ∷ more) x y h l = ap (λ t. cells_joined w u ∷ t) (sym (alone ws more 0 refl))
joined_set (suc i) (w ∷ ws) (u ∷ more) x y h l = ap (λ t. cells_joined w u ∷ t) (joined_set i ws more x y (omega arith) (omega arith))

columns_more : (i : ℕ) (xs at more : List Cells) (d new y : Cells) → at ≡ columns_joined xs (take i more) → i < length more → length more ≡ length xs → y ≡ get_or more i y → new ≡ cells_joined (get_or at i d) y
    → set at i new ≡ columns_joined xs (take (i + 1) more)
columns_more i xs at more d new y a l w q n = grind (arith, joined_set)

-- ---- the rows of the second stand behind those of the first

-- a column with another behind it
record CellsJoin (kind : ColType) (x y : Cells) (n m : ℕ) : Type 0 where
  kept : IsKept kind (n + m) (cells_joined x y)
  first : (e : ℕ) → e < n → cell_at e (cells_joined x y) ≡ cell_at e x
  second : (e : ℕ) → cell_at (n + e) (cells_joined x y) ≡ cell_at e y

cells_join : (kind : ColType) (x y : Cells) (n m : ℕ) → IsKept kind n x → IsKept kind m y → CellsJoin kind x y n m
cells_join ColType.Int (Cells.Ints ns) (Cells.Ints ms) n m h l = record {
  kept = omega (arith, h, l, length-append ns ms);
  first = λ e t. ap Value.Int (get_or_append_left ns ms (pos 0) e (omega (arith, h)));
  second = λ e. rw (← h) (ap Value.Int (get_or-append-add ns ms e (pos 0)));
}
cells_join ColType.Int (Cells.Ints ns) (Cells.Vects ws) n m h l = absurd l
cells_join ColType.Vect (Cells.Vects vs) (Cells.Ints ms) n m h l = absurd l
cells_join ColType.Vect (Cells.Vects vs) (Cells.Vects ws) n m h l = record {
  kept = omega (arith, h, l, length-append vs ws);
  first = λ e t. ap Value.Vect (get_or_append_left vs ws [] e (omega (arith, h)));
  second = λ e. rw (← h) (ap Value.Vect (get_or-append-add vs ws e []));
}
cells_join k x y n m h l = absurd h

-- columns with others behind them
record ColumnsJoin (columns : List Column) (xs ys : List Cells) (n m : ℕ) : Type 0 where
  kept : AreKept (n + m) columns (columns_joined xs ys)
  first : (e : ℕ) → e < n → map (cell_at e) (columns_joined xs ys) ≡ map (cell_at e) xs
  second : (e : ℕ) → map (cell_at (n + e)) (columns_joined xs ys) ≡ map (cell_at e) ys

columns_join : (columns : List Column) (xs ys : List Cells) (n m : ℕ) → AreKept n columns xs → AreKept m columns ys → ColumnsJoin columns xs ys n m
columns_join [] [] [] n m h l = record { kept = tt; first = λ e t. refl; second = λ e. refl }
columns_join [] [] (y ∷ ys) n m h l = absurd l
columns_join [] (x ∷ xs) ys n m h l = absurd h
columns_join (c ∷ cs) [] ys n m h l = absurd h
columns_join (c ∷ cs) (x ∷ xs) [] n m h l = absurd l
columns_join (c ∷ cs) (x ∷ xs) (y ∷ ys) n m h l =
    let one = cells_join c.kind x y n m h.0 l.0 in
    let others = columns_join cs xs ys n m h.1 l.1 in
    record {
      kept = (one.kept, others.kept);
      first = λ e t. ap₂ (λ z zs. z ∷ zs) (one.first e t) (others.first e t);
      second = λ e. ap₂ (λ z zs. z ∷ zs) (one.second e) (others.second e);
    }

rows_below : (columns : List Column) (xs ys : List Cells) (n m t : ℕ) → AreKept n columns xs → AreKept m columns ys
    → map (λ e. map (cell_at e) (columns_joined xs ys)) (below (n + t)) ≡ map (λ e. map (cell_at e) xs) (below n) ++ map (λ e. map (cell_at e) ys) (below t)
rows_below columns xs ys n m zero h l =
    let none : n + 0 ≡ n = omega arith in
    rw (none, append-nil (map (λ e. map (cell_at e) xs) (below n))) (map-below n (λ e. map (cell_at e) (columns_joined xs ys)) (λ e. map (cell_at e) xs) (columns_join columns xs ys n m h l).first)
rows_below columns xs ys n m (suc t) h l =
    let next : n + suc t ≡ suc (n + t) = omega arith in
    rw (next, map-append (λ e. map (cell_at e) (columns_joined xs ys)) (below (n + t)) ((n + t) ∷ []), map-append (λ e. map (cell_at e) ys) (below t) (t ∷ []), rows_below columns xs ys n m t h l, (columns_join columns xs ys n m h l).second t)
    (append_assoc (map (λ e. map (cell_at e) xs) (below n)) (map (λ e. map (cell_at e) ys) (below t)) (map (cell_at t) ys ∷ []))

pub rows_joined : (columns : List Column) (xs ys : List Cells) (n m : ℕ) → AreKept n columns xs → AreKept m columns ys → rows_kept (n + m) (columns_joined xs ys) ≡ rows_kept n xs ++ rows_kept m ys
unfolding rows_kept
rows_joined columns xs ys n m h l = rows_below columns xs ys n m m h l

fit_append : (columns : List Column) (xs ys : List (List Value)) → FitRows columns xs → FitRows columns ys → FitRows columns (xs ++ ys)
fit_append columns [] ys h l = l
fit_append columns (x ∷ xs) ys h l = (h.0, fit_append columns xs ys h.1 l)

pub holds_joined : (columns : List Column) (xs ys at : List Cells) (n m t : ℕ) → HoldsTable columns xs n → HoldsTable columns ys m → n + m ≤ 1000000 → at ≡ columns_joined xs ys → t ≡ n + m → HoldsTable columns at t
holds_joined columns xs ys at n m t h l few a s = grind (arith, columns_join, rows_joined, fit_append)

-- two tables of one header
pub same_count : (columns others : List Column) (xs ys : List Cells) (n m : ℕ) → AreKept n columns xs → AreKept m others ys → others ≡ columns → length ys ≡ length xs
same_count columns others xs ys n m h l e = kept_length others ys m l ∙ ap length e ∙ sym (kept_length columns xs n h)

-- ---- the pieces of one more column

piece_next : (more rest : List ColumnPieces) (i : ℕ) (y d : ColumnPieces) → drop i more ≡ y ∷ rest → (i < length more) × (get_or more i d ≡ y) × (drop (i + 1) more ≡ rest)
piece_next more rest zero y d e = rw e (omega arith, refl, refl)
piece_next [] rest (suc i) y d e = cc e
piece_next (x ∷ more) rest (suc i) y d e =
    let next = piece_next more rest i y d e in
    let lt = next.0 in
    let on : suc i + 1 ≡ suc (i + 1) = omega arith in
    (omega (arith, lt), next.1, ap (λ (k : ℕ). drop k (x ∷ more)) on ∙ next.2)

pub pieces_more : (xs at more rest : List ColumnPieces) (i col j : ℕ) (new old y : ColumnPieces) → map whole at ≡ columns_joined (map whole xs) (take i (map whole more)) → drop i more ≡ y ∷ rest → length more ≡ length xs → length at ≡ length xs → col ≡ i → j ≡ i + 1
    → old ≡ get_or at col old → whole new ≡ cells_joined (whole old) (whole y) → (map whole (set at col new) ≡ columns_joined (map whole xs) (take j (map whole more))) × (drop j more ≡ rest) × (length (set at col new) ≡ length xs)
pieces_more xs at more rest i col j new old y a e l k c n o w =
    let next = piece_next more rest i y new e in
    let lt = next.0 in
    let here : i < length at = omega (arith, lt, l, k) in
    let there : i < length (map whole more) = omega (arith, lt, length-map more whole) in
    let wide : length (map whole more) ≡ length (map whole xs) = omega (arith, l, length-map more whole, length-map xs whole) in
    let his : whole y ≡ get_or (map whole more) i (whole y) = sym (get_or-map whole more i new (whole y) lt ∙ ap whole next.1) in
    let was : old ≡ get_or at i old = o ∙ ap (λ (k : ℕ). get_or at k old) c in
    let own : whole new ≡ cells_joined (get_or (map whole at) i (whole new)) (whole y) = w ∙ ap (λ z. cells_joined z (whole y)) (ap whole was ∙ sym (get_or-map whole at i old (whole new) here)) in
    rw (c, n) (map-set whole at i new ∙ columns_more i (map whole xs) (map whole at) (map whole more) (whole new) (whole new) (whole y) a there wide his own, next.2, omega (arith, k, length-set at i new))

pub pieces_all : (xs more rest : List ColumnPieces) (i : ℕ) → drop i more ≡ rest → length rest ≡ 0 → columns_joined (map whole xs) (take i (map whole more)) ≡ columns_joined (map whole xs) (map whole more)
pieces_all xs more rest i e n = grind (arith, length-drop, take_all, length-map)

pub same_pieces : (xs more : List ColumnPieces) → length (map whole more) ≡ length (map whole xs) → length more ≡ length xs
same_pieces xs more l = omega (arith, l, length-map more whole, length-map xs whole)

-- ---- numbers are read from their bytes: one number more

pub length-values_in : (least : ℤ) (w n : ℕ) (bs : List ℕ) → length (values_in least w n bs) ≡ n
length-values_in least w zero bs = refl
length-values_in least w (suc n) bs = omega (arith, length-values_in least w n (drop w bs))

wrapped_small : (d : ℕ) → d < 2 ^ 64 → int_wrap w64 (pos d) ≡ cast_signed w64 d
unfolding int_wrap
wrapped_small d l = let same : d % 2 ^ 64 ≡ d = omega (arith, l) in ap (cast_signed w64) same

-- a sum in 64 bits
sum_back : (a : ℤ) (d : ℕ) → FitsSigned w64 a → d < 2 ^ 64 → FitsSigned w64 (a +ℤ pos d) → cast_signed w64 ((cast_unsigned w64 a + d) % 2 ^ 64) ≡ a +ℤ pos d
sum_back a d f l g = grind (arith, Fits-lt-pow, Fits-of_z, wrapped_small, wrapping_add-bits, to_z-of_z, int_wrap-add_right, int_wrap_fits)

pub read_step : (least : ℤ) (w n : ℕ) (bs : List ℕ) (numbers : List ℤ) (i d : ℕ) (z : ℤ) → length numbers ≡ n → i < n → FitsSigned w64 least → All (FitsSigned w64) (values_in least w n bs) → d < 2 ^ 64 → d ≡ number_in w (drop (i * w) bs)
    → z ≡ cast_signed w64 ((cast_unsigned w64 least + d) % 2 ^ 64) → take i numbers ≡ take i (values_in least w n bs) → take (i + 1) (set numbers i z) ≡ take (i + 1) (values_in least w n bs)
read_step least w n bs numbers i d z long low f words l e sum so_far =
    let values = values_in least w n bs in
    let within : i < length values = omega (arith, length-values_in least w n bs, low) in
    let room : i < length numbers = omega (arith, long, low) in
    let at : get_or values i (pos 0) ≡ least +ℤ pos d = cc (sym (slice_get-get_or values i (pos 0) within) ∙ value_at least w n bs i low ∙ ap (λ k. Some (least +ℤ pos k)) (sym e)) in
    let word : FitsSigned w64 (least +ℤ pos d) = subst (FitsSigned w64) at (words i (pos 0) within) in
    let same : z ≡ get_or values i (pos 0) = sum ∙ sum_back least d f l word ∙ sym at in
    take_more_set numbers i z room ∙ ap₂ (λ xs y. xs ++ y ∷ []) so_far same ∙ sym (take_more values i (pos 0) within)

-- ---- numbers of a block

first_values : (least : ℤ) (w m n : ℕ) (bs : List ℕ) → n ≤ m → take n (values_in least w m bs) ≡ values_in least w n bs
first_values least w m zero bs l = refl
first_values least w zero (suc n) bs l = absurd (omega (arith, l))
first_values least w (suc m) (suc n) bs l = ap (λ xs. (least +ℤ pos (number_in w bs)) ∷ xs) (first_values least w m n (drop w bs) (omega (arith, l)))

later_values : (least : ℤ) (w i n : ℕ) (bs : List ℕ) → drop i (values_in least w (i + n) bs) ≡ values_in least w n (drop (i * w) bs)
later_values least w zero n bs = let none : 0 ≡ 0 * w = omega arith in let all : 0 + n ≡ n = omega arith in ap₂ (λ (m k : ℕ). values_in least w m (drop k bs)) all none
later_values least w (suc i) n bs =
    let all : suc i + n ≡ suc (i + n) = omega arith in
    let wide : w + i * w ≡ suc i * w = omega (arith, add-mul i 1 w) in
    ap (λ (m : ℕ). drop (suc i) (values_in least w m bs)) all ∙ later_values least w i n (drop w bs) ∙ ap (values_in least w n) (drop_plus w (i * w) bs ∙ ap (λ (k : ℕ). drop k bs) wide)

-- some of a block's numbers, and their bytes
some_inside : (bytes : List ℕ) (b : PackedCluster) (values : List ℤ) (i n : ℕ) → IsBlock bytes b values → i + n ≤ length values → b.begin + i * b.packing.width + n * b.packing.width ≤ length bytes
some_inside bytes b values i n h l = grind (arith, block_size)

some_values : (bytes : List ℕ) (b : PackedCluster) (values : List ℤ) (i n : ℕ) → IsBlock bytes b values → i + n ≤ length values → values_in b.packing.least b.packing.width n (drop (b.begin + i * b.packing.width) bytes) ≡ take n (drop i values)
some_values bytes b values i n h l =
    let p = b.packing in
    let m = b.entries - i in
    let all : i + m ≡ b.entries = omega (arith, l, h.entries) in
    let whole : values_in p.least p.width (i + m) (drop b.begin bytes) ≡ values = ap (λ (k : ℕ). values_in p.least p.width k (drop b.begin bytes)) all ∙ block_back bytes b values h in
    let later : drop i values ≡ values_in p.least p.width m (drop (b.begin + i * p.width) bytes) =
    ap (drop i) (sym whole) ∙ later_values p.least p.width i m (drop b.begin bytes) ∙ ap (values_in p.least p.width m) (drop_plus b.begin (i * p.width) bytes) in
    sym (ap (take n) later ∙ first_values p.least p.width m n (drop (b.begin + i * p.width) bytes) (omega (arith, l, h.entries)))

-- a block's numbers from a place on
pub record FromPlace (bytes : List ℕ) (b : PackedCluster) (values : List ℤ) (i : ℕ) : Type 0 where
  pub inside : b.begin + i * b.packing.width ≤ length bytes
  pub numbers : (n : ℕ) → i + n ≤ length values → AreNumbers b.packing (drop (b.begin + i * b.packing.width) bytes) n (take n (drop i values))

from_place : (bytes : List ℕ) (b : PackedCluster) (values : List ℤ) (i : ℕ) → IsBlock bytes b values → i ≤ length values → FromPlace bytes b values i
from_place bytes b values i h l = record {
  inside = omega (arith, some_inside bytes b values i 0 h (omega (arith, l)));
  numbers = λ n m. record {
    inside = omega (arith, some_inside bytes b values i n h m, length-drop (b.begin + i * b.packing.width) bytes);
    width = block_width bytes b values h;
    spelt = some_values bytes b values i n h m;
    words = rw (some_values bytes b values i n h m) (All-take (FitsSigned w64) n (drop i values) (All-drop (FitsSigned w64) i values h.words));
  };
}

pub there : (bytes : List ℕ) (bs : List PackedCluster) (c i : ℕ) (b : PackedCluster) (views : List (List ℤ)) → AreBlocks bytes bs (map (block_values bytes) bs) → map (block_values bytes) bs ≡ views → c < length views → b ≡ get_or bs c b → i ≤ length (get_or views c [])
    → FromPlace bytes b (get_or views c []) i
there bytes bs c i b views h v l e many =
    from_place bytes b (get_or views c []) i
    (subst (λ (vs : List (List ℤ)). IsBlock bytes b (get_or vs c [])) v (block_of bytes bs c b h (rw v l) e)) many

-- the first of them, which stands at the place
pub number_there : (p : Packing) (bytes : List ℕ) (values : List ℤ) (i d : ℕ) (z : ℤ) → AreNumbers p bytes 1 (take 1 (drop i values)) → FitsSigned w64 p.least → d < 2 ^ 64 → d ≡ number_in p.width bytes
    → z ≡ cast_signed w64 ((cast_unsigned w64 p.least + d) % 2 ^ 64) → slice_get values i ≡ Some z
number_there p bytes values i d z h f l e sum =
    let word : FitsSigned w64 (p.least +ℤ pos d) = rw e (h.words 0 (pos 0) (omega arith)) in
    let here : i + 0 ≡ i = omega arith in
    rw (sum ∙ sum_back p.least d f l word, e) (sym (ap (slice_get values) here) ∙ sym (get_dropped values i 0) ∙ sym (get_taken (drop i values) 1 0 (omega arith)) ∙ ap (λ (zs : List ℤ). slice_get zs 0) (sym h.spelt))

-- the bytes from a place on
pub bytes_from : (bytes : List ℕ) (k : ℕ) → take (length bytes - k) (drop k bytes) ≡ drop k bytes
bytes_from bytes k = take_all (length bytes - k) (drop k bytes) (omega (arith, length-drop k bytes))

-- ---- numbers of a column

pub cluster_long : (n size : ℕ) (marks : List ℕ) (numbers : List ℤ) (values : List (List ℤ)) (c : ℕ) (s : Span) → values ≡ cluster_values (cut n size marks) numbers → length numbers ≡ n → slice_get (cut n size marks) c ≡ Some s
    → (c < length values) × (s.hi - s.lo ≤ length (get_or values c []))
cluster_long n size marks numbers values c s e l at =
    let spans = cut n size marks in
    let top = (span_within spans 0 n c s (cuts_lead n size marks) at).2 in
    rw (e, cluster_at spans numbers c s at) (cluster_there spans numbers c s at, omega (arith, top, l, length-take (s.hi - s.lo) (drop s.lo numbers), length-drop s.lo numbers))

pub number_read : (n size : ℕ) (marks : List ℕ) (numbers : List ℤ) (values : List (List ℤ)) (c : ℕ) (s : Span) (lo count : ℕ) (new more : List ℤ) → values ≡ cluster_values (cut n size marks) numbers → length numbers ≡ n → slice_get (cut n size marks) c ≡ Some s → s.lo ≤ lo
    → lo + count ≤ s.hi → new ≡ take count (drop (lo - s.lo) (get_or values c [])) → (p : ℕ) → p < count → slice_get numbers (lo + p) ≡ Some (get_or (new ++ more) p (pos 0))
number_read n size marks numbers values c s lo count new more e l at from within is p low =
    let xs = get_or values c [] in
    let f = lo - s.lo in
    let long = (cluster_long n size marks numbers values c s e l at).1 in
    let here = entry_here n size marks numbers values (lo + p) c s e l (record { range = s; stands = at; from = omega (arith, from); below = omega (arith, within, low) }) at in
    let place : f + p ≡ lo + p - s.lo = omega (arith, from) in
    let size : p < length new = rw is (omega (arith, low, from, within, long, length-take count (drop f xs), length-drop f xs)) in
    sym here.3 ∙ ap (λ (k : ℕ). slice_get xs k) (sym place) ∙ sym (get_dropped xs f p) ∙ sym (get_taken (drop f xs) count p low) ∙ ap (λ zs. slice_get zs p) (sym is) ∙ slice_get-get_or new p (pos 0) size
    ∙ ap Some (sym (get_or_append_left new more (pos 0) p size))
