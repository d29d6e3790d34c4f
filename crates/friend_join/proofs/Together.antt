-- A friend that is joined by its keys: what the columns hold, and the table that they are.
use Rattle.lemmas.proofs.{◌≡◌, ◌≤◌, ◌<◌, ◌+◌, ℕ, ℤ, List, ◌++◌, length, map, get_or, refl, ap, ap₂, ◌∙◌, sym, arith, subst, Option, Some, slice_get, length-map, length-remove, remove, sum_by}
use Rattle.rdf_values.specs.{AreKept, Cells, ColType, Column, count, Has64Bits, HoldsTable, IsHeader, IsKept, kind_at, rows_kept, TableView, Value}
use Rattle.rdf_values.proofs.KeptLemmas.{found_cells, kept_at, kept_within, kept_length}
use Rattle.columns.specs.{ColumnPieces, whole}
use Rattle.friend_join.specs.{AreBelow, AreEntries, AreInts, AreSmall, column_elements, elements, entry_of, first_repeat, ints_in, joined_row, joined_table, KeyedTable, keys_of, matched_cells, matched_elements}
use Rattle.friend_join.proofs.Counting.{all_small, elements_joined, small_remove}
use Rattle.friend_join.proofs.Fitting.{entries_of_each, holds_joined, kept_remove}
use Rattle.friend_join.proofs.JoinedRows.{keys_kept, matches_below, rows_joined}

-- an int column keeps numbers, one per entry
ints_kept : (n : ℕ) (x : Cells) → IsKept ColType.Int n x → AreInts x × (length (ints_in x) ≡ n)
ints_kept n (Cells.Ints ns) h = (tt, h)
ints_kept n (Cells.Vects vs) h = absurd h

pub int_column : (columns : List Column) (xs : List Cells) (n col : ℕ) (x : Cells) → AreKept n columns xs → kind_at columns col ≡ Some ColType.Int → x ≡ get_or xs col x
    → (slice_get xs col ≡ Some x) × AreInts x × (length (ints_in x) ≡ n)
int_column columns xs n col x h e q =
    let p = kept_at columns xs n col ColType.Int h e in
    let there = found_cells columns xs n col ColType.Int x h e q in
    let same : p.0 ≡ x = cc (p.1, there) in
    let ints = ints_kept n x (subst (IsKept ColType.Int n) same p.2) in
    (there, ints.0, ints.1)

pub count_ints : (x : Cells) → AreInts x → count x ≡ length (ints_in x)
count_ints (Cells.Ints ns) h = refl
count_ints (Cells.Vects vs) h = absurd h

module _ (missing : ℤ) (mc fc : List Column) (xs ys : List Cells) (n m own other : ℕ) (x y : Cells) (h : HoldsTable mc xs n) (l : HoldsTable fc ys m)
    (at : kind_at mc own ≡ Some ColType.Int) (is : kind_at fc other ≡ Some ColType.Int) (x_is : x ≡ get_or xs own x) (y_is : y ≡ get_or ys other y) where
  abbrev pub main : KeyedTable
  main = record { table = record { columns = mc; rows = rows_kept n xs }; key = own }

  abbrev pub friend : KeyedTable
  friend = record { table = record { columns = fc; rows = rows_kept m ys }; key = other }

  abbrev pub matches : List (Option ℕ)
  matches = map (entry_of (ints_in y)) (ints_in x)

  abbrev gathered : List Cells
  gathered = map (matched_cells missing matches) (remove ys other)

  pub own_ints : AreInts x
  own_ints = (int_column mc xs n own x h.kept at x_is).1

  pub key_ints : AreInts y
  key_ints = (int_column fc ys m other y l.kept is y_is).1

  pub key_count : length (ints_in y) ≡ m
  key_count = (int_column fc ys m other y l.kept is y_is).2

  pub keys_are : keys_of friend ≡ ints_in y
  keys_are = keys_kept fc ys m other y (int_column fc ys m other y l.kept is y_is).0 key_ints key_count

  pub matches_many : length matches ≡ n
  matches_many = length-map (ints_in x) (entry_of (ints_in y)) ∙ (int_column mc xs n own x h.kept at x_is).2

  pub matches_under : AreBelow m matches
  matches_under = matches_below (ints_in y) (ints_in x) m key_count

  joined_rows : rows_kept n (xs ++ gathered) ≡ map (joined_row main friend missing) (rows_kept n xs)
  joined_rows =
      rows_joined missing mc fc xs ys n m own other x y h.kept l.kept (int_column mc xs n own x h.kept at x_is).0 own_ints (int_column mc xs n own x h.kept at x_is).2
      (int_column fc ys m other y l.kept is y_is).0 key_ints key_count

  pub is_joined : record { columns = mc ++ remove fc other; rows = rows_kept n (xs ++ gathered) } ≡ joined_table main friend missing
  is_joined = ap (λ (rows : List (List Value)). let t : TableView = record { columns = mc ++ remove fc other; rows = rows } in t) joined_rows

  module _ (header : IsHeader (mc ++ remove fc other)) (bits : Has64Bits missing) where
    pub holds_together : HoldsTable (mc ++ remove fc other) (xs ++ gathered) n
    holds_together = holds_joined main friend missing matches mc fc xs ys n m h l refl header bits matches_many joined_rows

    pub count_joined : sum_by column_elements xs + sum_by (matched_elements matches) (remove ys other) ≡ elements (joined_table main friend missing).rows
    count_joined = elements_joined missing matches n (mc ++ remove fc other) xs (remove ys other) holds_together.kept ∙ ap elements joined_rows

    -- the same of what the code holds
    pub holds_as : (cs : List Column) (zs : List Cells) (ms : List (Option ℕ)) (z : ℤ) → cs ≡ remove fc other → zs ≡ remove ys other → ms ≡ matches → z ≡ missing → HoldsTable (mc ++ cs) (xs ++ map (matched_cells z ms) zs) n
    holds_as cs zs ms z a b e f = rw (a, b, e, f) holds_together

    pub table_as : (t : TableView) (cs : List Column) (zs : List Cells) (ms : List (Option ℕ)) (z : ℤ) → cs ≡ remove fc other → zs ≡ remove ys other → ms ≡ matches → z ≡ missing
        → t ≡ record { columns = mc ++ cs; rows = rows_kept n (xs ++ map (matched_cells z ms) zs) } → t ≡ joined_table main friend missing
    table_as t cs zs ms z a b e f h = rw (a, b, e, f) at h ∙ is_joined

    pub count_as : (a b : ℕ) (zs : List Cells) (ms : List (Option ℕ)) → zs ≡ remove ys other → ms ≡ matches → a ≡ sum_by column_elements xs → b ≡ sum_by (matched_elements ms) zs → a + b ≡ elements (joined_table main friend missing).rows
    count_as a b zs ms e f p q = ap₂ (λ (i j : ℕ). i + j) p (q ∙ ap₂ (λ (m : List (Option ℕ)) (l : List Cells). sum_by (matched_elements m) l) f e) ∙ count_joined

  -- the matches are entries of the columns that are laid out anew
  pub entries_as : (zs : List Cells) (ms : List (Option ℕ)) → zs ≡ remove ys other → ms ≡ matches → AreEntries ms zs
  entries_as zs ms e f = rw (e, f) (entries_of_each matches m (remove fc other) (remove ys other) (kept_remove m fc ys other l.kept) matches_under)

  pub others_few : (zs : List Cells) → zs ≡ remove ys other → length zs ≤ 64
  others_few zs e =
      let wide = kept_length fc ys m l.kept in
      let few = l.header.few in
      let less = length-remove ys other (kept_within fc ys m other ColType.Int l.kept is) in
      let same = ap length e in
      omega (arith, wide, few, less, same)

  pub others_small : (zs : List Cells) → zs ≡ remove ys other → AreSmall zs
  others_small zs e = subst AreSmall (sym e) (small_remove ys other (all_small fc ys m l))

  pub matches_few : (ms : List (Option ℕ)) → ms ≡ matches → length ms ≤ 1000000
  matches_few ms e = let same = ap length e in let few = h.few in omega (arith, matches_many, same, few)

  pub no_repeat : (o : Option ℕ) → first_repeat (ints_in y) ≡ o → first_repeat (keys_of friend) ≡ o
  no_repeat o e = ap first_repeat keys_are ∙ e

  pub few_keys : count y ≤ 1000000
  few_keys = let few = l.few in omega (arith, count_ints y key_ints, key_count, few)

-- the columns in pieces are as many as their names
pub pieces_within : (columns : List Column) (pieces : List ColumnPieces) (n col : ℕ) → AreKept n columns (map whole pieces) → kind_at columns col ≡ Some ColType.Int → col < length pieces
pieces_within columns pieces n col h e = let l = kept_within columns (map whole pieces) n col ColType.Int h e in omega (arith, l, length-map pieces whole)

pub pieces_few : (columns : List Column) (pieces now : List ColumnPieces) (n : ℕ) → HoldsTable columns (map whole pieces) n → now ≡ pieces → length now ≤ 64
pieces_few columns pieces now n h e =
    let wide = kept_length columns (map whole pieces) n h.kept in
    let few = h.header.few in
    let same = ap length e in
    omega (arith, wide, few, same, length-map pieces whole)

pub pieces_small : (columns : List Column) (pieces now : List ColumnPieces) (n : ℕ) → HoldsTable columns (map whole pieces) n → now ≡ pieces → AreSmall (map whole now)
pieces_small columns pieces now n h e = rw e (all_small columns (map whole pieces) n h)

pub columns_within : (columns : List Column) (xs : List Cells) (n col : ℕ) → AreKept n columns xs → kind_at columns col ≡ Some ColType.Int → col < length columns
columns_within columns xs n col h e = let l = kept_within columns xs n col ColType.Int h e in let wide = kept_length columns xs n h in omega (arith, l, wide)
