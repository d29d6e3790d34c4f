-- The rows of a table with a friend's columns that are laid out anew.
use Rattle.lemmas.proofs.{◌≡◌, ◌<◌, ◌+◌, ℕ, ℤ, zero, suc, pos, Bool, true, false, List, [], ◌∷◌, ◌++◌, length, map, filter, get_or, refl, ap, ap₂, ◌∙◌, sym, arith, Option, None, Some, length-append, cond, subst, option_map, slice_get, unwrap_or, int_eq, map-append, map-map, position_from, position_from-zero, remove, slice_get-map}
use Rattle.rdf_values.specs.{AreKept, below, cell_at, Cells, ColType, Column, IsKept, rows_kept, TableView, Value}
use Rattle.rdf_values.proofs.UnionLemmas.{map-below, slice_get-below}
use Rattle.rdf_values.proofs.KeptLemmas.{map_below}
use Rattle.friend_join.specs.{AreBelow, AreInts, entry_of, first_or, friend_rows, gained, ints_in, joined_row, KeyedTable, keys_of, matched_cells, missing_row, missing_value, number_at, number_for, number_of, vector_for}
use Rattle.friend_join.proofs.Removing.{map-remove, mapped, there}

-- ---- the first row of a key is that of the entry that matches

abbrev pub matched_row : TableView → ℤ → Option ℕ → List Value
matched_row friend missing None = missing_row missing friend.columns
matched_row friend missing (Some e) = unwrap_or (slice_get friend.rows e) []

first_from : (columns : List Column) (missing key : ℤ) (place : ℕ) (before rows all : List (List Value)) → all ≡ before ++ rows
    → first_or (missing_row missing columns) (filter (λ row. int_eq key (number_at place row)) rows) ≡ matched_row (record { columns = columns; rows = all }) missing (position_from (int_eq key) (length before) (map (number_at place) rows))
first_from columns missing key place before [] all h = refl
first_from columns missing key place before (row ∷ rows) all h = by (int_eq key (number_at place row)) refl (λ q. first_from columns missing key place (before ++ row ∷ []) rows all q)
  where
    seam : (before : List (List Value)) (row : List Value) (rows : List (List Value)) → slice_get (before ++ row ∷ rows) (length before) ≡ Some row
    seam [] row rows = refl
    seam (b ∷ bs) row rows = seam bs row rows

    regroup : (before : List (List Value)) (row : List Value) (rows : List (List Value)) → before ++ row ∷ rows ≡ (before ++ row ∷ []) ++ rows
    regroup [] row rows = refl
    regroup (b ∷ bs) row rows = ap (λ t. b ∷ t) (regroup bs row rows)

    next : length before + 1 ≡ length (before ++ row ∷ [])
    next = omega (arith, length-append before (row ∷ []))

    by : (b : Bool) → int_eq key (number_at place row) ≡ b
        → (all ≡ (before ++ row ∷ []) ++ rows → first_or (missing_row missing columns) (filter (λ r. int_eq key (number_at place r)) rows) ≡ matched_row (record { columns = columns; rows = all }) missing (position_from (int_eq key) (length (before ++ row ∷ [])) (map (number_at place) rows)))
        → first_or (missing_row missing columns) (cond b (row ∷ filter (λ r. int_eq key (number_at place r)) rows) (filter (λ r. int_eq key (number_at place r)) rows))
        ≡ matched_row (record { columns = columns; rows = all }) missing (cond b (Some (length before)) (position_from (int_eq key) (length before + 1) (map (number_at place) rows)))
    by true e on = sym (ap (λ r. unwrap_or r []) (ap (λ t. slice_get t (length before)) h ∙ seam before row rows))
    by false e on = on (h ∙ regroup before row rows)
        ∙ ap (λ n. matched_row (record { columns = columns; rows = all }) missing (position_from (int_eq key) n (map (number_at place) rows))) (sym next)

pub gains_match : (friend : KeyedTable) (missing key : ℤ) → first_or (missing_row missing friend.table.columns) (friend_rows friend key) ≡ matched_row friend.table missing (entry_of (keys_of friend) key)
gains_match friend missing key =
    first_from friend.table.columns missing key friend.key [] friend.table.rows friend.table.rows refl
    ∙ ap (matched_row friend.table missing) (sym (position_from-zero (int_eq key) (keys_of friend)))

-- ---- the cells of an entry in columns that are laid out anew

cell_missing : (missing : ℤ) (ms : List (Option ℕ)) (e n : ℕ) (kind : ColType) (x : Cells) → IsKept kind n x → slice_get ms e ≡ Some None → cell_at e (matched_cells missing ms x) ≡ missing_value missing kind
cell_missing missing ms e n ColType.Int (Cells.Ints ns) h q = ap Value.Int (mapped (number_for missing ns) ms e None (pos 0) q)
cell_missing missing ms e n ColType.Int (Cells.Vects vs) h q = absurd h
cell_missing missing ms e n ColType.Bool x h q = absurd h
cell_missing missing ms e n ColType.Vect (Cells.Ints ns) h q = absurd h
cell_missing missing ms e n ColType.Vect (Cells.Vects vs) h q = ap Value.Vect (mapped (vector_for vs) ms e None [] q)

cells_missing : (missing : ℤ) (ms : List (Option ℕ)) (e n : ℕ) (columns : List Column) (xs : List Cells) → AreKept n columns xs → slice_get ms e ≡ Some None → map (cell_at e) (map (matched_cells missing ms) xs) ≡ missing_row missing columns
cells_missing missing ms e n [] [] h q = refl
cells_missing missing ms e n [] (x ∷ xs) h q = absurd h
cells_missing missing ms e n (c ∷ cs) [] h q = absurd h
cells_missing missing ms e n (c ∷ cs) (x ∷ xs) h q = ap₂ (λ z zs. z ∷ zs) (cell_missing missing ms e n c.kind x h.0 q) (cells_missing missing ms e n cs xs h.1 q)

cell_found : (missing : ℤ) (ms : List (Option ℕ)) (e i : ℕ) (x : Cells) → slice_get ms e ≡ Some (Some i) → cell_at e (matched_cells missing ms x) ≡ cell_at i x
cell_found missing ms e i (Cells.Ints ns) q = ap Value.Int (mapped (number_for missing ns) ms e (Some i) (pos 0) q)
cell_found missing ms e i (Cells.Vects vs) q = ap Value.Vect (mapped (vector_for vs) ms e (Some i) [] q)

cells_found : (missing : ℤ) (ms : List (Option ℕ)) (e i : ℕ) (xs : List Cells) → slice_get ms e ≡ Some (Some i) → map (cell_at e) (map (matched_cells missing ms) xs) ≡ map (cell_at i) xs
cells_found missing ms e i [] q = refl
cells_found missing ms e i (x ∷ xs) q = ap₂ (λ z zs. z ∷ zs) (cell_found missing ms e i x q) (cells_found missing ms e i xs q)

row_at : (m i : ℕ) (ys : List Cells) → i < m → unwrap_or (slice_get (rows_kept m ys) i) [] ≡ map (cell_at i) ys
unfolding rows_kept
row_at m i ys l = ap (λ o. unwrap_or o []) (slice_get-map (λ e. map (cell_at e) ys) (below m) i ∙ ap (option_map (λ e. map (cell_at e) ys)) (slice_get-below m i l))

below_at : (n : ℕ) (ms : List (Option ℕ)) (e i : ℕ) → AreBelow n ms → slice_get ms e ≡ Some (Some i) → i < n
below_at n [] e i h q = cc q
below_at n (None ∷ ms) zero i h q = cc q
below_at n (Some m ∷ ms) zero i h q = let same : m ≡ i = cc q in subst (λ x. x < n) same h.0
below_at n (None ∷ ms) (suc e) i h q = below_at n ms e i h q
below_at n (Some m ∷ ms) (suc e) i h q = below_at n ms e i h.1 q

cells_matched : (missing : ℤ) (ms : List (Option ℕ)) (e m : ℕ) (columns : List Column) (ys : List Cells) (o : Option ℕ) → AreKept m columns ys → AreBelow m ms → slice_get ms e ≡ Some o
    → map (cell_at e) (map (matched_cells missing ms) ys) ≡ matched_row (record { columns = columns; rows = rows_kept m ys }) missing o
cells_matched missing ms e m columns ys None h b q = cells_missing missing ms e m columns ys h q
cells_matched missing ms e m columns ys (Some i) h b q = cells_found missing ms e i ys q ∙ sym (row_at m i ys (below_at m ms e i b q))

-- ---- the keys

-- the number of an entry in a column that keeps these
number_kept : (xs : List Cells) (col e : ℕ) (x : Cells) → slice_get xs col ≡ Some x → AreInts x → number_at col (map (cell_at e) xs) ≡ get_or (ints_in x) e (pos 0)
number_kept xs col e (Cells.Ints ns) q i = ap number_of (slice_get-map (cell_at e) xs col ∙ ap (option_map (cell_at e)) q)
number_kept xs col e (Cells.Vects vs) q i = absurd i

pub map_self : {A : Type 0} (xs : List A) → map (λ x. x) xs ≡ xs
map_self [] = refl
map_self (x ∷ xs) = ap (λ t. x ∷ t) (map_self xs)

pub keys_kept : (columns : List Column) (ys : List Cells) (m col : ℕ) (y : Cells) → slice_get ys col ≡ Some y → AreInts y → length (ints_in y) ≡ m → keys_of (record { table = record { columns = columns; rows = rows_kept m ys }; key = col }) ≡ ints_in y
unfolding rows_kept
keys_kept columns ys m col y q i l =
    map-map (number_at col) (λ e. map (cell_at e) ys) (below m)
    ∙ map-below m (λ e. number_at col (map (cell_at e) ys)) (λ e. get_or (ints_in y) e (pos 0)) (λ e s. number_kept ys col e y q i)
    ∙ map_below (pos 0) (λ z. z) (ints_in y) m l ∙ map_self (ints_in y)

-- ---- the entries that match are the friend's

position_below : {A : Type 0} (test : A → Bool) (xs : List A) (i p : ℕ) → position_from test i xs ≡ Some p → p < i + length xs
position_below test [] i p h = cc h
position_below test (x ∷ xs) i p h = by (test x) h (λ q. position_below test xs (i + 1) p q)
  where
    by : (b : Bool) → cond b (Some i) (position_from test (i + 1) xs) ≡ Some p → (position_from test (i + 1) xs ≡ Some p → p < i + 1 + length xs) → p < i + length (x ∷ xs)
    by true q on = let same : i ≡ p = cc q in omega arith
    by false q on = let rest = on q in omega arith

pub matches_below : (keys ns : List ℤ) (n : ℕ) → length keys ≡ n → AreBelow n (map (entry_of keys) ns)
matches_below keys [] n h = tt
matches_below keys (z ∷ zs) n h = by (entry_of keys z) refl (matches_below keys zs n h)
  where
    by : (m : Option ℕ) → entry_of keys z ≡ m → AreBelow n (map (entry_of keys) zs) → AreBelow n (m ∷ map (entry_of keys) zs)
    by None e rest = rest
    by (Some p) e rest = (let low = position_below (int_eq z) keys 0 p (sym (position_from-zero (int_eq z) keys) ∙ e) in omega arith, rest)

-- ---- all rows

module _ (missing : ℤ) (main_columns columns : List Column) (xs ys : List Cells) (n m own other : ℕ) (x y : Cells) (h : AreKept n main_columns xs) (l : AreKept m columns ys)
    (at : slice_get xs own ≡ Some x) (numbers : AreInts x) (many : length (ints_in x) ≡ n) (there_is : slice_get ys other ≡ Some y) (keys : AreInts y) (as_many : length (ints_in y) ≡ m) where
  abbrev main : KeyedTable
  main = record { table = record { columns = main_columns; rows = rows_kept n xs }; key = own }

  abbrev friend : KeyedTable
  friend = record { table = record { columns = columns; rows = rows_kept m ys }; key = other }

  abbrev matches : List (Option ℕ)
  matches = map (entry_of (ints_in y)) (ints_in x)

  match_at : (e : ℕ) → e < n → slice_get matches e ≡ Some (entry_of (ints_in y) (number_at own (map (cell_at e) xs)))
  match_at e s =
      slice_get-map (entry_of (ints_in y)) (ints_in x) e ∙ ap (option_map (entry_of (ints_in y))) (there (ints_in x) e (pos 0) (omega (arith, s, many)))
      ∙ ap (λ z. Some (entry_of (ints_in y) z)) (sym (number_kept xs own e x at numbers))

  cells_gained : (e : ℕ) → e < n → map (cell_at e) (map (matched_cells missing matches) (remove ys other)) ≡ gained friend missing (number_at own (map (cell_at e) xs))
  cells_gained e s =
      let key = number_at own (map (cell_at e) xs) in
      ap (map (cell_at e)) (map-remove (matched_cells missing matches) ys other) ∙ map-remove (cell_at e) (map (matched_cells missing matches) ys) other
      ∙ ap (λ row. remove row other)
      (cells_matched missing matches e m columns ys (entry_of (ints_in y) key) l (matches_below (ints_in y) (ints_in x) m as_many) (match_at e s)
      ∙ ap (λ keys. matched_row friend.table missing (entry_of keys key)) (sym (keys_kept columns ys m other y there_is keys as_many)) ∙ sym (gains_match friend missing key))

  pub rows_joined : rows_kept n (xs ++ map (matched_cells missing matches) (remove ys other)) ≡ map (joined_row main friend missing) (rows_kept n xs)
  unfolding rows_kept
  rows_joined =
      map-below n (λ e. map (cell_at e) (xs ++ map (matched_cells missing matches) (remove ys other))) (λ e. joined_row main friend missing (map (cell_at e) xs))
      (λ e s. map-append (cell_at e) xs (map (matched_cells missing matches) (remove ys other)) ∙ ap (λ row. map (cell_at e) xs ++ row) (cells_gained e s))
      ∙ sym (map-map (joined_row main friend missing) (λ e. map (cell_at e) xs) (below n))
