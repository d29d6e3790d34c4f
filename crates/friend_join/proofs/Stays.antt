-- The laws of a join.
use Rattle.lemmas.proofs.{◌≡◌, ◌≤◌, ◌+◌, ◌-◌, ℕ, ℤ, Bool, true, false, true≢false, ◌||◌, cond, List, [], ◌∷◌, ◌++◌, length, map, filter, take, refl, ap, ap₂, ◌∙◌, sym, arith, Option, None, Some, Ok, Err, nat_lt, ok_or, Decides-int_eq, int_eq, length-map, list_any, list_any-append}
use Rattle.rdf_values.specs.{Column, FitRows, on_ok, TableView, Value}
use Rattle.rdf_values.proofs.KeptLemmas.{fits_length}
use Rattle.friend_join.specs.{EachEntryStays, elements, first_repeat, first_taken, gained, join_columns, join_entries, join_of, JoinCause, joined_row, joined_table, key_place, KeyedTable, KeyHasOneRow, keys_of, most_columns, most_elements, number_at, repeat_from, unless_above, unless_at}

-- ---- one row for a key

same_true : (a b : ℤ) → int_eq a b ≡ true → a ≡ b
same_true a b h = (Decides-int_eq a b).0 h

-- a number that was seen goes on being seen
still_seen : (k n : ℤ) (seen : List ℤ) → list_any (int_eq k) seen ≡ true → list_any (int_eq k) (seen ++ n ∷ []) ≡ true
still_seen k n seen h = list_any-append (int_eq k) seen (n ∷ []) ∙ ap (λ b. b || list_any (int_eq k) (n ∷ [])) h

now_seen : (k n : ℤ) (seen : List ℤ) → int_eq k n ≡ true → list_any (int_eq k) (seen ++ n ∷ []) ≡ true
now_seen k n seen h = list_any-append (int_eq k) seen (n ∷ []) ∙ ap (λ b. list_any (int_eq k) seen || (b || false)) h ∙ either (list_any (int_eq k) seen)
  where
    either : (b : Bool) → (b || true) ≡ true
    either true = refl
    either false = refl

-- where none is repeated, the first isn't among those seen, and none of the rest is
goes_on : (e : ℕ) (seen : List ℤ) (n : ℤ) (ns : List ℤ) → repeat_from e seen (n ∷ ns) ≡ None → (list_any (int_eq n) seen ≡ false) × (repeat_from (e + 1) (seen ++ n ∷ []) ns ≡ None)
goes_on e seen n ns h = go (list_any (int_eq n) seen) refl h
  where
    go : (b : Bool) → list_any (int_eq n) seen ≡ b → cond b (Some e) (repeat_from (e + 1) (seen ++ n ∷ []) ns) ≡ None → (list_any (int_eq n) seen ≡ false) × (repeat_from (e + 1) (seen ++ n ∷ []) ns ≡ None)
    go true q r = cc r
    go false q r = (q, r)

none_left : (place : ℕ) (key : ℤ) (e : ℕ) (seen : List ℤ) (rows : List (List Value)) → list_any (int_eq key) seen ≡ true → repeat_from e seen (map (number_at place) rows) ≡ None
    → length (filter (λ row. int_eq key (number_at place row)) rows) ≡ 0
none_left place key e seen [] s h = refl
none_left place key e seen (row ∷ rows) s h =
    let on = goes_on e seen (number_at place row) (map (number_at place) rows) h in
    go (int_eq key (number_at place row)) refl on.0 (none_left place key (e + 1) (seen ++ number_at place row ∷ []) rows (still_seen key (number_at place row) seen s) on.1)
  where
    go : (b : Bool) → int_eq key (number_at place row) ≡ b → list_any (int_eq (number_at place row)) seen ≡ false → length (filter (λ r. int_eq key (number_at place r)) rows) ≡ 0
        → length (cond b (row ∷ filter (λ r. int_eq key (number_at place r)) rows) (filter (λ r. int_eq key (number_at place r)) rows)) ≡ 0
    go true q new rest = absurd (true≢false (sym s ∙ ap (λ n. list_any (int_eq n) seen) (same_true key (number_at place row) q) ∙ new))
    go false q new rest = rest

one_left : (place : ℕ) (key : ℤ) (e : ℕ) (seen : List ℤ) (rows : List (List Value)) → repeat_from e seen (map (number_at place) rows) ≡ None → length (filter (λ row. int_eq key (number_at place row)) rows) ≤ 1
one_left place key e seen [] h = omega arith
one_left place key e seen (row ∷ rows) h =
    let on = goes_on e seen (number_at place row) (map (number_at place) rows) h in
    go (int_eq key (number_at place row)) refl (λ q. none_left place key (e + 1) (seen ++ number_at place row ∷ []) rows (now_seen key (number_at place row) seen q) on.1) (one_left place key (e + 1) (seen ++ number_at place row ∷ []) rows on.1)
  where
    go : (b : Bool) → int_eq key (number_at place row) ≡ b → (int_eq key (number_at place row) ≡ true → length (filter (λ r. int_eq key (number_at place r)) rows) ≡ 0)
        → length (filter (λ r. int_eq key (number_at place r)) rows) ≤ 1
        → length (cond b (row ∷ filter (λ r. int_eq key (number_at place r)) rows) (filter (λ r. int_eq key (number_at place r)) rows)) ≤ 1
    go true q none rest = let gone = none q in omega arith
    go false q none rest = rest

pub a_key_has_one_row : KeyHasOneRow
a_key_has_one_row friend key h = one_left friend.key key 0 [] friend.table.rows h

-- ---- the entries of the main table

first_cells : (columns : List Column) (main friend : KeyedTable) (missing : ℤ) (rows : List (List Value)) → FitRows columns rows → map (take (length columns)) (map (joined_row main friend missing) rows) ≡ rows
first_cells columns main friend missing [] h = refl
first_cells columns main friend missing (row ∷ rows) h = ap₂ (λ z zs. z ∷ zs) (front (length columns) row (gained friend missing (number_at main.key row)) (fits_length columns row h.0)) (first_cells columns main friend missing rows h.1)
  where
    front : (n : ℕ) (xs ys : List Value) → length xs ≡ n → take n (xs ++ ys) ≡ xs
    front n xs ys e = ap (λ i. take i (xs ++ ys)) (sym e) ∙ whole xs ys
      where
        whole : (xs ys : List Value) → take (length xs) (xs ++ ys) ≡ xs
        whole [] ys = refl
        whole (x ∷ xs) ys = ap (λ t. x ∷ t) (whole xs ys)

is_joined : (main friend : KeyedTable) (table : TableView) (missing : ℤ) → join_entries main friend missing ≡ Ok table → joined_table main friend missing ≡ table
unfolding join_entries
is_joined main friend table missing h = one (first_repeat (keys_of friend)) h
  where
    two : (b : Bool) → cond b (Err (JoinCause.TooLarge (elements (joined_table main friend missing).rows))) (Ok (joined_table main friend missing)) ≡ Ok table → joined_table main friend missing ≡ table
    two true q = cc q
    two false q = cc q

    one : (o : Option ℕ) → unless_at o JoinCause.Duplicate (unless_above most_elements (elements (joined_table main friend missing).rows) JoinCause.TooLarge (Ok (joined_table main friend missing))) ≡ Ok table
        → joined_table main friend missing ≡ table
    one (Some e) q = cc q
    one None q = two (nat_lt most_elements (elements (joined_table main friend missing).rows)) q

joined_at : (main friend : KeyedTable) (table : TableView) (key : List ℕ) (missing : ℤ) → join_columns key main friend missing ≡ Ok table → joined_table main friend missing ≡ table
unfolding join_columns
joined_at main friend table key missing h = one (first_taken main.table.columns key friend.table.columns) h
  where
    two : (b : Bool) → cond b (Err (JoinCause.TooManyColumns (length main.table.columns + length friend.table.columns - 1))) (join_entries main friend missing) ≡ Ok table → joined_table main friend missing ≡ table
    two true q = cc q
    two false q = is_joined main friend table missing q

    one : (o : Option ℕ)
        → unless_at o JoinCause.NameTaken (unless_above most_columns (length main.table.columns + length friend.table.columns - 1) JoinCause.TooManyColumns (join_entries main friend missing)) ≡ Ok table
        → joined_table main friend missing ≡ table
    one (Some e) q = cc q
    one None q = two (nat_lt most_columns (length main.table.columns + length friend.table.columns - 1)) q

abbrev keyed : TableView → ℕ → KeyedTable
keyed table key = record { table = table; key = key }

joined_by : (main friend table : TableView) (key : List ℕ) (missing : ℤ) → join_of main friend key missing ≡ Ok table → (own : ℕ) × ((other : ℕ) × (joined_table (keyed main own) (keyed friend other) missing ≡ table))
unfolding join_of
joined_by main friend table key missing h = one (key_place key main.columns) h
  where
    two : (own : ℕ) (o : Option ℕ) → on_ok (ok_or o (JoinCause.NoKey true)) (λ other. join_columns key (keyed main own) (keyed friend other) missing) ≡ Ok table
        → (own : ℕ) × ((other : ℕ) × (joined_table (keyed main own) (keyed friend other) missing ≡ table))
    two own None q = cc q
    two own (Some other) q = (own, (other, joined_at (keyed main own) (keyed friend other) table key missing q))

    one : (o : Option ℕ)
        → on_ok (ok_or o (JoinCause.NoKey false)) (λ own. on_ok (ok_or (key_place key friend.columns) (JoinCause.NoKey true)) (λ other. join_columns key (keyed main own) (keyed friend other) missing)) ≡ Ok table
        → (own : ℕ) × ((other : ℕ) × (joined_table (keyed main own) (keyed friend other) missing ≡ table))
    one None q = cc q
    one (Some own) q = two own (key_place key friend.columns) q

pub each_entry_stays : EachEntryStays
each_entry_stays main friend table key missing t h =
    let j = joined_by main friend table key missing h in
    ap (λ (x : TableView). map (take (length main.columns)) x.rows) (sym j.1.1) ∙ first_cells main.columns (keyed main j.0) (keyed friend j.1.0) missing main.rows t.fit

-- a joined table has as many entries as the main table
pub entries_stay : (main friend table : TableView) (key : List ℕ) (missing : ℤ) → join_of main friend key missing ≡ Ok table → length table.rows ≡ length main.rows
entries_stay main friend table key missing h =
    let j = joined_by main friend table key missing h in
    ap (λ (x : TableView). length x.rows) (sym j.1.1) ∙ length-map main.rows (joined_row (keyed main j.0) (keyed friend j.1.0) missing)
