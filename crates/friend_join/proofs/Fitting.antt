-- A table with a friend's columns holds together.
use Rattle.lemmas.proofs.{◌≡◌, ℕ, ℤ, zero, suc, pos, negsuc, Bool, true, false, List, [], ◌∷◌, ◌++◌, length, map, filter, sym, arith, Option, cond, subst, w64, FitsSigned, length-map, remove}
use Rattle.rdf_values.specs.{AreColumns, AreKept, Cells, ColType, Column, count, FitRows, FitsColumn, FitsRow, Has64Bits, HoldsTable, IsHeader, IsKept, IsStored, rows_kept, Value}
use Rattle.friend_join.specs.{AreBelow, AreEntries, first_or, friend_rows, gained, joined_row, KeyedTable, matched_cells, missing_row, missing_value, number_at, number_for, vector_for}

pub bits : (z : ℤ) → FitsSigned w64 z → Has64Bits z
bits (pos n) h = let s = h.sfits in omega arith
bits (negsuc n) h = let s = h.sfits in omega arith

-- ---- columns

kept_matched : (missing : ℤ) (ms : List (Option ℕ)) (kind : ColType) (m : ℕ) (x : Cells) → IsKept kind m x → IsKept kind (length ms) (matched_cells missing ms x)
kept_matched missing ms ColType.Int m (Cells.Ints ns) h = length-map ms (number_for missing ns)
kept_matched missing ms ColType.Int m (Cells.Vects vs) h = absurd h
kept_matched missing ms ColType.Bool m x h = absurd h
kept_matched missing ms ColType.Vect m (Cells.Ints ns) h = absurd h
kept_matched missing ms ColType.Vect m (Cells.Vects vs) h = length-map ms (vector_for vs)

are_kept_matched : (missing : ℤ) (ms : List (Option ℕ)) (m : ℕ) (columns : List Column) (ys : List Cells) → AreKept m columns ys → AreKept (length ms) columns (map (matched_cells missing ms) ys)
are_kept_matched missing ms m [] [] h = tt
are_kept_matched missing ms m [] (y ∷ ys) h = absurd h
are_kept_matched missing ms m (c ∷ cs) [] h = absurd h
are_kept_matched missing ms m (c ∷ cs) (y ∷ ys) h = (kept_matched missing ms c.kind m y h.0, are_kept_matched missing ms m cs ys h.1)

pub kept_remove : (m : ℕ) (columns : List Column) (ys : List Cells) (p : ℕ) → AreKept m columns ys → AreKept m (remove columns p) (remove ys p)
kept_remove m [] [] zero h = tt
kept_remove m [] [] (suc p) h = tt
kept_remove m [] (y ∷ ys) p h = absurd h
kept_remove m (c ∷ cs) [] p h = absurd h
kept_remove m (c ∷ cs) (y ∷ ys) zero h = h.1
kept_remove m (c ∷ cs) (y ∷ ys) (suc p) h = (h.0, kept_remove m cs ys p h.1)

kept_together : (n : ℕ) (os bs : List Column) (xs ys : List Cells) → AreKept n os xs → AreKept n bs ys → AreKept n (os ++ bs) (xs ++ ys)
kept_together n [] bs [] ys h l = l
kept_together n [] bs (x ∷ xs) ys h l = absurd h
kept_together n (a ∷ os) bs [] ys h l = absurd h
kept_together n (a ∷ os) bs (x ∷ xs) ys h l = (h.0, kept_together n os bs xs ys h.1 l)

-- the matches are entries of each column
pub entries_of_each : (ms : List (Option ℕ)) (m : ℕ) (columns : List Column) (ys : List Cells) → AreKept m columns ys → AreBelow m ms → AreEntries ms ys
entries_of_each ms m [] [] h b = tt
entries_of_each ms m [] (y ∷ ys) h b = absurd h
entries_of_each ms m (c ∷ cs) [] h b = absurd h
entries_of_each ms m (c ∷ cs) (y ∷ ys) h b = (subst (λ (n : ℕ). AreBelow n ms) (sym (as_many c.kind y h.0)) b, entries_of_each ms m cs ys h.1 b)
  where
    as_many : (kind : ColType) (y : Cells) → IsKept kind m y → count y ≡ m
    as_many ColType.Int (Cells.Ints ns) q = q
    as_many ColType.Int (Cells.Vects vs) q = absurd q
    as_many ColType.Bool y q = absurd q
    as_many ColType.Vect (Cells.Ints ns) q = absurd q
    as_many ColType.Vect (Cells.Vects vs) q = q

-- ---- rows

fits_together : (os bs : List Column) (xs ys : List Value) → FitsRow os xs → FitsRow bs ys → FitsRow (os ++ bs) (xs ++ ys)
fits_together [] bs [] ys h l = l
fits_together [] bs (x ∷ xs) ys h l = absurd h
fits_together (a ∷ os) bs [] ys h l = absurd h
fits_together (a ∷ os) bs (x ∷ xs) ys h l = (h.0, fits_together os bs xs ys h.1 l)

fits_remove : (bs : List Column) (ys : List Value) (p : ℕ) → FitsRow bs ys → FitsRow (remove bs p) (remove ys p)
fits_remove [] [] zero h = tt
fits_remove [] [] (suc p) h = tt
fits_remove [] (y ∷ ys) p h = absurd h
fits_remove (b ∷ bs) [] p h = absurd h
fits_remove (b ∷ bs) (y ∷ ys) zero h = h.1
fits_remove (b ∷ bs) (y ∷ ys) (suc p) h = (h.0, fits_remove bs ys p h.1)

missing_fits : (missing : ℤ) (kind : ColType) → Has64Bits missing → IsStored kind → FitsColumn kind (missing_value missing kind)
missing_fits missing ColType.Int h s = (tt, h)
missing_fits missing ColType.Bool h s = absurd s
missing_fits missing ColType.Vect h s = (omega arith, (omega arith, λ i d l. absurd (omega arith)))

missing_row_fits : (missing : ℤ) (seen cs : List Column) → Has64Bits missing → AreColumns seen cs → FitsRow cs (missing_row missing cs)
missing_row_fits missing seen [] h a = tt
missing_row_fits missing seen (c ∷ cs) h a = (missing_fits missing c.kind h a.1, missing_row_fits missing (seen ++ c ∷ []) cs h a.2)

first_fits : (test : List Value → Bool) (cs : List Column) (other : List Value) (rows : List (List Value)) → FitsRow cs other → FitRows cs rows → FitsRow cs (first_or other (filter test rows))
first_fits test cs other [] h f = h
first_fits test cs other (row ∷ rows) h f = by (test row) (first_fits test cs other rows h f.1)
  where
    by : (b : Bool) → FitsRow cs (first_or other (filter test rows)) → FitsRow cs (first_or other (cond b (row ∷ filter test rows) (filter test rows)))
    by true rest = f.0
    by false rest = rest

joined_fit : (main friend : KeyedTable) (missing : ℤ) (columns : List Column) (rows : List (List Value)) → Has64Bits missing → IsHeader friend.table.columns → FitRows friend.table.columns friend.table.rows → FitRows columns rows
    → FitRows (columns ++ remove friend.table.columns friend.key) (map (joined_row main friend missing) rows)
joined_fit main friend missing columns [] b t f g = tt
joined_fit main friend missing columns (row ∷ rows) b t f g =
    let cs = friend.table.columns in
    let key = number_at main.key row in (
      fits_together columns (remove cs friend.key) row (gained friend missing key) g.0
          (fits_remove cs (first_or (missing_row missing cs) (friend_rows friend key)) friend.key
          (first_fits _ cs (missing_row missing cs) friend.table.rows (missing_row_fits missing [] cs b t.distinct) f)),
      joined_fit main friend missing columns rows b t f g.1,
    )

-- ---- the table

pub holds_joined : (main friend : KeyedTable) (missing : ℤ) (ms : List (Option ℕ)) (columns bs : List Column) (xs ys : List Cells) (n m : ℕ) → HoldsTable columns xs n → HoldsTable bs ys m
    → friend ≡ record { table = record { columns = bs; rows = rows_kept m ys }; key = friend.key } → IsHeader (columns ++ remove bs friend.key) → Has64Bits missing → length ms ≡ n
    → rows_kept n (xs ++ map (matched_cells missing ms) (remove ys friend.key)) ≡ map (joined_row main friend missing) (rows_kept n xs)
    → HoldsTable (columns ++ remove bs friend.key) (xs ++ map (matched_cells missing ms) (remove ys friend.key)) n
holds_joined main friend missing ms columns bs xs ys n m h l same header b many rows = record {
  header = header;
  kept = kept_together n columns (remove bs friend.key) xs (map (matched_cells missing ms) (remove ys friend.key)) h.kept
      (subst (λ (i : ℕ). AreKept i (remove bs friend.key) (map (matched_cells missing ms) (remove ys friend.key))) many (are_kept_matched missing ms m (remove bs friend.key) (remove ys friend.key) (kept_remove m bs ys friend.key l.kept)));
  fit = subst (λ (r : List (List Value)). FitRows (columns ++ remove bs friend.key) r) (sym rows)
      (subst (λ (f : KeyedTable). FitRows (columns ++ remove bs f.key) (map (joined_row main f missing) (rows_kept n xs))) (sym same)
      (joined_fit main (record { table = record { columns = bs; rows = rows_kept m ys }; key = friend.key }) missing columns (rows_kept n xs) b l.header l.fit h.fit));
  few = h.few;
}
