-- What the records of bytes spell is a table.
use Rattle.lemmas.proofs.{◌≡◌, ◌<◌, ◌≤◌, ◌+◌, ℕ, suc, Bool, true, false, List, [], ◌∷◌, length, map, Option, None, Some, Result, Ok, Err, refl, subst, arith, add-one, nat_le, if◌then◌else◌, length-map, nat_tests}
use Rattle.csv.specs.Machine.{Read, next_record}
use Rattle.csv.specs.declared.parser.State.{State}
use Rattle.csv.specs.declared.parser.State.TheVariants as st
use Rattle.csv.specs.Reading.{default_config, records_from, records_next, strip_bom}
use Rattle.rdf_values.specs.{Column, FitRows, FitsRow, Header, header_from, IsHeader, IsTable, MarkedRow, MarkedTable, marks_from, on_ok, result_cons, row_of, rows_from, table_of, table_with, TableCause, Value}
use Rattle.rdf_values.proofs.KeptLemmas.{row_fits_columns}
use Rattle.table_csv.specs.{csv_records}
use Rattle.table_csv.proofs.TableSteps.{header_is}
use Rattle.table_csv.proofs.RecordSteps.{Shrinks, shrinks}

-- ---- the first record

next_has_fields : (o : Option Read) (size : ℕ) (more : State → List ℕ → List (List (List ℕ))) (r : List (List ℕ)) (rs : List (List (List ℕ))) → Shrinks size o → records_next more o ≡ r ∷ rs → 0 < length r
next_has_fields None size more r rs h e = absurd (cc e)
next_has_fields (Some p) size more r rs h e = (let same : p.0 ≡ r = cc e in subst (λ (l : List (List ℕ)). 0 < length l) same h.2)

from_has_fields : (n : ℕ) (xs : List ℕ) (r : List (List ℕ)) (rs : List (List (List ℕ))) → records_from default_config (suc n) st.StartRecord xs ≡ r ∷ rs → 0 < length r
unfolding records_from
from_has_fields n xs r rs e = next_has_fields (next_record default_config st.StartRecord [] [] xs) (length xs) (records_from default_config n) r rs (shrinks st.StartRecord xs refl) e

has_fields : (bytes : List ℕ) (r : List (List ℕ)) (rs : List (List (List ℕ))) → csv_records bytes ≡ r ∷ rs → 0 < length r
unfolding csv_records
has_fields bytes r rs e =
    let xs = strip_bom bytes in
    from_has_fields (length xs) xs r rs (subst (λ n. records_from default_config n st.StartRecord xs ≡ r ∷ rs) (add-one (length xs)) e)

-- ---- rows

-- what was read meets P
abbrev IfRead : {A : Type 0} → (A → Type 0) → Result A TableCause → Type 0
IfRead P (Ok a) = P a
IfRead P (Err e) = Unit {0}

abbrev Fits : List Column → MarkedRow → Type 0
Fits columns r = FitsRow columns r.row

-- an entry that is read is one of the first 1,000,000
is_before : (e : ℕ) (h : Header) (fields : List (List ℕ)) → IfRead (λ (r : MarkedRow). e < 1000000) (row_of e h fields)
unfolding row_of
is_before e h fields = go (nat_le 1000000 e) refl _
  where
    read : (o : Result MarkedRow TableCause) → e < 1000000 → IfRead (λ (r : MarkedRow). e < 1000000) o
    read (Ok r) l = l
    read (Err c) l = tt

    go : (b : Bool) → nat_le 1000000 e ≡ b → (o : Result MarkedRow TableCause) → IfRead (λ (r : MarkedRow). e < 1000000) (if b then Err (TableCause.TooMany e) else o)
    go true q o = tt
    go false q o = read o (grind (arith, nat_tests))

-- rows fit, and those from entry e on are among the first 1,000,000
abbrev FitFrom : ℕ → List Column → Result (List MarkedRow) TableCause → Type 0
FitFrom e columns (Ok rows) = FitRows columns (map (λ (r : MarkedRow). r.row) rows) × (e + length rows ≤ 1000000)
FitFrom e columns (Err c) = Unit {0}

cons_fits : (e : ℕ) (columns : List Column) (x : Result MarkedRow TableCause) (xs : Result (List MarkedRow) TableCause)
    → IfRead (Fits columns) x → IfRead (λ (r : MarkedRow). e < 1000000) x → (e < 1000000 → FitFrom (e + 1) columns xs) → FitFrom e columns (result_cons x xs)
cons_fits e columns (Err c) xs f b more = tt
cons_fits e columns (Ok r) xs f b more = behind xs (more b)
  where
    behind : (xs : Result (List MarkedRow) TableCause) → FitFrom (e + 1) columns xs → FitFrom e columns (result_cons (Ok r) xs)
    behind (Err c) h = tt
    behind (Ok rows) h = (let few = h.1 in ((f, h.0), omega (arith, few)))

rows_fit : (entries : List (List (List ℕ))) (e : ℕ) (h : Header) → e ≤ 1000000 → FitFrom e h.columns (rows_from e h entries)
unfolding rows_from
rows_fit [] e h few = (tt, omega arith)
rows_fit (entry ∷ entries) e h few =
    cons_fits e h.columns (row_of e h entry) (rows_from (e + 1) h entries) (row_fits_columns e h entry) (is_before e h entry) (λ before. rows_fit entries (e + 1) h (omega (arith, before)))

-- ---- the table

by_rows : (h : Header) (t : MarkedTable) (r : Result (List MarkedRow) TableCause) → IsHeader h.columns → FitFrom 0 h.columns r → on_ok r (table_with h.columns) ≡ Ok t → IsTable t.table
by_rows h t (Err c) header fit e = absurd (cc e)
by_rows h t (Ok rows) header fit e =
    let cells : List (List Value) = map (λ (r : MarkedRow). r.row) rows in
    let same : record { table = record { columns = h.columns; rows = cells }; marks = marks_from 0 rows } ≡ t = cc e in
    let many : length cells ≡ length rows = length-map rows (λ (r : MarkedRow). r.row) in
    let few = fit.1 in
    subst (λ (x : MarkedTable). IsTable x.table) same (record { header = header; fit = fit.0; few = omega (arith, many, few) })

by_header : (header : List (List ℕ)) (entries : List (List (List ℕ))) (t : MarkedTable) (r : Result Header TableCause) → 0 < length header → header_from 0 [] header ≡ r
    → on_ok r (λ h. on_ok (rows_from 0 h entries) (table_with h.columns)) ≡ Ok t → IsTable t.table
by_header header entries t (Err c) some is e = absurd (cc e)
by_header header entries t (Ok h) some is e = by_rows h t (rows_from 0 h entries) (header_is header h some is) (rows_fit entries 0 h (omega arith)) e

by_records : (bytes : List ℕ) (t : MarkedTable) (records : List (List (List ℕ))) → csv_records bytes ≡ records → table_of records ≡ Ok t → IsTable t.table
unfolding table_of
by_records bytes t [] is e = absurd (cc e)
by_records bytes t (header ∷ entries) is e = by_header header entries t (header_from 0 [] header) (has_fields bytes header entries is) refl e

pub spelt_is_table : (bytes : List ℕ) (t : MarkedTable) → table_of (csv_records bytes) ≡ Ok t → IsTable t.table
spelt_is_table bytes t e = by_records bytes t (csv_records bytes) refl e
