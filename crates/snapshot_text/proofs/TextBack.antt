-- A table's text reads as the table.
use Rattle.lemmas.proofs.{◌≡◌, ◌<◌, ℕ, Bool, true, List, [], ◌∷◌, ◌++◌, length, map, refl, ap, ap₂, subst, ◌∙◌, arith, length-append, All-head, both_true, flat_map-append, join_with_byte, length-map, list_all, signed_decimal}
use Rattle.csv.specs.Writing.{default_writer, row_text}
use Rattle.csv.proofs.RoundTrip.{rows_text}
use Rattle.table_csv.specs.{csv_records}
use Rattle.rdf_values.specs.{ColType, Column, FitRows, FitsColumn, FitsRow, Has64Bits, is_name, IsBounded, IsStored, IsTable, table_of, TableView, Value}
use Rattle.snapshot_text.specs.{AreNamed, cell_field, column_field, entries_text, entry_text, header_text, kind_word, PartsJoin, table_text, TextReadsBack}
use Rattle.snapshot_text.proofs.Plain.{Above, AllAbove, Starts, above_joined, name_bytes, number_numeral, number_some, numeral_above, numerals_above, starts_joined, wordy_above}
use Rattle.snapshot_text.proofs.RecordsBack.{HaveFields, many_written, none_written, one_written, records_back}
use Rattle.snapshot_text.proofs.TableBack.{AllStored, all_stored, joined_some, numbers_numerals, table_back}
use Rattle.rdf_values.proofs.KeptLemmas.{fits_length as row_length}

-- ---- the header

kind_above : (kind : ColType) → Above (kind_word kind)
kind_above ColType.Int = (omega arith, (omega arith, (omega arith, tt)))
kind_above ColType.Bool = (omega arith, (omega arith, (omega arith, (omega arith, tt))))
kind_above ColType.Vect = (omega arith, (omega arith, (omega arith, tt)))

column_above : (c : Column) → is_name c.name ≡ true → Above (column_field c)
column_above c h = above_joined c.name (58 ∷ kind_word c.kind) (wordy_above c.name (name_bytes c.name h).0) (omega arith, kind_above c.kind)

columns_above : (cols : List Column) → AreNamed cols → AllAbove (map column_field cols)
columns_above [] h = tt
columns_above (c ∷ cs) h =
    let names = both_true (is_name c.name) (list_all (λ (d : Column). is_name d.name) cs) h in
    (column_above c names.0, columns_above cs names.1)

column_some : (c : Column) → 0 < length (column_field c)
column_some c = omega (arith, length-append c.name (58 ∷ kind_word c.kind))

header_written : (cols : List Column) → 0 < length cols → AreNamed cols → header_text cols ≡ row_text default_writer (map column_field cols)
header_written [] l h = absurd (omega arith)
header_written (c ∷ []) l h = one_written (column_field c) (columns_above (c ∷ []) h).0 (column_some c)
header_written (c ∷ d ∷ cs) l h = many_written (column_field c) (column_field d) (map column_field cs) (columns_above (c ∷ d ∷ cs) h)

joined_starts : (x : List ℕ) (xs : List (List ℕ)) (b : ℕ) → Starts x → Starts (join_with_byte b (x ∷ xs))
joined_starts x [] b h = h
joined_starts x (y ∷ ys) b h = starts_joined x (b ∷ join_with_byte b (y ∷ ys)) h

header_starts : (cols : List Column) → 0 < length cols → AreNamed cols → Starts (header_text cols)
header_starts [] l h = absurd (omega arith)
header_starts (c ∷ cs) l h =
    let names = both_true (is_name c.name) (list_all (λ (d : Column). is_name d.name) cs) h in
    let first = starts_joined c.name (58 ∷ kind_word c.kind) (name_bytes c.name names.0).1 in
    starts_joined (join_with_byte 44 (map column_field (c ∷ cs))) (10 ∷ []) (joined_starts (column_field c) (map column_field cs) 44 first)

-- ---- the entries

value_above : (x : Value) → IsBounded x → Above (cell_field x)
value_above (Value.Int z) h = numeral_above (signed_decimal z) (number_numeral z h)
value_above (Value.Bool b) h = tt
value_above (Value.Vect zs) h = numerals_above (map signed_decimal zs) (numbers_numerals zs h.1)

row_above : (cols : List Column) (row : List Value) → FitsRow cols row → AllAbove (map cell_field row)
row_above [] [] h = tt
row_above [] (x ∷ xs) h = absurd h
row_above (c ∷ cs) [] h = absurd h
row_above (c ∷ cs) (x ∷ xs) h = (value_above x h.0.1, row_above cs xs h.1)

-- the value is no truth value
abbrev IsCell : Value → Type 0
IsCell (Value.Int z) = Unit {0}
IsCell (Value.Bool b) = ⊥
IsCell (Value.Vect zs) = Unit {0}

cell_by : (kind : ColType) (x : Value) → IsStored kind → FitsColumn kind x → IsCell x
cell_by ColType.Int (Value.Int z) s h = tt
cell_by ColType.Int (Value.Bool b) s h = h.0
cell_by ColType.Int (Value.Vect zs) s h = tt
cell_by ColType.Bool x s h = absurd s
cell_by ColType.Vect (Value.Int z) s h = tt
cell_by ColType.Vect (Value.Bool b) s h = h.0
cell_by ColType.Vect (Value.Vect zs) s h = tt

lone_written : (x : Value) → IsBounded x → IsCell x → entry_text (x ∷ []) ≡ row_text default_writer (cell_field x ∷ [])
lone_written (Value.Int z) h s = one_written (signed_decimal z) (value_above (Value.Int z) h) (number_some z h)
lone_written (Value.Bool b) h s = absurd s
lone_written (Value.Vect []) h s = none_written
lone_written (Value.Vect (z ∷ zs)) h s =
    one_written (join_with_byte 59 (map signed_decimal (z ∷ zs))) (value_above (Value.Vect (z ∷ zs)) h)
    (joined_some (signed_decimal z) (map signed_decimal zs) 59 (number_some z (All-head Has64Bits z zs h.1)))

row_written : (cols : List Column) (row : List Value) → 0 < length cols → AllStored cols → FitsRow cols row → entry_text row ≡ row_text default_writer (map cell_field row)
row_written [] row l s h = absurd (omega arith)
row_written (c ∷ cs) [] l s h = absurd h
row_written (c ∷ []) (x ∷ []) l s h = lone_written x h.0.1 (cell_by c.kind x s.0 h.0)
row_written (c ∷ []) (x ∷ y ∷ ys) l s h = absurd h.1
row_written (c ∷ d ∷ cs) (x ∷ []) l s h = absurd h.1
row_written (c ∷ d ∷ cs) (x ∷ y ∷ ys) l s h = many_written (cell_field x) (cell_field y) (map cell_field ys) (row_above (c ∷ d ∷ cs) (x ∷ y ∷ ys) h)

abbrev fields_of : List (List Value) → List (List (List ℕ))
fields_of rows = map (λ row. map cell_field row) rows

rows_written : (rows : List (List Value)) (cols : List Column) → 0 < length cols → AllStored cols → FitRows cols rows → entries_text rows ≡ rows_text (fields_of rows)
unfolding rows_text
rows_written [] cols l s h = refl
rows_written (row ∷ rows) cols l s h = ap₂ (λ a b. a ++ b) (row_written cols row l s h.0) (rows_written rows cols l s h.1)

rows_fields : (rows : List (List Value)) (cols : List Column) → 0 < length cols → FitRows cols rows → HaveFields (fields_of rows)
rows_fields [] cols l h = tt
rows_fields (row ∷ rows) cols l h = (omega (arith, l, length-map row cell_field, row_length cols row h.0), rows_fields rows cols l h.1)

-- ---- the table

table_written : (t : TableView) → IsTable t → AreNamed t.columns → table_text t ≡ rows_text (map column_field t.columns ∷ fields_of t.rows)
unfolding rows_text
table_written t h n =
    ap₂ (λ a b. a ++ b) (header_written t.columns h.header.some n) (rows_written t.rows t.columns h.header.some (all_stored t.columns [] h.header.distinct) h.fit)

table_starts : (t : TableView) → IsTable t → AreNamed t.columns → Starts (rows_text (map column_field t.columns ∷ fields_of t.rows))
table_starts t h n = subst Starts (table_written t h n) (starts_joined (header_text t.columns) (entries_text t.rows) (header_starts t.columns h.header.some n))

table_fields : (t : TableView) → IsTable t → HaveFields (map column_field t.columns ∷ fields_of t.rows)
table_fields t h = let some = h.header.some in (omega (arith, some, length-map t.columns column_field), rows_fields t.rows t.columns h.header.some h.fit)

pub text_reads_back : TextReadsBack
text_reads_back t h n =
    ap (λ b. table_of (csv_records b)) (table_written t h n)
    ∙ ap table_of (records_back (map column_field t.columns ∷ fields_of t.rows) (table_fields t h) (table_starts t h n)) ∙ table_back t h n

pub parts_join : PartsJoin
parts_join first second = flat_map-append entry_text first second
