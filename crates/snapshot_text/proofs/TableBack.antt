-- The fields that were written spell the table.
use Rattle.lemmas.proofs.{◌≡◌, ◌≤◌, ◌<◌, ◌+◌, ℕ, ℤ, pos, negsuc, suc, ◌^◌, Bool, true, false, ◌&&◌, List, [], ◌∷◌, ◌++◌, length, map, take, drop, All, refl, ap, ◌∙◌, arith, codes, cond, length-append, Some, Ok, not, nat_eq, nat_le, nat_lt, after_first, All-head, All-tail, before_first, both_true, join_with_byte, length-map, list_all, nat_tests, onto_first, position_or_len, signed_decimal, slice_split}
use lib.Signed.{mag}
use Rattle.rdf_values.proofs.OneText.{integer_of_text}
use Rattle.rdf_values.specs.{AreColumns, cells_from, ColType, Column, column_of, ends_in_cut, FitRows, FitsColumn, FitsRow, Has64Bits, has_name, header_from, integer_of, integers_of, is_colon, is_cut, is_name, is_semicolon, IsStored, IsTable, MarkedRow, marks_from, next_column, row_of, rows_from, same, table_of, TableView, type_of, Value, vector_of}
use Rattle.rdf_values.specs.tables.TableText.{cell_of}
use Rattle.snapshot_text.specs.{AreNamed, cell_field, column_field, kind_word}
use Rattle.snapshot_text.proofs.Plain.{AllNumerals, Numeral, Wordy, name_bytes, number_numeral, number_some}
use Rattle.rdf_values.proofs.KeptLemmas.{fits_length as row_length}

-- ---- vectors

mag_of_word : (z : ℤ) → Has64Bits z → mag z < 2 ^ 63
mag_of_word (pos n) h = h
mag_of_word (negsuc n) h = h

pub number_back : (z : ℤ) → Has64Bits z → integer_of (signed_decimal z) ≡ Some z
number_back z h = integer_of_text z (mag_of_word z h)

no_semicolon : (b : ℕ) → b < 58 → is_semicolon b ≡ false
no_semicolon b h = grind (arith, nat_tests)

split_none : (xs : List ℕ) → Numeral xs → slice_split is_semicolon xs ≡ xs ∷ []
split_none [] h = refl
split_none (x ∷ xs) h = ap (λ b. cond b ([] ∷ slice_split is_semicolon xs) (onto_first x (slice_split is_semicolon xs))) (no_semicolon x h.1) ∙ ap (onto_first x) (split_none xs h.2)

split_at : (xs ys : List ℕ) → Numeral xs → slice_split is_semicolon (xs ++ 59 ∷ ys) ≡ xs ∷ slice_split is_semicolon ys
split_at [] ys h = refl
split_at (x ∷ xs) ys h = ap (λ b. cond b ([] ∷ slice_split is_semicolon (xs ++ 59 ∷ ys)) (onto_first x (slice_split is_semicolon (xs ++ 59 ∷ ys)))) (no_semicolon x h.1) ∙ ap (onto_first x) (split_at xs ys h.2)

split_joined : (x : List ℕ) (xs : List (List ℕ)) → AllNumerals (x ∷ xs) → slice_split is_semicolon (join_with_byte 59 (x ∷ xs)) ≡ x ∷ xs
split_joined x [] h = split_none x h.0
split_joined x (y ∷ ys) h = split_at x (join_with_byte 59 (y ∷ ys)) h.0 ∙ ap (λ t. x ∷ t) (split_joined y ys h.1)

pub numbers_numerals : (zs : List ℤ) → All Has64Bits zs → AllNumerals (map signed_decimal zs)
numbers_numerals [] h = tt
numbers_numerals (z ∷ zs) h = (number_numeral z (All-head Has64Bits z zs h), numbers_numerals zs (All-tail Has64Bits z zs h))

numbers_back : (zs : List ℤ) → All Has64Bits zs → integers_of (map signed_decimal zs) ≡ Some zs
unfolding integers_of
numbers_back [] h = refl
numbers_back (z ∷ zs) h = rw (number_back z (All-head Has64Bits z zs h), numbers_back zs (All-tail Has64Bits z zs h)) refl

pub joined_some : (x : List ℕ) (xs : List (List ℕ)) (c : ℕ) → 0 < length x → 0 < length (join_with_byte c (x ∷ xs))
joined_some x [] c h = h
joined_some x (y ∷ ys) c h = omega (arith, h, length-append x (c ∷ join_with_byte c (y ∷ ys)))

vector_by : (text : List ℕ) (zs : List ℤ) → 0 < length text → slice_split is_semicolon text ≡ map signed_decimal zs → length zs ≤ 4096 → All Has64Bits zs → vector_of text ≡ Some zs
unfolding vector_of
vector_by [] zs l s few h = absurd (omega arith)
vector_by (b ∷ bs) zs l s few h =
    let size = length-map zs signed_decimal in
    let within : nat_le (length (map signed_decimal zs)) 4096 ≡ true = grind (arith, nat_tests, size, few) in
    rw (s, within) (numbers_back zs h)

vector_back : (zs : List ℤ) → length zs ≤ 4096 → All Has64Bits zs → vector_of (join_with_byte 59 (map signed_decimal zs)) ≡ Some zs
unfolding vector_of
vector_back [] few h = refl
vector_back (z ∷ zs) few h =
    vector_by (join_with_byte 59 (map signed_decimal (z ∷ zs))) (z ∷ zs) (joined_some (signed_decimal z) (map signed_decimal zs) 59 (number_some z (All-head Has64Bits z zs h)))
    (split_joined (signed_decimal z) (map signed_decimal zs) (numbers_numerals (z ∷ zs) h)) few h

-- ---- entries

abbrev pub AllStored : List Column → Type 0
AllStored [] = Unit {0}
AllStored (c ∷ cs) = IsStored c.kind × AllStored cs

pub all_stored : (cols seen : List Column) → AreColumns seen cols → AllStored cols
all_stored [] seen h = tt
all_stored (c ∷ cs) seen h = (h.1, all_stored cs (seen ++ c ∷ []) h.2)

cell_back : (e i : ℕ) (kind : ColType) (x : Value) → IsStored kind → FitsColumn kind x → cell_of e i kind (cell_field x) ≡ Ok x
unfolding cell_of
cell_back e i ColType.Int (Value.Int z) s h = rw (number_back z h.1) refl
cell_back e i ColType.Int (Value.Bool b) s h = absurd h.0
cell_back e i ColType.Int (Value.Vect zs) s h = absurd h.0
cell_back e i ColType.Bool x s h = absurd s
cell_back e i ColType.Vect (Value.Int z) s h = absurd h.0
cell_back e i ColType.Vect (Value.Bool b) s h = absurd h.0
cell_back e i ColType.Vect (Value.Vect zs) s h = rw (vector_back zs h.0 h.1.1) refl

cells_back : (cols : List Column) (e i : ℕ) (row : List Value) → AllStored cols → FitsRow cols row → cells_from e i cols (map cell_field row) ≡ Ok row
unfolding cells_from
cells_back [] e i [] s h = refl
cells_back [] e i (x ∷ xs) s h = absurd h
cells_back (c ∷ cs) e i [] s h = absurd h
cells_back (c ∷ cs) e i (x ∷ xs) s h = rw (cell_back e i c.kind x s.0 h.0, cells_back cs e (i + 1) xs s.1 h.1) refl

abbrev unmarked : List Value → MarkedRow
unmarked row = record { row = row; marked = false }

row_back : (cols : List Column) (e : ℕ) (row : List Value) → e < 1000000 → AllStored cols → FitsRow cols row → row_of e (record { columns = cols; marked = false }) (map cell_field row) ≡ Ok (unmarked row)
unfolding row_of
row_back cols e row l s h =
    let size : length (map cell_field row) ≡ length cols + 0 = omega (arith, length-map row cell_field, row_length cols row h) in
    let early : nat_le 1000000 e ≡ false = grind (arith, nat_tests) in
    let even : nat_eq (length (map cell_field row)) (length cols + 0) ≡ true = grind (arith, nat_tests, size) in
    rw (early, even, cells_back cols e 0 row s h) refl

rows_back : (rows : List (List Value)) (cols : List Column) (e : ℕ) → e + length rows ≤ 1000000 → AllStored cols → FitRows cols rows
    → rows_from e (record { columns = cols; marked = false }) (map (λ row. map cell_field row) rows) ≡ Ok (map unmarked rows)
unfolding rows_from
rows_back [] cols e l s h = refl
rows_back (row ∷ rows) cols e l s h = rw (row_back cols e row (omega arith) s h.0, rows_back rows cols (e + 1) (omega arith) s h.1) refl

rows_unmarked : (rows : List (List Value)) → map (λ (r : MarkedRow). r.row) (map unmarked rows) ≡ rows
rows_unmarked [] = refl
rows_unmarked (row ∷ rows) = ap (λ t. row ∷ t) (rows_unmarked rows)

no_marks : (rows : List (List Value)) (e : ℕ) → marks_from e (map unmarked rows) ≡ []
no_marks [] e = refl
no_marks (row ∷ rows) e = no_marks rows (e + 1)

-- ---- the header

colon_at : (name kind : List ℕ) → Wordy name → position_or_len is_colon (name ++ 58 ∷ kind) ≡ length name
colon_at [] kind h = refl
colon_at (b ∷ bs) kind h = let more = colon_at bs kind h.2 in rw h.1 (omega (arith, more))

taken : (name rest : List ℕ) → take (length name) (name ++ rest) ≡ name
taken [] rest = refl
taken (b ∷ bs) rest = ap (λ t. b ∷ t) (taken bs rest)

dropped : (name : List ℕ) (b : ℕ) (rest : List ℕ) → drop (length name + 1) (name ++ b ∷ rest) ≡ rest
dropped [] b rest = refl
dropped (x ∷ xs) b rest =
    let one : length (x ∷ xs) + 1 ≡ suc (length xs + 1) = omega arith in
    ap (λ n. drop n (x ∷ xs ++ b ∷ rest)) one ∙ dropped xs b rest

name_first : (name kind : List ℕ) → Wordy name → before_first is_colon (name ++ 58 ∷ kind) ≡ name
name_first name kind h = ap (λ n. take n (name ++ 58 ∷ kind)) (colon_at name kind h) ∙ taken name (58 ∷ kind)

kind_behind : (name kind : List ℕ) → Wordy name → after_first is_colon (name ++ 58 ∷ kind) ≡ kind
kind_behind name kind h = ap (λ n. drop (n + 1) (name ++ 58 ∷ kind)) (colon_at name kind h) ∙ dropped name 58 kind

kind_back : (kind : ColType) → IsStored kind → type_of (kind_word kind) ≡ Some kind
kind_back ColType.Int h = refl
kind_back ColType.Bool h = absurd h
kind_back ColType.Vect h = refl

kind_uncut : (kind : ColType) → same (kind_word kind) (codes "cut") ≡ false
kind_uncut ColType.Int = refl
kind_uncut ColType.Bool = refl
kind_uncut ColType.Vect = refl

column_back : (c : Column) → is_name c.name ≡ true → IsStored c.kind → column_of (column_field c) ≡ Some c
unfolding column_of
column_back c h s =
    let wordy = (name_bytes c.name h).0 in
    rw (name_first c.name (kind_word c.kind) wordy, kind_behind c.name (kind_word c.kind) wordy, h, kind_back c.kind s) refl

third_no : (p q r : Bool) → (p && q && false && r) ≡ false
third_no true true r = refl
third_no true false r = refl
third_no false true r = refl
third_no false false r = refl

no_cut : (before : List Column) (c : Column) → is_name c.name ≡ true → is_cut before (column_field c) ≡ false
unfolding is_cut
no_cut before c h =
    let wordy = (name_bytes c.name h).0 in
    rw (name_first c.name (kind_word c.kind) wordy, kind_behind c.name (kind_word c.kind) wordy, kind_uncut c.kind)
    (third_no (not (nat_eq (length before) 0)) (is_name c.name) (not (has_name before c.name)))

no_end : (before : List Column) (field : List ℕ) (rest : List (List ℕ)) → is_cut before field ≡ false → ends_in_cut before (field ∷ rest) ≡ false
no_end before field [] h = h
no_end before field (x ∷ xs) h = refl

next_back : (before : List Column) (c : Column) → length before < 64 → is_name c.name ≡ true → IsStored c.kind → has_name before c.name ≡ false → next_column before (column_field c) ≡ Some c
unfolding next_column
next_back before c l h s new =
    let few : nat_lt (length before) 64 ≡ true = grind (arith, nat_tests) in
    rw (column_back c h s, few, new) refl

header_back : (cols : List Column) (i : ℕ) (before : List Column) → length before + length cols ≤ 64 → AreColumns before cols → AreNamed cols
    → header_from i before (map column_field cols) ≡ Ok (record { columns = cols; marked = false })
unfolding header_from
header_back [] i before l a h = refl
header_back (c ∷ cs) i before l a h =
    let names = both_true (is_name c.name) (list_all (λ (d : Column). is_name d.name) cs) h in
    let on = no_end before (column_field c) (map column_field cs) (no_cut before c names.0) in
    let size = length-append before (c ∷ []) in
    let rest = header_back cs (i + 1) (before ++ c ∷ []) (omega (arith, l, size)) a.2 names.1 in
    rw (on, next_back before c (omega (arith, l)) names.0 a.1 a.0, rest) refl

-- ---- the table

pub table_back : (t : TableView) → IsTable t → AreNamed t.columns → table_of (map column_field t.columns ∷ map (λ row. map cell_field row) t.rows) ≡ Ok (record { table = t; marks = [] })
unfolding table_of
table_back t h n =
    let few = h.header.few in
    rw (header_back t.columns 0 [] (omega (arith, few)) h.header.distinct n, rows_back t.rows t.columns 0 (omega (arith, h.few)) (all_stored t.columns [] h.header.distinct) h.fit, rows_unmarked t.rows, no_marks t.rows 0) refl
