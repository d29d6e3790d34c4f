-- The records of a table's text are the fields that were written.
use Rattle.lemmas.proofs.{◌≡◌, ◌<◌, ◌+◌, ℕ, zero, suc, false, List, [], ◌∷◌, ◌++◌, length, refl, ap, sym, arith, codes, length-append, ◌==◌, if◌then◌else◌, append-nil, join_with_byte, nat_tests}
use Rattle.csv.specs.Machine.{next_record}
use Rattle.csv.specs.Reading.{default_config, records_from, strip_bom}
use Rattle.csv.specs.Writing.{default_writer, fields_text, is_blank, read_back, row_body, row_text}
use Rattle.csv.specs.declared.parser.State.TheVariants as st
use Rattle.csv.proofs.RoundTrip.{read-write, rows_text}
use Rattle.table_csv.specs.{csv_records}
use Rattle.rdf_values.specs.{line}
use Rattle.snapshot_text.proofs.Plain.{Above, AllAbove, Starts, plain}

-- ---- a record as `csv` would write it

body_joined : (x : List ℕ) (xs : List (List ℕ)) → AllAbove (x ∷ xs) → row_body default_writer (x ∷ xs) ≡ join_with_byte 44 (x ∷ xs)
unfolding fields_text
body_joined x [] h = rw (plain x h.0) (append-nil x)
body_joined x (y ∷ ys) h = rw (plain x h.0) (ap (λ t. x ++ 44 ∷ t) (body_joined y ys h.1))

pub many_written : (x y : List ℕ) (ys : List (List ℕ)) → AllAbove (x ∷ y ∷ ys) → line (join_with_byte 44 (x ∷ y ∷ ys)) ≡ row_text default_writer (x ∷ y ∷ ys)
unfolding is_blank
many_written x y ys h = ap (λ t. t ++ 10 ∷ []) (sym (body_joined x (y ∷ ys) h))

some_bytes : (b : ℕ) (bs : List ℕ) → (length (b ∷ bs) == 0) ≡ false
some_bytes b bs = grind (arith, nat_tests)

pub one_written : (x : List ℕ) → Above x → 0 < length x → line x ≡ row_text default_writer (x ∷ [])
unfolding is_blank fields_text
one_written [] h l = absurd (omega arith)
one_written (b ∷ bs) h l = rw (plain (b ∷ bs) h, some_bytes b bs) (ap (λ t. t ++ 10 ∷ []) (sym (append-nil (b ∷ bs))))

pub none_written : codes "\"\"\n" ≡ row_text default_writer ([] ∷ [])
unfolding is_blank fields_text
none_written = refl

-- ---- all records

abbrev pub HaveFields : List (List (List ℕ)) → Type 0
HaveFields [] = Unit {0}
HaveFields (row ∷ rows) = (0 < length row) × HaveFields rows

row_some : (row : List (List ℕ)) → 0 < length (row_text default_writer row)
row_some row =
    let quotes : List ℕ = if is_blank default_writer row then 34 ∷ 34 ∷ [] else [] in
    omega (arith, length-append (row_body default_writer row) (quotes ++ 10 ∷ []), length-append quotes (10 ∷ []))

reads_same : (row : List (List ℕ)) → 0 < length row → read_back row ≡ row
reads_same [] h = absurd (omega arith)
reads_same (x ∷ xs) h = refl

all_read : (rows : List (List (List ℕ))) (n : ℕ) → HaveFields rows → length (rows_text rows) < n → records_from default_config n st.StartRecord (rows_text rows) ≡ rows
unfolding records_from rows_text next_record
all_read [] zero h l = absurd (omega arith)
all_read [] (suc n) h l = refl
all_read (row ∷ rows) zero h l = absurd (omega arith)
all_read (row ∷ rows) (suc n) h l =
    let size = length-append (row_text default_writer row) (rows_text rows) in
    let some = row_some row in
    rw (read-write row (rows_text rows), reads_same row h.0) (ap (λ rest. row ∷ rest) (all_read rows n h.1 (omega (arith, size, some, l))))

-- ---- the byte order mark

no_mark : (bytes : List ℕ) → Starts bytes → strip_bom bytes ≡ bytes
unfolding strip_bom
no_mark [] h = absurd h
no_mark (a ∷ []) h = refl
no_mark (a ∷ b ∷ []) h = refl
no_mark (a ∷ b ∷ c ∷ rest) h = rw h refl

-- records that were written are read
pub records_back : (rows : List (List (List ℕ))) → HaveFields rows → Starts (rows_text rows) → csv_records (rows_text rows) ≡ rows
unfolding csv_records
records_back rows h s = rw (no_mark (rows_text rows) s) (all_read rows (length (rows_text rows) + 1) h (omega arith))
