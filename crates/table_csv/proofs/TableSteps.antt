-- One more entry of a table.
use Rattle.lemmas.proofs.{if◌then◌else◌, ◌≡◌, ◌≤◌, ◌<◌, ◌+◌, ℕ, Bool, true, false, List, [], ◌∷◌, ◌++◌, length, map, All, Result, Ok, Err, arith, refl, ap, sym, subst, ◌∙◌, length-append, suc, get_or, drop, None, Some, Option, append_assoc, not, ◌&&◌, nat_eq, option_and_then, option_map, ok_or, inl, inr, MatchResult, IfOk, IfSome, All-cons, append-nil, map-append, and_left, at_drop_more, drop_all, length-drop, nat_tests, not-true, length-map, All-append, All-map, Bor, list_any, list_any-append, result_ok}
use Rattle.rdf_values.specs.{Cells, Column, Header, header_from, MarkedRow, MarkedTable, marks_from, on_ok, row_of, rows_from, rows_kept, table_of, table_with, TableCause, TableView, Value, AreColumns, ColType, column_of, ends_in_cut, has_name, if_new, is_cut, IsHeader, IsStored, next_column, with_column, cells_from, mark_of, result_cons}
use Rattle.rdf_values.proofs.KeptLemmas.{length-rows_kept}
use Rattle.table_csv.specs.{entries_of, IsHeaded, Leaves, marked_joined, marks_behind, csv_records, is_quote, is_special, IsCut, IsHead, IsPiece, MarkedPieces, Took}
use Rattle.table_csv.proofs.RecordSteps.{result_onto, result_onto-cons, result_onto-none, csv_cut, no_quote}
use Rattle.csv.specs.declared.reader.Reader.{Reader}
use Rattle.rdf_values.specs.Answered.{Refuses}
use Rattle.table_csv.specs.declared.header.Heading.{Heading}
use Rattle.table_csv.specs.declared.refusal.TableRefusal.{TableRefusal}
use Rattle.rdf_values.specs.tables.TableText.{cell_of, mark_in}
use Rattle.columns.specs.{table_joined}

-- the table, where these rows are read and these entries are left
pub table_from : Header → List MarkedRow → List (List (List ℕ)) → Result MarkedTable TableCause
table_from h rows left = on_ok (result_onto rows (rows_from (length rows) h left)) (table_with h.columns)

pub table_none : (records : List (List (List ℕ))) → records ≡ [] → table_of records ≡ Err (TableCause.Header 0)
unfolding table_of
table_none records e = rw e refl

pub table_bad : (records : List (List (List ℕ))) (header : List (List ℕ)) (left : List (List (List ℕ))) (bad : TableCause) → records ≡ header ∷ left
    → header_from 0 [] header ≡ Err bad → table_of records ≡ Err bad
unfolding table_of
table_bad records header left bad h b = rw (h, b) refl

pub table_good : (records : List (List (List ℕ))) (header : List (List ℕ)) (left : List (List (List ℕ))) (h : Header) → records ≡ header ∷ left
    → header_from 0 [] header ≡ Ok h → table_of records ≡ entries_of h left
unfolding table_of
table_good records header left h r b = rw (r, b) refl

start : (h : Header) (left : List (List (List ℕ))) → entries_of h left ≡ table_from h [] left
unfolding table_from
start h left = rw (result_onto-none (rows_from 0 h left)) refl

end : (h : Header) (rows : List MarkedRow) → table_from h rows [] ≡ Ok (record { table = record { columns = h.columns; rows = map (λ (r : MarkedRow). r.row) rows }; marks = marks_from 0 rows })
unfolding table_from rows_from
end h rows = rw (append-nil rows) refl

stop : (answer : Result MarkedTable TableCause) (h : Header) (rows : List MarkedRow) (left : List (List (List ℕ))) (fields : List (List ℕ)) (rest : List (List (List ℕ))) (n : ℕ) (bad : TableCause)
    → answer ≡ table_from h rows left → left ≡ fields ∷ rest → length rows ≡ n → row_of n h fields ≡ Err bad → answer ≡ Err bad
unfolding table_from rows_from
stop answer h rows left fields rest n bad a l e b = rw (a, l, e, b) refl

more : (answer : Result MarkedTable TableCause) (h : Header) (rows : List MarkedRow) (left : List (List (List ℕ))) (fields : List (List ℕ)) (rest : List (List (List ℕ))) (n : ℕ) (row : MarkedRow)
    → answer ≡ table_from h rows left → left ≡ fields ∷ rest → length rows ≡ n → row_of n h fields ≡ Ok row → answer ≡ table_from h (rows ++ row ∷ []) rest
unfolding table_from rows_from
more answer h rows left fields rest n row a l e b =
    let longer : length (rows ++ row ∷ []) ≡ n + 1 = omega (arith, length-append rows (row ∷ [])) in
    rw (a, l, e, b, longer) (ap (λ all. on_ok all (table_with h.columns)) (result_onto-cons rows row (rows_from (n + 1) h rest)))

-- ---- marks

-- the mark of an entry, if it has one
abbrev pub mark_if : Bool → ℕ → List ℕ
mark_if b e = if b then e ∷ [] else []

pub marks_append : (xs ys : List MarkedRow) (e : ℕ) → marks_from e (xs ++ ys) ≡ marks_from e xs ++ marks_from (e + length xs) ys
marks_append [] ys e = grind arith
marks_append (x ∷ xs) ys e = grind (arith, marks_append xs ys (e + 1))

marks_more : (rows : List MarkedRow) (e n : ℕ) (row : MarkedRow) → length rows + e ≡ n → marks_from e (rows ++ row ∷ []) ≡ marks_from e rows ++ mark_if row.marked n
marks_more rows e n row l = let there : e + length rows ≡ n = omega (arith, l) in marks_append rows (row ∷ []) e ∙ ap (λ k. marks_from e rows ++ mark_if row.marked k) there

marks_below : (rows : List MarkedRow) (e n : ℕ) → length rows + e ≤ n → All (λ m. m < n) (marks_from e rows)
marks_below [] e n l = λ k d h. absurd (omega (arith, h))
marks_below (r ∷ rs) e n l = go r.marked (marks_below rs (e + 1) n (omega (arith, l)))
  where
    go : (b : Bool) → All (λ m. m < n) (marks_from (e + 1) rs) → All (λ m. m < n) (if b then e ∷ marks_from (e + 1) rs else marks_from (e + 1) rs)
    go true h = All-cons (λ m. m < n) e (marks_from (e + 1) rs) (omega (arith, l)) h
    go false h = h

-- ---- a table that is read

-- so many entries are read: the table's rows and marks are theirs, and the answer is that for what is left
pub record Reading (answer : Result MarkedTable TableCause) (marked : Bool) (table : TableView) (marks : List ℕ) (entry : ℕ) (left : List (List (List ℕ))) : Type 0 where
  pub read : List MarkedRow
  pub so_far : answer ≡ table_from (record { columns = table.columns; marked = marked }) read left
  pub rows : map (λ (r : MarkedRow). r.row) read ≡ table.rows
  pub marks_read : marks_from 0 read ≡ marks
  pub count : length read ≡ entry

pub reading_start : (columns : List Column) (marked : Bool) (left : List (List (List ℕ))) → Reading (entries_of (record { columns = columns; marked = marked }) left) marked (record { columns = columns; rows = [] }) [] 0 left
reading_start columns marked left = record { read = []; so_far = start (record { columns = columns; marked = marked }) left; rows = refl; marks_read = refl; count = refl }

pub reading_marks : (answer : Result MarkedTable TableCause) (marked : Bool) (table : TableView) (marks : List ℕ) (entry : ℕ) (left : List (List (List ℕ))) → Reading answer marked table marks entry left → All (λ m. m < entry) marks
reading_marks answer marked table marks entry left r = let n = r.count in subst (λ (l : List ℕ). All (λ m. m < entry) l) r.marks_read (marks_below r.read 0 entry (omega (arith, n)))

pub reading_stop : (answer : Result MarkedTable TableCause) (marked : Bool) (table : TableView) (marks : List ℕ) (entry : ℕ) (left : List (List (List ℕ))) (fields : List (List ℕ)) (rest : List (List (List ℕ))) (bad : TableCause)
    → Reading answer marked table marks entry left → left ≡ fields ∷ rest → row_of entry (record { columns = table.columns; marked = marked }) fields ≡ Err bad → answer ≡ Err bad
reading_stop answer marked table marks entry left fields rest bad r l b =
    stop answer (record { columns = table.columns; marked = marked }) r.read left fields rest entry bad r.so_far l r.count b

pub reading_more : (answer : Result MarkedTable TableCause) (marked : Bool) (table new : TableView) (marks : List ℕ) (entry : ℕ) (left : List (List (List ℕ))) (fields : List (List ℕ)) (rest : List (List (List ℕ))) (row : List Value) (begins : Bool)
    → Reading answer marked table marks entry left → left ≡ fields ∷ rest → row_of entry (record { columns = table.columns; marked = marked }) fields ≡ Ok (record { row = row; marked = begins })
    → new ≡ record { columns = table.columns; rows = table.rows ++ row ∷ [] } → Reading answer marked new (marks ++ mark_if begins entry) (entry + 1) rest
reading_more answer marked table new marks entry left fields rest row begins r l b q = rw q (
    let n = r.count in
    record {
      read = r.read ++ record { row = row; marked = begins } ∷ [];
      so_far = more answer (record { columns = table.columns; marked = marked }) r.read left fields rest entry (record { row = row; marked = begins }) r.so_far l r.count b;
      rows = map-append (λ (m : MarkedRow). m.row) r.read (record { row = row; marked = begins } ∷ []) ∙ ap (λ l. l ++ row ∷ []) r.rows;
      marks_read = marks_more r.read 0 entry (record { row = row; marked = begins }) (omega (arith, n)) ∙ ap (λ l. l ++ mark_if begins entry) r.marks_read;
      count = (let k = length-append r.read (record { row = row; marked = begins } ∷ []) in omega (arith, n, k));
    })

pub reading_end : (answer : Result MarkedTable TableCause) (marked : Bool) (table : TableView) (marks : List ℕ) (entry : ℕ) (left : List (List (List ℕ))) → Reading answer marked table marks entry left → left ≡ []
    → answer ≡ Ok (record { table = table; marks = marks })
reading_end answer marked table marks entry left r l = grind (arith, table_from, end)

-- ---- a table without rows, taken apart

abbrev IsEmpty : List Column → List Column → List Cells → ℕ → Type 0
IsEmpty columns cols cells n = ◌≡◌ {A = TableView} (record { columns = columns; rows = [] }) (record { columns = cols; rows = rows_kept n cells })

no_rows_yet : (columns cols : List Column) (cells : List Cells) (n : ℕ) → IsEmpty columns cols cells n → [] ≡ rows_kept n cells
no_rows_yet columns cols cells n e = ap (λ (v : TableView). v.rows) e

no_entries_yet : (columns cols : List Column) (cells : List Cells) (n : ℕ) → IsEmpty columns cols cells n → n ≡ 0
no_entries_yet columns cols cells n e = sym (length-rows_kept n cells) ∙ ap length (sym (no_rows_yet columns cols cells n e))

pub same_columns : (columns cols : List Column) (cells : List Cells) (n : ℕ) → IsEmpty columns cols cells n → cols ≡ columns
same_columns columns cols cells n e = sym (ap (λ (v : TableView). v.columns) e)

pub reading_opened : (columns cols : List Column) (cells : List Cells) (n : ℕ) (marked : Bool) (left : List (List (List ℕ))) → IsEmpty columns cols cells n
    → Reading (entries_of (record { columns = columns; marked = marked }) left) marked (record { columns = columns; rows = rows_kept n cells }) [] n left
reading_opened columns cols cells n marked left e = rw (sym (no_rows_yet columns cols cells n e), no_entries_yet columns cols cells n e) (reading_start columns marked left)

-- ---- one more field of a header, and answers behind it

-- what is read, with the header of what is left behind it
abbrev pub header_onto : List Column → Result Header TableCause → Result Header TableCause
header_onto read (Err e) = Err e
header_onto read (Ok h) = Ok (record { columns = read ++ h.columns; marked = h.marked })

header_onto-with : (read : List Column) (c : Column) (left : Result Header TableCause) → header_onto read (with_column c left) ≡ header_onto (read ++ c ∷ []) left
header_onto-with read c (Err e) = refl
header_onto-with read c (Ok h) = ap (λ l. Ok (record { columns = l; marked = h.marked })) (sym (append_assoc read (c ∷ []) h.columns))

no_end : (before : List Column) (field : List ℕ) (rest : List (List ℕ)) → (length rest ≡ 0 → is_cut before field ≡ false) → ends_in_cut before (field ∷ rest) ≡ false
no_end before field [] h = h refl
no_end before field (x ∷ xs) h = refl

an_end : (before : List Column) (field : List ℕ) (rest : List (List ℕ)) → length rest ≡ 0 → is_cut before field ≡ true → ends_in_cut before (field ∷ rest) ≡ true
an_end before field [] l h = h
an_end before field (x ∷ xs) l h = absurd (omega (arith, l))

-- the field isn't the last, or isn't one of marks
abbrev pub NoCut : List Column → List (List ℕ) → ℕ → Type 0
NoCut columns fields i = i + 1 ≡ length fields → is_cut columns (get_or fields i []) ≡ false

not_last : (columns : List Column) (fields : List (List ℕ)) (i : ℕ) → i < length fields → NoCut columns fields i → ends_in_cut columns (get_or fields i [] ∷ drop (i + 1) fields) ≡ false
not_last columns fields i h n = no_end columns (get_or fields i []) (drop (i + 1) fields) (λ l. n (omega (arith, h, l, length-drop (i + 1) fields)))

pub header_cut : (columns : List Column) (fields : List (List ℕ)) (i : ℕ) → i + 1 ≡ length fields → is_cut columns (get_or fields i []) ≡ true
    → header_onto columns (header_from i columns (drop i fields)) ≡ Ok (record { columns = columns; marked = true })
unfolding header_from
header_cut columns fields i h cut =
    let last = an_end columns (get_or fields i []) (drop (i + 1) fields) (omega (arith, h, length-drop (i + 1) fields)) cut in
    at_drop_more (λ left. header_onto columns (header_from i columns left)) fields i [] (omega (arith, h)) ∙ rw (last, append-nil columns) refl

pub header_stop : (columns : List Column) (fields : List (List ℕ)) (i : ℕ) → i < length fields → NoCut columns fields i → next_column columns (get_or fields i []) ≡ None
    → header_onto columns (header_from i columns (drop i fields)) ≡ Err (TableCause.Header i)
unfolding header_from
header_stop columns fields i h n none = at_drop_more (λ left. header_onto columns (header_from i columns left)) fields i [] h ∙ rw (not_last columns fields i h n, none) refl

pub header_more : (columns : List Column) (fields : List (List ℕ)) (i : ℕ) (c : Column) → i < length fields → NoCut columns fields i → next_column columns (get_or fields i []) ≡ Some c
    → header_onto columns (header_from i columns (drop i fields)) ≡ header_onto (columns ++ c ∷ []) (header_from (i + 1) (columns ++ c ∷ []) (drop (i + 1) fields))
unfolding header_from
header_more columns fields i c h n some =
    at_drop_more (λ left. header_onto columns (header_from i columns left)) fields i [] h ∙ rw (not_last columns fields i h n, some) (header_onto-with columns c _)

pub header_end : (columns : List Column) (fields : List (List ℕ)) (i : ℕ) → length fields ≤ i → header_onto columns (header_from i columns (drop i fields)) ≡ Ok (record { columns = columns; marked = false })
unfolding header_from
header_end columns fields i h = rw (drop_all i fields h, append-nil columns) refl

-- what a column of a header is
if_new_by : (b d : Bool) (before : List Column) (x c : Column) → has_name before x.name ≡ d → (if b && not d then Some x else None) ≡ Some c → (b ≡ true) × (has_name before c.name ≡ false) × (x ≡ c)
if_new_by b d before x c t e = grind arith

new_by : (before : List Column) (o : Option Column) (c : Column) → option_and_then (if_new before) o ≡ Some c → (length before < 64) × (has_name before c.name ≡ false) × (o ≡ Some c)
new_by before o c e = grind (arith, if_new_by, nat_tests)

stored_by : (a b d : Bool) (name : List ℕ) (c : Column)
    → (if d then option_map (λ kind. record { name = name; kind = kind }) (if a then Some ColType.Int else if b then Some ColType.Vect else None) else None) ≡ Some c → IsStored c.kind
stored_by a b d name c e = grind arith

column_stored : (field : List ℕ) (c : Column) → column_of field ≡ Some c → IsStored c.kind
unfolding column_of
column_stored field c e = grind (arith, stored_by)

next_new : (before : List Column) (field : List ℕ) (c : Column) → next_column before field ≡ Some c → (length before < 64) × (has_name before c.name ≡ false) × IsStored c.kind
unfolding next_column
next_new before field c e = let p = new_by before (column_of field) c e in (p.0, p.1, column_stored field c p.2)

-- the columns of a header's fields behind those before them; a field of marks has one before it
abbrev AreNext : ℕ → List Column → ℕ → Result Header TableCause → Type 0
AreNext i before size (Err e) = Unit {0}
AreNext i before size (Ok h) = AreColumns before h.columns × (i + length h.columns ≤ 64) × (0 < i + size → 0 < i + length h.columns)

next_cons : (i size : ℕ) (before : List Column) (c : Column) (rest : Result Header TableCause) → has_name before c.name ≡ false → IsStored c.kind
    → AreNext (i + 1) (before ++ c ∷ []) size rest → AreNext i before (suc size) (with_column c rest)
next_cons i size before c (Err e) new stored a = tt
next_cons i size before c (Ok h) new stored a = (let few = a.1 in ((new, stored, a.0), omega (arith, few), λ _. omega arith))

next_by : (i size : ℕ) (before : List Column) (field : List ℕ) (o : Option Column) (go : Column → Result Header TableCause) → length before ≡ i
    → next_column before field ≡ o → ((c : Column) → length before < 64 → AreNext (i + 1) (before ++ c ∷ []) size (go c))
    → AreNext i before (suc size) (on_ok (ok_or o (TableCause.Header i)) (λ c. with_column c (go c)))
next_by i size before field o go l e more = grind (arith, next_new, next_cons)

cut_behind : (before : List Column) (field : List ℕ) (rest : List (List ℕ)) → ends_in_cut before (field ∷ rest) ≡ true → 0 < length before
unfolding is_cut
cut_behind before field [] h = let other = not-true (nat_eq (length before) 0) (and_left _ _ (and_left _ _ (and_left _ _ h))) in grind (arith, nat_tests)
cut_behind before field (x ∷ xs) h = cc h

are_next_by : (b : Bool) (i size : ℕ) (before : List Column) (other : Result Header TableCause) → length before ≡ i → i ≤ 64 → (b ≡ true → 0 < length before) → AreNext i before size other
    → AreNext i before size (if b then Ok (record { columns = []; marked = true }) else other)
are_next_by true i size before other l few some a = let h = some refl in (tt, omega (arith, few), λ _. omega (arith, l, h))
are_next_by false i size before other l few some a = a

are_next : (fields : List (List ℕ)) (i : ℕ) (before : List Column) → length before ≡ i → i ≤ 64 → AreNext i before (length fields) (header_from i before fields)
unfolding header_from
are_next [] i before l few = (tt, omega arith, λ h. h)
are_next (field ∷ fields) i before l few =
    are_next_by (ends_in_cut before (field ∷ fields)) i (suc (length fields)) before _ l few (cut_behind before field fields)
    (next_by i (length fields) before field (next_column before field) (λ c. header_from (i + 1) (before ++ c ∷ []) fields) l refl
    (λ c room. are_next fields (i + 1) (before ++ c ∷ []) (omega (arith, length-append before (c ∷ []))) (omega arith)))

pub header_is : (fields : List (List ℕ)) (h : Header) → 0 < length fields → header_from 0 [] fields ≡ Ok h → IsHeader h.columns
header_is fields h l e = grind (arith, are_next)

-- Answers behind a header
pub headed : (answer : Result Heading TableRefusal) (records : List (List (List ℕ))) (fields : List (List ℕ)) (left : List (List (List ℕ))) (after : Reader (Bor (List ℕ))) → records ≡ fields ∷ left → Leaves after left → 0 < length fields
    → MatchResult answer (λ h. header_from 0 [] fields ≡ Ok (record { columns = h.columns; marked = h.marked })) (Refuses TableRefusal.At TableRefusal.Memory (header_from 0 [] fields))
    → MatchResult answer (λ h. IsHeaded records (record { columns = h.columns; marked = h.marked }) after) (Refuses TableRefusal.At TableRefusal.Memory (table_of records))
headed (Ok h) records fields left after first leaves some a = record { fields = fields; left = left; first = first; spells = a; leaves = leaves; header = header_is fields (record { columns = h.columns; marked = h.marked }) some a }
headed (Err e) records fields left after first leaves some (inl memory) = inl memory
headed (Err e) records fields left after first leaves some (inr bad) = inr (bad.0, bad.1, table_bad records fields left bad.0 first bad.2)

-- ---- the table of two parts, and answers about pieces of one

-- where the one has a value, the other has the same
abbrev Keeps : {A E : Type 0} → Result A E → Result A E → Type 0
Keeps (Err e) other = Unit {0}
Keeps (Ok x) other = other ≡ Ok x

keeps_cons : {A E : Type 0} (x y : Result A E) (xs ys : Result (List A) E) → Keeps x y → Keeps xs ys → Keeps (result_cons x xs) (result_cons y ys)
keeps_cons x y xs ys h k = grind arith

keeps_on : {A B E : Type 0} (x y : Result A E) (f g : A → Result B E) → Keeps x y → ((a : A) → Keeps (f a) (g a)) → Keeps (on_ok x f) (on_ok y g)
keeps_on (Err e) y f g h k = tt
keeps_on (Ok x) y f g h k = rw h (k x)

keeps_or : {A E : Type 0} (o : Option A) (c d : E) → Keeps (ok_or o c) (ok_or o d)
keeps_or None c d = tt
keeps_or (Some x) c d = refl

keeps_if : {A E : Type 0} (t : Bool) (x y v w : Result A E) → Keeps x v → Keeps y w → Keeps (if t then x else y) (if t then v else w)
keeps_if true x y v w h k = h
keeps_if false x y v w h k = k

-- ---- an entry has the same row at any number

cell_keeps : (e f i : ℕ) (kind : ColType) (text : List ℕ) → Keeps (cell_of e i kind text) (cell_of f i kind text)
unfolding cell_of
cell_keeps e f i kind text = grind (arith, keeps_or)

cells_keep : (columns : List Column) (fields : List (List ℕ)) (e f i : ℕ) → Keeps (cells_from e i columns fields) (cells_from f i columns fields)
unfolding cells_from
cells_keep [] fields e f i = refl
cells_keep (c ∷ cs) [] e f i = refl
cells_keep (c ∷ cs) (x ∷ fields) e f i = keeps_cons _ _ _ _ (cell_keeps e f i c.kind x) (cells_keep cs fields e f (i + 1))

mark_keeps : (e f i : ℕ) (marked : Bool) (fields : List (List ℕ)) → Keeps (mark_in e i marked fields) (mark_in f i marked fields)
unfolding mark_of
mark_keeps e f i marked fields = grind (arith, keeps_if)

row_keeps : (e f : ℕ) (h : Header) (fields : List (List ℕ)) → f < 1000000 → Keeps (row_of e h fields) (row_of f h fields)
unfolding row_of
row_keeps e f h fields l = grind (arith, nat_tests, keeps_if, keeps_on, cells_keep, mark_keeps)

rows_keep : (entries : List (List (List ℕ))) (e f : ℕ) (h : Header) → f + length entries ≤ 1000000 → Keeps (rows_from e h entries) (rows_from f h entries)
unfolding rows_from
rows_keep [] e f h l = refl
rows_keep (x ∷ entries) e f h l = keeps_cons _ _ _ _ (row_keeps e f h x (omega arith)) (rows_keep entries (e + 1) (f + 1) h (omega arith))

-- ---- rows one behind the other

onto_cons : {A E : Type 0} (x : Result A E) (xs ys : Result (List A) E) → result_cons x (on_ok xs (λ zs. result_onto zs ys)) ≡ on_ok (result_cons x xs) (λ zs. result_onto zs ys)
onto_cons x xs ys = grind arith

rows_append : (xs ys : List (List (List ℕ))) (e : ℕ) (h : Header) → rows_from e h (xs ++ ys) ≡ on_ok (rows_from e h xs) (λ zs. result_onto zs (rows_from (e + length xs) h ys))
unfolding rows_from
rows_append [] ys e h = grind (arith, result_onto-none)
rows_append (x ∷ xs) ys e h = grind (arith, onto_cons, rows_append xs ys (e + 1) h)

-- an entry each
cons_length : (x : Result MarkedRow TableCause) (xs : Result (List MarkedRow) TableCause) (rows : List MarkedRow) (n : ℕ) → result_cons x xs ≡ Ok rows
    → ((zs : List MarkedRow) → xs ≡ Ok zs → length zs ≡ n) → length rows ≡ suc n
cons_length x xs rows n q h = grind arith

rows_length : (entries : List (List (List ℕ))) (e : ℕ) (h : Header) (rows : List MarkedRow) → rows_from e h entries ≡ Ok rows → length rows ≡ length entries
unfolding rows_from
rows_length [] e h rows q = let equal : [] ≡ rows = cc q in sym (ap length equal)
rows_length (x ∷ entries) e h rows q = cons_length (row_of e h x) (rows_from (e + 1) h entries) rows (length entries) q (λ zs. rows_length entries (e + 1) h zs)

-- marks one behind the other
marks_shift : (rows : List MarkedRow) (n e : ℕ) → marks_from (n + e) rows ≡ marks_behind n (marks_from e rows)
marks_shift [] n e = refl
marks_shift (x ∷ rows) n e = grind (arith, marks_shift rows n (e + 1))

-- ---- tables

-- the table of these rows
abbrev view : Header → List MarkedRow → MarkedTable
view h rows = record { table = record { columns = h.columns; rows = map (λ (r : MarkedRow). r.row) rows }; marks = marks_from 0 rows }

rows_join : (h : Header) (xs ys : List (List (List ℕ))) (u w : List MarkedRow) → rows_from 0 h xs ≡ Ok u → rows_from 0 h ys ≡ Ok w → length (view h u).table.rows + length (view h w).table.rows ≤ 1000000
    → entries_of h (xs ++ ys) ≡ Ok (marked_joined (view h u) (view h w))
rows_join h xs ys u w p q few =
    let row_in = λ (m : MarkedRow). m.row in
    let m = rows_length xs 0 h u p in
    let n = rows_length ys 0 h w q in
    let size = length-map u row_in in
    let later : rows_from (0 + length xs) h ys ≡ Ok w = rw q at (rows_keep ys 0 (0 + length xs) h (omega (arith, m, n, size, length-map w row_in, few))) in
    let whole : rows_from 0 h (xs ++ ys) ≡ Ok (u ++ w) = rows_append xs ys 0 h ∙ rw (p, later) refl in
    let place : 0 + length u ≡ length (map row_in u) + 0 = omega (arith, size) in
    let behind : marks_from (0 + length u) w ≡ marks_behind (length (map row_in u)) (marks_from 0 w) = rw place (marks_shift w (length (map row_in u)) 0) in
    rw (whole, map-append row_in u w, marks_append u w 0, behind) refl

read_by : (h : Header) (r : Result (List MarkedRow) TableCause) (t : MarkedTable) → on_ok r (table_with h.columns) ≡ Ok t → (rows : List MarkedRow) × (r ≡ Ok rows) × (view h rows ≡ t)
read_by h (Err e) t q = cc q
read_by h (Ok rows) t q = (rows, refl, cc q)

entries_join : (h : Header) (xs ys : List (List (List ℕ))) (a b : MarkedTable) → entries_of h xs ≡ Ok a → entries_of h ys ≡ Ok b → length a.table.rows + length b.table.rows ≤ 1000000
    → entries_of h (xs ++ ys) ≡ Ok (marked_joined a b)
entries_join h xs ys a b p q few =
    let r = read_by h (rows_from 0 h xs) a p in
    let s = read_by h (rows_from 0 h ys) b q in
    let count = rw (← r.2, ← s.2) at few in
    rw (← r.2, ← s.2) (rows_join h xs ys r.0 s.0 r.1 s.1 count)

ok_by : {A B E : Type 0} (x : Result A E) (f : A → Result B E) (b : B) → on_ok x f ≡ Ok b → (a : A) × (x ≡ Ok a) × (f a ≡ Ok b)
ok_by (Err e) f b q = cc q
ok_by (Ok x) f b q = (x, refl, q)

-- the table of a header and two parts of its entries
pub table_join : (header : List (List ℕ)) (xs ys : List (List (List ℕ))) (a b : MarkedTable) → table_of (header ∷ xs) ≡ Ok a → table_of (header ∷ ys) ≡ Ok b
    → length a.table.rows + length b.table.rows ≤ 1000000 → table_of (header ∷ (xs ++ ys)) ≡ Ok (marked_joined a b)
unfolding table_of
table_join header xs ys a b p q few =
    let r = ok_by (header_from 0 [] header) (λ h. entries_of h xs) a p in
    let s = rw r.1 at q in
    rw r.1 (entries_join r.0 xs ys a b r.2 s few)

columns_of : (h : Header) (entries : List (List (List ℕ))) (t : MarkedTable) → entries_of h entries ≡ Ok t → t.table.columns ≡ h.columns
columns_of h entries t q = let r = read_by h (rows_from 0 h entries) t q in sym (ap (λ m. m.table.columns) r.2)

-- tables of one header have its columns
pub table_columns : (header : List (List ℕ)) (xs ys : List (List (List ℕ))) (a b : MarkedTable) → table_of (header ∷ xs) ≡ Ok a → table_of (header ∷ ys) ≡ Ok b → b.table.columns ≡ a.table.columns
unfolding table_of
table_columns header xs ys a b p q = grind (arith, ok_by, columns_of)

-- ---- Answers about pieces of a table.

-- one record, where a read takes the first, and the next finds none
pub one_record : (bytes : List ℕ) (fields second : List (List ℕ)) (rest : List (List (List ℕ))) (found : Bool) (after : Reader (Bor (List ℕ))) → csv_records bytes ≡ fields ∷ rest → Took found rest second after → not found ≡ true → IsHead bytes
one_record bytes fields second rest true after r t n = cc n
one_record bytes fields second rest false after r t n = (fields, r ∙ ap (λ l. fields ∷ l) t)

-- the records of a header line stand before those of the lines
pub behind_head : (head : List ℕ) (records : List (List (List ℕ))) (h : Header) (after : Reader (Bor (List ℕ))) → IsHead head → IsHeaded (csv_records head) h after → table_of (csv_records head ++ records) ≡ entries_of h records
behind_head head records h after one i = grind (arith, table_good)

-- what is said of an answer that is good
pub good_answer : {A E : Type 0} (answer : Result A E) (value : A) (P : A → Type 0) (Q : E → Type 0) → result_ok answer ≡ Some value → MatchResult answer P Q → P value
good_answer (Ok x) value P Q some h = let same : x ≡ value = cc some in rw same at h
good_answer (Err e) value P Q some h = cc some

-- the answer for a piece
pub piece_of : (head lines : List ℕ) (answer : Result MarkedPieces TableRefusal) (wanted : Result MarkedTable TableCause) → list_any is_special lines ≡ false → table_of (csv_records head ++ csv_records lines) ≡ wanted
    → MatchResult answer (λ m. wanted ≡ Ok (record { table = m.table; marks = m.marks })) (Refuses TableRefusal.At TableRefusal.Memory wanted) → IfOk answer (λ m. All (λ e. e < length m.table.rows) m.marks)
    → IfSome (result_ok answer) (λ m. IsPiece head lines m)
piece_of head lines answer wanted plain w a within = grind arith

-- ---- two pieces

pub pieces_columns : (head front back : List ℕ) (a b : MarkedPieces) → IsHead head → IsPiece head front a → IsPiece head back b → b.table.columns ≡ a.table.columns
pieces_columns head front back a b one p q = grind (arith, table_columns)

within_joined : (first second : List (List Value)) (marks more : List ℕ) → All (λ e. e < length first) marks → All (λ e. e < length second) more → All (λ e. e < length (first ++ second)) (marks ++ marks_behind (length first) more)
within_joined first second marks more h k =
    let size = length-append first second in
    All-append (λ e. e < length (first ++ second)) marks (marks_behind (length first) more)
    (λ i d l. let b = h i d l in omega (arith, b, size))
    (All-map (λ e. e < length (first ++ second)) (λ e. length first + e) more (λ i d l. let b = k i d l in omega (arith, b, size)))

pub pieces_answer : (head front back lines : List ℕ) (a b : MarkedPieces) (answer : Option MarkedPieces) → IsHead head → front ++ back ≡ lines → IsCut front back → IsPiece head front a → IsPiece head back b
    → IfSome answer (λ m. length a.table.rows + length b.table.rows ≤ 1000000) → IfSome answer (λ m. m.table ≡ table_joined a.table b.table) → IfSome answer (λ m. m.marks ≡ a.marks ++ marks_behind (length a.table.rows) b.marks)
    → IfSome answer (λ m. IsPiece head lines m)
pieces_answer head front back lines a b None one whole cut p q few t k = tt
pieces_answer head front back lines a b (Some m) one whole cut p q few t k =
    let first = rw one.1 at p.read in
    let second = rw one.1 at q.read in
    let records : csv_records lines ≡ csv_records front ++ csv_records back = rw (← whole) (csv_cut front back cut (no_quote front p.plain) q.plain) in
    let joined = table_join one.0 (csv_records front) (csv_records back) (record { table = a.table; marks = a.marks }) (record { table = b.table; marks = b.marks }) first second few in
    record {
      plain = rw (← whole, list_any-append is_special front back, p.plain) q.plain;
      read = rw (one.1, records, t, k) joined;
      within = rw (t, k) (within_joined a.table.rows b.table.rows a.marks b.marks p.within q.within);
    }

-- a table whose first line is the header
pub head_answer : (head lines bytes : List ℕ) (answer : Option MarkedPieces) → head ++ lines ≡ bytes → IsCut head lines → list_any is_quote head ≡ false → IfSome answer (λ m. IsPiece head lines m)
    → IfSome answer (λ m. table_of (csv_records bytes) ≡ Ok (record { table = m.table; marks = m.marks }))
head_answer head lines bytes None whole cut plain p = tt
head_answer head lines bytes (Some m) whole cut plain p = rw (← whole, csv_cut head lines cut plain p.plain) p.read
