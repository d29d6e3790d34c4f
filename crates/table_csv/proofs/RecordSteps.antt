-- One more cell of an entry, and its mark.
use Rattle.lemmas.proofs.{◌≡◌, ◌<◌, ℕ, zero, suc, List, [], ◌∷◌, length, get_or, None, Some, Option, arith, refl, rules, option_map, IsSome, ◌≢◌, ◌≤◌, ◌+◌, Bool, true, false, ◌++◌, drop, Result, Ok, Err, ap, sym, append_assoc, MatchResult, ◌∙◌, if◌then◌else◌, take, All, length-take, slice_get, set, length-append, inl, length-drop, get_or-drop, cond, nat_lt, position, is_some, ◌==◌, append-nil, inr, ◌&&◌, nat_eq, ◌-◌, add-one, drop_all, drop_more, nat_tests, All-append, All-map, AllPairs-from_increasing, get_or-take, get_or_from_slice_get, map-append, slice_get_within, take_next, cond_both, list_any-append, passes_at_first, position_or_len, take_more, get_or_default, list_any, list_any-from_Any, list_any_none, false_from_ne_true, and_false, or_parts, All-cons, All-drop, All-take, drop-append_seam, flat_map-append}
use Rattle.std.specs.Borrow.{Bor}
use Rattle.csv.specs.Records.{field_at}
use mir.Val.{bool_byte}
use Rattle.rdf_values.specs.{Answers, Cells, cells_from, Column, field_count, Header, mark_of, MarkedRow, on_ok, result_cons, row_of, row_pushed, TableCause, Value, AreMarks, AreKept, ColType, IsKept, pushed}
use Rattle.rdf_values.specs.tables.TableText.{cell_of, mark_in}
use Rattle.rdf_values.specs.Answered.{Refuses}
use Rattle.table_csv.specs.{IsRowPushed, marks_behind, AreCellsPushed, IsCellPushed, kind_of, Leaves, Took, EndsLine, is_line_end, csv_records, is_quote, is_special, IsCut}
use Rattle.table_csv.specs.declared.refusal.TableRefusal.{TableRefusal}
use Rattle.rdf_values.proofs.KeptLemmas.{kept_length}
use Rattle.csv.specs.Machine.{Read, ends_at_end, is_end, step, next_record, fields_after, field_after, ends_with, in_field, start_field, start_record}
use Rattle.csv.specs.Reading.{NextIs, ReadsNext, ReadRecord, default_config, is_flexible, pending_of, records_from, reader_config, reader_state, reader_trim, records_next, Ready, source_of, took_first, is_bom, strip_bom}
use Rattle.csv.specs.declared.parser.State.{State}
use Rattle.csv.specs.declared.parser.Action.{Action}
use Rattle.csv.specs.declared.reader.Reader.{Reader}
use Rattle.memchr.specs.Find.{IsFirstByte}
use Rattle.std.proofs.lemmas.List.{take_all}
use Rattle.columns.specs.{joined}
use Rattle.csv.specs.declared.parser.State.TheVariants as st
use Rattle.csv.specs.declared.parser.Action.TheVariants as act
use Rattle.csv.specs.declared.reader.Trim.TheVariants as trim

pub field_at-get_or : (fs : List (List ℕ)) (i : ℕ) → i < length fs → field_at fs i ≡ Some (get_or fs i [])
unfolding field_at
field_at-get_or [] i h = absurd (omega arith)
field_at-get_or (f ∷ fs) zero h = refl
field_at-get_or (f ∷ fs) (suc i) h = field_at-get_or fs i (omega arith)

pub some_field : (o : Option (Bor (List ℕ))) (x : List ℕ) → option_map (λ s. s.now) o ≡ Some x → IsSome o
some_field None x e = cc e
some_field (Some y) x e = search rules

-- ---- One more cell of an entry, and its mark; what is read, with the answer for what is left behind it.

abbrev pub result_onto : {A E : Type 0} → List A → Result (List A) E → Result (List A) E
result_onto read (Err e) = Err e
result_onto read (Ok xs) = Ok (read ++ xs)

pub result_onto-none : {A E : Type 0} (left : Result (List A) E) → result_onto [] left ≡ left
result_onto-none (Err e) = refl
result_onto-none (Ok xs) = refl

pub result_onto-cons : {A E : Type 0} (read : List A) (x : A) (left : Result (List A) E) → result_onto read (result_cons (Ok x) left) ≡ result_onto (read ++ x ∷ []) left
result_onto-cons read x (Err e) = refl
result_onto-cons read x (Ok xs) = ap Ok (sym (append_assoc read (x ∷ []) xs))

-- ---- cells

pub cells_more : (e : ℕ) (row : List Value) (columns : List Column) (fields : List (List ℕ)) (i : ℕ) (c : Column) (x : Value)
    → i < length columns → i < length fields → c ≡ get_or columns i c → cell_of e i c.kind (get_or fields i []) ≡ Ok x
    → result_onto row (cells_from e i (drop i columns) (drop i fields)) ≡ result_onto (row ++ x ∷ []) (cells_from e (i + 1) (drop (i + 1) columns) (drop (i + 1) fields))
unfolding cells_from
cells_more e row columns fields i c x hc hf same good = rw (drop_more columns i c hc, drop_more fields i [] hf, ← same, good) (result_onto-cons row x _)

pub cells_end : (e : ℕ) (row : List Value) (columns : List Column) (fields : List (List ℕ)) (i : ℕ) → length columns ≤ i
    → result_onto row (cells_from e i (drop i columns) (drop i fields)) ≡ Ok row
unfolding cells_from
cells_end e row columns fields i h = rw (drop_all i columns h, append-nil row) refl

pub row_many : (e : ℕ) (h : Header) (fields : List (List ℕ)) → 1000000 ≤ e → row_of e h fields ≡ Err (TableCause.TooMany e)
unfolding row_of
row_many e h fields l = grind (arith, nat_tests)

pub row_short : (e : ℕ) (h : Header) (fields : List (List ℕ)) → e < 1000000 → length fields ≢ field_count h → row_of e h fields ≡ Err (TableCause.FieldCount e)
unfolding row_of
row_short e h fields l n = grind (arith, nat_tests)

-- the row, from its cells and its mark
abbrev with_mark : Result (List Value) TableCause → Result Bool TableCause → Result MarkedRow TableCause
with_mark cells mark = on_ok cells (λ row. on_ok mark (λ marked. Ok (record { row = row; marked = marked })))

row_whole : (e : ℕ) (h : Header) (fields : List (List ℕ)) → e < 1000000 → length fields ≡ field_count h
    → row_of e h fields ≡ with_mark (cells_from e 0 h.columns fields) (mark_in e (length h.columns) h.marked (drop (length h.columns) fields))
unfolding row_of
row_whole e h fields l q = grind (arith, nat_tests)

pub row_bad : (e : ℕ) (h : Header) (fields : List (List ℕ)) (bad : TableCause) → e < 1000000 → length fields ≡ field_count h → cells_from e 0 h.columns fields ≡ Err bad → row_of e h fields ≡ Err bad
row_bad e h fields bad l q b = row_whole e h fields l q ∙ rw b refl

pub row_plain : (e : ℕ) (columns : List Column) (marked : Bool) (fields : List (List ℕ)) (row : List Value) → e < 1000000 → length fields ≡ field_count (record { columns = columns; marked = marked }) → marked ≡ false
    → cells_from e 0 columns fields ≡ Ok row → row_of e (record { columns = columns; marked = marked }) fields ≡ Ok (record { row = row; marked = false })
row_plain e columns marked fields row l q m b = row_whole e (record { columns = columns; marked = marked }) fields l q ∙ rw (b, m) refl

pub row_marked : (e : ℕ) (columns : List Column) (marked : Bool) (fields : List (List ℕ)) (row : List Value) (mark : Result Bool TableCause) → e < 1000000 → length fields ≡ field_count (record { columns = columns; marked = marked })
    → marked ≡ true → cells_from e 0 columns fields ≡ Ok row → mark_of e (length columns) (get_or fields (length columns) []) ≡ mark
    → row_of e (record { columns = columns; marked = marked }) fields ≡ on_ok mark (λ begins. Ok (record { row = row; marked = begins }))
row_marked e columns true fields row mark l q m b k = row_whole e (record { columns = columns; marked = true }) fields l q ∙ rw (b, drop_more fields (length columns) [] (omega (arith, q)), k) refl
row_marked e columns false fields row mark l q m b k = cc m

-- an entry that has a row is one of the first
pub row_early : (e : ℕ) (h : Header) (fields : List (List ℕ)) (r : MarkedRow) → row_of e h fields ≡ Ok r → e < 1000000
unfolding row_of
row_early e h fields r q = grind (arith, nat_tests)

-- the field of a mark counts as one
pub one_if : (b : Bool) → bool_byte b ≡ (if b then 1 else 0)
one_if true = refl
one_if false = refl

-- the answer of an entry, from that of its mark
pub after_mark : (row : List Value) (mark : Result Bool TableCause) (wanted : Result MarkedRow TableCause) (answer : Result Bool TableRefusal) (old new : List Cells)
    → wanted ≡ on_ok mark (λ begins. Ok (record { row = row; marked = begins })) → new ≡ row_pushed old row → Answers TableRefusal.At TableRefusal.Memory mark answer
    → MatchResult answer (λ begins. IsRowPushed wanted begins old new) (Refuses TableRefusal.At TableRefusal.Memory wanted)
after_mark row mark wanted answer old new w q a = grind arith

-- ---- Marks behind others.

pub marks_more : (old now more : List ℕ) (n i mark : ℕ) → now ≡ old ++ marks_behind n (take i more) → slice_get more i ≡ Some mark → now ++ (n + mark) ∷ [] ≡ old ++ marks_behind n (take (i + 1) more)
marks_more old now more n i mark e s =
    rw (e, take_next more i mark s, map-append (λ m. n + m) (take i more) (mark ∷ [])) (append_assoc old (marks_behind n (take i more)) ((n + mark) ∷ []))

pub marks_above : (old now more : List ℕ) (n i mark : ℕ) → now ≡ old ++ marks_behind n (take i more) → All (λ m. m < n) old → AreMarks more → slice_get more i ≡ Some mark → All (λ m. m < n + mark) now
marks_above old now more n i mark e before a s =
    let lt = slice_get_within more i mark s in
    let pairs = AllPairs-from_increasing more a.rising in
    let size = length-take i more in
    let each : All (λ m. n + m < n + mark) (take i more) =
    (λ j d h.
    let short : j < i = omega (arith, h, size) in
    let pair = pairs j i d short lt in
    let same = get_or-take i more j d short in
    let own = get_or_from_slice_get more i mark d s in
    omega (arith, pair, same, own)) in
    rw e (All-append (λ m. m < n + mark) old (marks_behind n (take i more)) (λ j d h. let b = before j d h in omega (arith, b)) (All-map (λ m. m < n + mark) (λ m. n + m) (take i more) each))

pub mark_few : (more : List ℕ) (n i mark : ℕ) → All (λ m. n + m < 1000000) more → slice_get more i ≡ Some mark → n + mark < 1000000
mark_few more n i mark few s = grind (arith, slice_get_within, get_or_from_slice_get)

-- ---- what a read of a record takes, and one more value for a column: values behind those of the first columns

none_pushed : (xs : List Cells) → row_pushed xs [] ≡ xs
none_pushed [] = refl
none_pushed (x ∷ xs) = refl

get_pushed : (xs : List Cells) (row : List Value) (d : Cells) → get_or (row_pushed xs row) (length row) d ≡ get_or xs (length row) d
get_pushed [] row d = refl
get_pushed (x ∷ xs) [] d = refl
get_pushed (x ∷ xs) (value ∷ row) d = get_pushed xs row d

set_pushed : (xs : List Cells) (row : List Value) (value : Value) (d : Cells) → length row < length xs → set (row_pushed xs row) (length row) (pushed (get_or xs (length row) d) value) ≡ row_pushed xs (row ++ value ∷ [])
set_pushed [] row value d h = absurd (omega arith)
set_pushed (x ∷ xs) [] value d h = ap (λ t. pushed x value ∷ t) (sym (none_pushed xs))
set_pushed (x ∷ xs) (w ∷ row) value d h = ap (λ t. pushed x w ∷ t) (set_pushed xs row value d (omega arith))

-- ---- the types of columns

kind_kept : (kind : ColType) (n : ℕ) (x : Cells) → IsKept kind n x → kind ≡ kind_of x
kind_kept kind n x h = grind arith

-- the column at a place, and its type
column_at : (columns : List Column) (cells : List Cells) (n i : ℕ) (d : Cells) → AreKept n columns cells → i < length columns → (c : Column) × (c ≡ get_or columns i c) × (c.kind ≡ kind_of (get_or cells i d))
column_at [] cells n i d h l = absurd (omega arith)
column_at (c ∷ cs) [] n i d h l = absurd h
column_at (c ∷ cs) (x ∷ xs) n zero d h l = (c, refl, kind_kept c.kind n x h.0)
column_at (c ∷ cs) (x ∷ xs) n (suc i) d h l = column_at cs xs n i d h.1 (omega arith)

-- ---- an entry that is read

-- the values of so many columns are read and pushed, and the answer is that for what is left
pub record Pushing (whole : Result (List Value) TableCause) (e : ℕ) (columns : List Column) (fields : List (List ℕ)) (i : ℕ) (old now : List Cells) : Type 0 where
  pub row : List Value
  pub so_far : whole ≡ result_onto row (cells_from e i (drop i columns) (drop i fields))
  pub count : length row ≡ i
  pub added : now ≡ row_pushed old row

pub pushing_start : (e : ℕ) (columns : List Column) (fields : List (List ℕ)) (old : List Cells) → Pushing (cells_from e 0 columns fields) e columns fields 0 old old
pushing_start e columns fields old = record { row = []; so_far = sym (result_onto-none (cells_from e 0 columns fields)); count = refl; added = sym (none_pushed old) }

-- the column whose turn it is
turn : (whole : Result (List Value) TableCause) (e : ℕ) (columns : List Column) (fields : List (List ℕ)) (i : ℕ) (old now : List Cells) (d : Cells) (p : Pushing whole e columns fields i old now)
    → d ≡ get_or now i d → d ≡ get_or old i d
turn whole e columns fields i old now d p q =
    q ∙ ap (λ t. get_or t i d) p.added ∙ ap (λ j. get_or (row_pushed old p.row) j d) (sym p.count) ∙ get_pushed old p.row d ∙ ap (λ j. get_or old j d) p.count

pub pushing_stop : (whole : Result (List Value) TableCause) (e : ℕ) (columns : List Column) (fields : List (List ℕ)) (i : ℕ) (old now : List Cells) (d : Cells) (bad : TableCause) → Pushing whole e columns fields i old now → AreKept e columns old
    → i < length columns → i < length fields → d ≡ get_or now i d → cell_of e i (kind_of d) (get_or fields i []) ≡ Err bad → whole ≡ Err bad
unfolding cells_from
pushing_stop whole e columns fields i old now d bad p h lc lf q b =
    let there = column_at columns old e i d h lc in
    let kind : there.0.kind ≡ kind_of d = there.2 ∙ ap kind_of (sym (turn whole e columns fields i old now d p q)) in
    p.so_far ∙ rw (drop_more columns i there.0 lc, drop_more fields i [] lf, ← there.1, kind, b) refl

pub pushing_more : (whole : Result (List Value) TableCause) (e : ℕ) (columns : List Column) (fields : List (List ℕ)) (i : ℕ) (old now : List Cells) (d new : Cells) → Pushing whole e columns fields i old now → AreKept e columns old
    → i < length columns → i < length fields → d ≡ get_or now i d → IsCellPushed (cell_of e i (kind_of d) (get_or fields i [])) d new → Pushing whole e columns fields (i + 1) old (set now i new)
pushing_more whole e columns fields i old now d new p h lc lf q b =
    let there = column_at columns old e i d h lc in
    let same = turn whole e columns fields i old now d p q in
    let kind : there.0.kind ≡ kind_of d = there.2 ∙ ap kind_of (sym same) in
    let size = kept_length columns old e h in
    let n = p.count in
    let here : length p.row < length old = omega (arith, n, size) in
    let at : set (row_pushed old p.row) i new ≡ row_pushed old (p.row ++ b.value ∷ []) =
    ap (λ j. set (row_pushed old p.row) j new) (sym n)
    ∙ ap (λ x. set (row_pushed old p.row) (length p.row) x) (b.added ∙ ap (λ x. pushed x b.value) (same ∙ ap (λ j. get_or old j d) (sym n)))
    ∙ set_pushed old p.row b.value d here in
    record {
      row = p.row ++ b.value ∷ [];
      so_far = p.so_far ∙ cells_more e p.row columns fields i there.0 b.value lc lf there.1 (rw kind b.spelt);
      count = (let l = length-append p.row (b.value ∷ []) in omega (arith, n, l));
      added = ap (λ t. set t i new) p.added ∙ at;
    }

pub pushing_end : (whole : Result (List Value) TableCause) (e : ℕ) (columns : List Column) (fields : List (List ℕ)) (i : ℕ) (old now : List Cells) → Pushing whole e columns fields i old now → length columns ≤ i → AreCellsPushed whole old now
pushing_end whole e columns fields i old now p l = record { row = p.row; spelt = p.so_far ∙ cells_end e p.row columns fields i l; added = p.added }

-- ---- What a read of a record takes from the records that are left.

-- a step that ends a record leaves a state between records
abbrev Closes : State × Action → Type 0
Closes q = is_end q.1 ≡ true → ends_at_end q.0 ≡ false

step_closes : (s : State) (c : ℕ) → Closes (step default_config s c)
step_closes s c e = grind arith

-- a record has a field
ended : (a : Action) (fields : List (List ℕ)) (field : List ℕ) → is_end a ≡ true → 0 < length (fields_after a fields field)
ended act.EndRecord fields field e = omega (arith, length-append fields (field ∷ []))
ended a fields field e = cc e

-- a read leaves fewer bytes than that, and a state between records
abbrev pub Shrinks : ℕ → Option Read → Type 0
Shrinks size None = Unit {0}
Shrinks size (Some p) = (length p.2 < size) × (ends_at_end p.1 ≡ false) × (0 < length p.0)

shrinks_more : (m n : ℕ) (o : Option Read) → m ≤ n → Shrinks m o → Shrinks n o
shrinks_more m n None h l = tt
shrinks_more m n (Some p) h l = (omega arith, l.1, l.2)

shrinks_end : (b : Bool) (f : List (List ℕ)) → 0 < length f → Shrinks (suc zero) (if b then Some (f, st.StartRecord, []) else None)
shrinks_end true f h = (omega arith, refl, h)
shrinks_end false f h = tt

leads : (xs : List ℕ) (s : State) (fields : List (List ℕ)) (field : List ℕ) → Shrinks (suc (length xs)) (next_record default_config s fields field xs)
unfolding next_record
leads [] s fields field = shrinks_end (ends_at_end s) (fields ++ (field ∷ [])) (omega (arith, length-append fields (field ∷ [])))
leads (c ∷ rest) s fields field =
    let q = step default_config s c in
    cond_both (is_end q.1) _ _ (Shrinks (suc (length (c ∷ rest))))
    (λ e. (omega arith, step_closes s c e, ended q.1 fields field e))
    (λ e. shrinks_more (suc (length rest)) (suc (length (c ∷ rest))) _ (omega arith) (leads rest q.0 (fields_after q.1 fields field) (field_after q.1 c field)))

-- from a state between records a read takes a byte or more
pub shrinks : (s : State) (xs : List ℕ) → ends_at_end s ≡ false → Shrinks (length xs) (next_record default_config s [] [] xs)
unfolding next_record
shrinks s [] h = rw h tt
shrinks s (c ∷ rest) h =
    let q = step default_config s c in
    cond_both (is_end q.1) _ _ (Shrinks (length (c ∷ rest))) (λ e. (omega arith, step_closes s c e, ended q.1 [] [] e)) (λ e. leads rest q.0 (fields_after q.1 [] []) (field_after q.1 c []))

-- what a read that found a record, or none, says of the records that were left
Outcome : Bool → ℕ → State → List ℕ → Option (List ℕ) → List (List ℕ) → State → Type 0
Outcome true m s y k fields s2 = (z : List ℕ) × (k ≡ Some z) × (records_from default_config (suc m) s y ≡ fields ∷ records_from default_config m s2 z) × (length z < m) × (ends_at_end s2 ≡ false) × (0 < length fields)
Outcome false m s y k fields s2 = records_from default_config (suc m) s y ≡ []

took_some : (o : Option Read) (m size : ℕ) (fields : List (List ℕ)) (s2 : State) (z : List ℕ) → NextIs o true fields s2 z → Shrinks size o → size < suc m
    → (records_next (records_from default_config m) o ≡ fields ∷ records_from default_config m s2 z) × (length z < m) × (ends_at_end s2 ≡ false) × (0 < length fields)
took_some None m size fields s2 z n h l = cc n
took_some (Some p) m size fields s2 z n h l = (rw (n.1, n.2, n.3) refl, rw n.3 (omega arith), rw n.2 h.1, rw n.1 h.2)

took_none : (o : Option Read) (m : ℕ) (fields : List (List ℕ)) (s2 : State) (z : List ℕ) → NextIs o false fields s2 z → records_next (records_from default_config m) o ≡ []
took_none None m fields s2 z n = refl
took_none (Some p) m fields s2 z n = cc n.0

outcome : (found : Bool) (m : ℕ) (s : State) (y : List ℕ) (k : Option (List ℕ)) (fields : List (List ℕ)) (s2 : State)
    → ends_at_end s ≡ false → length y < suc m → ReadsNext default_config s (Some y) k found fields s2 → Outcome found m s y k fields s2
unfolding Outcome records_from
outcome true m s y None fields s2 e l r = absurd r
outcome true m s y (Some z) fields s2 e l r = grind (arith, took_some, shrinks)
outcome false m s y None fields s2 e l r = absurd r
outcome false m s y (Some z) fields s2 e l r = took_none (next_record default_config s [] [] y) m fields s2 z r

some_fuel : (n k : ℕ) → k < n → (m : ℕ) × (n ≡ suc m)
some_fuel zero k l = absurd (omega arith)
some_fuel (suc m) k l = (m, refl)

finish : (found : Bool) (old new : Reader (Bor (List ℕ))) (m : ℕ) (y : List ℕ) (fields : List (List ℕ)) (left : List (List (List ℕ)))
    → left ≡ records_from default_config (suc m) (reader_state old) y
    → Outcome found m (reader_state old) y (source_of (λ s. Some s.now) new) fields (reader_state new)
    → reader_trim new ≡ trim.None → Ready new → reader_config new ≡ default_config → is_flexible new ≡ true
    → Took found left fields new
unfolding Outcome
finish found old new m y fields left e o t r c fl = grind arith

pub takes : (found : Bool) (old new : Reader (Bor (List ℕ))) (fields : List (List ℕ)) (left : List (List (List ℕ)))
    → Leaves old left → took_first new ≡ true → is_flexible new ≡ is_flexible old → ReadRecord (λ s. Some s.now) old new found fields → Took found left fields new
takes found old new fields left h first flexible r =
    let f = some_fuel h.fuel (length h.bytes) h.enough in
    let read = rw (h.config, h.source) at r.0 in
    let o = outcome found f.0 (reader_state old) h.bytes (pending_of (Some new.rdr.now) new) fields (reader_state new) h.between (rw (← f.1) h.enough) read in
    finish found old new f.0 h.bytes fields left (rw f.1 at h.rest) (rw r.1 o) (r.3 ∙ h.trims) (inl first) (r.2 ∙ h.config) (flexible ∙ h.flexible)

-- ---- where lines end, and records of bytes that are cut there

found : (xs : List ℕ) (b : Bool) (i : ℕ) → nat_lt (position_or_len is_line_end xs) (length xs) ≡ b → cond b (Some (position_or_len is_line_end xs)) None ≡ Some i → (i < length xs) × (get_or xs i 0 ≡ 10)
found xs b i t e = grind (arith, nat_tests, passes_at_first)

-- the bytes up to a line's end are lines
pub lines_to : (bytes : List ℕ) (from i : ℕ) → position is_line_end (drop from bytes) ≡ Some i → (from + i < length bytes) × EndsLine (take (from + i + 1) bytes)
lines_to bytes from i e =
    let f = found (drop from bytes) (nat_lt (position_or_len is_line_end (drop from bytes)) (length (drop from bytes))) i refl e in
    let size = length-drop from bytes in
    let within : from + i < length bytes = omega (arith, size, f.0) in
    let end : get_or bytes (from + i) 0 ≡ 10 = sym (get_or-drop from bytes i 0) ∙ f.1 in
    (within, (take (from + i) bytes, take_more bytes (from + i) 0 within ∙ ap (λ b. take (from + i) bytes ++ b ∷ []) end))

-- there is one exactly where a byte passes
pub found_any : (test : ℕ → Bool) (bytes : List ℕ) (r : Option ℕ) → IsFirstByte test bytes r → is_some r ≡ list_any test bytes
found_any test bytes None none = sym (list_any_none test bytes (λ k d lt. ap test (get_or_default bytes k d 0 lt) ∙ false_from_ne_true (test (get_or bytes k 0)) (none k (omega arith) lt)))
found_any test bytes (Some k) h = sym (list_any-from_Any test bytes (k, get_or bytes k 0, h.0.high, get_or_default bytes k (get_or bytes k 0) 0 h.0.high, h.1))

-- ---- Records of bytes that are cut where the machine stands between two records.

-- the state behind the bytes
unfoldable pub state_after : State → List ℕ → State
state_after s [] = s
state_after s (c ∷ rest) = state_after (step default_config s c).0 rest

-- whether a field is begun
abbrev begun : State → Bool
begun st.StartRecord = false
begun st.AfterCr = false
begun st.InComment = false
begun s = true

-- a step that ends no record, and behind which no field is begun, skips its byte, and none was begun before it
abbrev Idle : Bool → State × Action → Type 0
Idle b q = is_end q.1 ≡ false → begun q.0 ≡ false → (q.1 ≡ act.Skip) × (b ≡ false)

idle_if : (t b : Bool) (x y : State × Action) → Idle b x → Idle b y → Idle b (if t then x else y)
idle_if true b x y h k = h
idle_if false b x y h k = k

in_field_idle : (b : Bool) (c : ℕ) → Idle b (in_field default_config c)
in_field_idle b c = idle_if (c == 44) b _ _ (λ e f. cc f) (idle_if (ends_with default_config.terminator c) b _ _ (λ e f. cc e) (λ e f. cc f))

start_field_idle : (b : Bool) (c : ℕ) → Idle b (start_field default_config c)
start_field_idle b c = idle_if (c == 34) b _ _ (λ e f. cc f) (in_field_idle b c)

start_record_idle : (c : ℕ) → Idle false (start_record default_config c)
start_record_idle c = idle_if (ends_with default_config.terminator c) false _ _ (λ e f. (refl, refl)) (start_field_idle false c)

step_idle : (s : State) (c : ℕ) → Idle (begun s) (step default_config s c)
step_idle s c = grind (arith, start_record_idle, start_field_idle, in_field_idle, idle_if)

-- the next record of bytes with others behind them, from that of the bytes alone
abbrev Joined : List ℕ → State → List (List ℕ) → List ℕ → Option Read → Option Read → Type 0
Joined b s fields field None whole = (begun s ≡ false) × (whole ≡ next_record default_config st.StartRecord fields field b)
Joined b s fields field (Some p) whole = (whole ≡ Some (p.0, p.1, p.2 ++ b)) × (state_after p.1 p.2 ≡ st.StartRecord)

joined_if : (t : Bool) (b : List ℕ) (s : State) (fields : List (List ℕ)) (field : List ℕ) (x y v w : Option Read)
    → (t ≡ true → Joined b s fields field x v) → (t ≡ false → Joined b s fields field y w) → Joined b s fields field (if t then x else y) (if t then v else w)
joined_if true b s fields field x y v w h k = h refl
joined_if false b s fields field x y v w h k = k refl

joined_back : (b : List ℕ) (s next : State) (a : Action) (fields : List (List ℕ)) (field : List ℕ) (c : ℕ) (part whole : Option Read)
    → (begun next ≡ false → (a ≡ act.Skip) × (begun s ≡ false)) → Joined b next (fields_after a fields field) (field_after a c field) part whole → Joined b s fields field part whole
joined_back b s next a fields field c None whole h j = let q = h j.0 in (q.1, rw q.0 at j.1)
joined_back b s next a fields field c (Some p) whole h j = j

next_cut : (a b : List ℕ) (s : State) (fields : List (List ℕ)) (field : List ℕ) → state_after s a ≡ st.StartRecord
    → Joined b s fields field (next_record default_config s fields field a) (next_record default_config s fields field (a ++ b))
unfolding next_record state_after
next_cut [] b s fields field e = rw e (refl, refl)
next_cut (c ∷ rest) b s fields field e =
    let q = step default_config s c in
    joined_if (is_end q.1) b s fields field _ _ _ _
    (λ t. (refl, e))
    (λ t. joined_back b s q.0 q.1 fields field c _ _ (step_idle s c t) (next_cut rest b q.0 (fields_after q.1 fields field) (field_after q.1 c field) e))

-- ---- the records, by any number that is enough

next_same : (o : Option Read) (f g : State → List ℕ → List (List (List ℕ))) (size : ℕ) → Shrinks size o
    → ((s : State) (xs : List ℕ) → ends_at_end s ≡ false → length xs < size → f s xs ≡ g s xs) → records_next f o ≡ records_next g o
next_same None f g size l h = refl
next_same (Some p) f g size l h = ap (λ rest. p.0 ∷ rest) (h p.1 p.2 l.1 l.0)

pub enough : (n m : ℕ) (s : State) (xs : List ℕ) → ends_at_end s ≡ false → length xs < n → length xs < m → records_from default_config n s xs ≡ records_from default_config m s xs
unfolding records_from
enough zero m s xs e h k = absurd (omega arith)
enough (suc n) zero s xs e h k = absurd (omega arith)
enough (suc n) (suc m) s xs e h k =
    next_same (next_record default_config s [] [] xs) _ _ (length xs) (shrinks s xs e) (λ t ys f l. enough n m t ys f (omega arith) (omega arith))

-- ---- the cut

cut_next : (part whole : Option Read) (b : List ℕ) (s : State) (size n m k : ℕ) → Joined b s [] [] part whole → Shrinks size part → length b < suc n → length b < k
    → ((t : State) (xs : List ℕ) → ends_at_end t ≡ false → state_after t xs ≡ st.StartRecord → length xs < size
    → records_from default_config n t (xs ++ b) ≡ records_from default_config m t xs ++ records_from default_config k st.StartRecord b)
    → records_next (records_from default_config n) whole ≡ records_next (records_from default_config m) part ++ records_from default_config k st.StartRecord b
unfolding records_from
cut_next None whole b s size n m k j l h i more = rw j.1 (enough (suc n) k st.StartRecord b refl h i)
cut_next (Some p) whole b s size n m k j l h i more = rw j.0 (ap (λ rest. p.0 ∷ rest) (more p.1 p.2 l.1 j.1 l.0))

pub records_cut : (m n k : ℕ) (s : State) (a b : List ℕ) → ends_at_end s ≡ false → state_after s a ≡ st.StartRecord → length a < m → length (a ++ b) < n → length b < k
    → records_from default_config n s (a ++ b) ≡ records_from default_config m s a ++ records_from default_config k st.StartRecord b
unfolding records_from
records_cut zero n k s a b e c f g h = absurd (omega arith)
records_cut (suc m) zero k s a b e c f g h = absurd (omega arith)
records_cut (suc m) (suc n) k s a b e c f g h =
    let size = length-append a b in
    cut_next (next_record default_config s [] [] a) (next_record default_config s [] [] (a ++ b)) b s (length a) n m k (next_cut a b s [] [] c) (shrinks s a e) (omega (arith, size)) h
    (λ t xs y z l. records_cut m n k t xs b y z (omega arith) (omega (arith, size, length-append xs b)) h)

-- ---- Records of bytes without a double quote that are cut behind a line's end.

-- the states that are met where no double quote was
abbrev unquoted : State → Bool
unquoted st.StartRecord = true
unquoted st.StartField = true
unquoted st.InField = true
unquoted st.AfterCr = true
unquoted s = false

step_stays : (s : State) (c : ℕ) → unquoted s ≡ true → (c == 34) ≡ false → unquoted (step default_config s c).0 ≡ true
step_stays s c h n = grind arith

line_ends : (s : State) → unquoted s ≡ true → (step default_config s 10).0 ≡ st.StartRecord
line_ends s h = grind arith

lines_end : (front : List ℕ) (s : State) → unquoted s ≡ true → list_any is_quote front ≡ false → state_after s (front ++ 10 ∷ []) ≡ st.StartRecord
unfolding state_after
lines_end [] s h n = line_ends s h
lines_end (c ∷ front) s h n =
    let p = or_parts (is_quote c) (list_any is_quote front) n in
    lines_end front (step default_config s c).0 (step_stays s c h p.0) p.1

-- ---- the byte order mark

pub no_quote : (bytes : List ℕ) → list_any is_special bytes ≡ false → list_any is_quote bytes ≡ false
no_quote [] n = refl
no_quote (c ∷ bytes) n =
    let p = or_parts (is_special c) (list_any is_special bytes) n in
    rw ((or_parts (nat_eq c 34) (nat_eq c 239) p.0).0) (no_quote bytes p.1)

no_mark : (bytes : List ℕ) → list_any is_special bytes ≡ false → strip_bom bytes ≡ bytes
unfolding strip_bom
no_mark bytes n = grind (arith, or_parts)

line_kept : (rest : List ℕ) → strip_bom (10 ∷ rest) ≡ 10 ∷ rest
unfolding strip_bom
line_kept rest = grind arith

-- a byte order mark stands before the first line's end, if there is one
record Stripped (front : List ℕ) : Type 0 where
  kept : List ℕ
  plain : list_any is_quote kept ≡ false
  same : (rest : List ℕ) → strip_bom (front ++ 10 ∷ rest) ≡ kept ++ 10 ∷ rest

second_kept : (a : ℕ) (rest : List ℕ) → strip_bom (a ∷ 10 ∷ rest) ≡ a ∷ 10 ∷ rest
unfolding strip_bom
second_kept a rest = grind arith

stripped : (front : List ℕ) → list_any is_quote front ≡ false → Stripped front
unfolding strip_bom
stripped [] n = record { kept = []; plain = refl; same = line_kept }
stripped (a ∷ []) n = record { kept = a ∷ []; plain = n; same = second_kept a }
stripped (a ∷ b ∷ []) n =
    record { kept = a ∷ b ∷ []; plain = n; same = λ rest. rw (and_false ((a == 239) && (b == 187))) refl }
stripped (a ∷ b ∷ c ∷ front) n = go (is_bom a b c) refl
  where
    go : (t : Bool) → is_bom a b c ≡ t → Stripped (a ∷ b ∷ c ∷ front)
    go true e = grind (arith, or_parts)
    go false e = record { kept = a ∷ b ∷ c ∷ front; plain = n; same = λ rest. rw e refl }

-- ---- the records

line_cut : (front rest : List ℕ) → list_any is_quote front ≡ false → list_any is_special rest ≡ false → csv_records (front ++ 10 ∷ rest) ≡ csv_records (front ++ 10 ∷ []) ++ csv_records rest
unfolding csv_records
line_cut front rest n m =
    let s = stripped front n in
    let a = s.kept ++ 10 ∷ [] in
    let whole : strip_bom (front ++ 10 ∷ rest) ≡ a ++ rest = s.same rest ∙ sym (append_assoc s.kept (10 ∷ []) rest) in
    rw (whole, s.same [], no_mark rest m)
    (records_cut (length a + 1) (length (a ++ rest) + 1) (length rest + 1) st.StartRecord a rest refl (lines_end s.kept st.StartRecord refl s.plain) (omega arith) (omega arith) (omega arith))

no_records : csv_records [] ≡ []
unfolding csv_records strip_bom records_from next_record
no_records = refl

-- the records of bytes that are cut behind a line's end are those of the two parts
pub csv_cut : (lines rest : List ℕ) → IsCut lines rest → list_any is_quote lines ≡ false → list_any is_special rest ≡ false → csv_records (lines ++ rest) ≡ csv_records lines ++ csv_records rest
csv_cut lines rest (inl l) n m =
    let plain = or_parts (list_any is_quote l.0) (list_any is_quote (10 ∷ [])) (rw (l.1, list_any-append) at n) in
    rw (l.1, append_assoc l.0 (10 ∷ []) rest) (line_cut l.0 rest plain.0 m)
csv_cut lines rest (inr none) n m = rw (none, append-nil lines, no_records, append-nil (csv_records lines)) refl

-- ---- Texts and parts that end where lines do.

pub ends_behind : (front lines : List ℕ) → EndsLine lines → EndsLine (front ++ lines)
ends_behind front lines l = (front ++ l.0, rw l.1 (sym (append_assoc front l.0 (10 ∷ []))))

joined_more : (lines : List (List ℕ)) (line : List ℕ) → joined (lines ++ line ∷ []) ≡ joined lines ++ line
joined_more lines line = flat_map-append (λ l. l) lines (line ∷ []) ∙ ap (λ l. joined lines ++ l) (append-nil line)

pub lines_more : (lines all : List (List ℕ)) (last beginning rest line : List ℕ) → All EndsLine lines → IsCut beginning rest → 0 < length rest → line ≡ last ++ beginning → all ≡ lines ++ line ∷ [] → All EndsLine all
lines_more lines all last beginning rest line h (inl l) some e a = rw a (All-append EndsLine lines (line ∷ []) h (All-cons EndsLine line [] (rw e (ends_behind last beginning l)) (λ k d l. absurd (omega (arith, l)))))
lines_more lines all last beginning rest line h (inr none) some e a = absurd (omega (arith, ap length none))

pub part_cut : (parts lines all more : List (List ℕ)) (last part beginning rest line left : List ℕ) → joined parts ≡ (joined lines ++ last) ++ (part ++ joined more) → beginning ++ rest ≡ part → line ≡ last ++ beginning
    → all ≡ lines ++ line ∷ [] → left ≡ drop (length beginning) part → joined parts ≡ (joined all ++ left) ++ joined more
part_cut parts lines all more last part beginning rest line left whole cut e a l =
    let w = rw (← cut) at whole in
    let behind : left ≡ rest = l ∙ rw (← cut) (drop-append_seam beginning rest) in
    rw (a, joined_more lines line, behind, e) (w ∙ simp append_assoc)

-- ---- halves of texts

joined_at : (lines : List (List ℕ)) (half : ℕ) (d : List ℕ) → half < length lines → joined lines ≡ joined (take half lines) ++ (get_or lines half d ++ joined (drop (suc half) lines))
joined_at [] half d h = absurd (omega arith)
joined_at (x ∷ lines) zero d h = refl
joined_at (x ∷ lines) (suc half) d h = ap (λ l. x ++ l) (joined_at lines half d (omega arith)) ∙ sym (append_assoc x (joined (take half lines)) (get_or lines half d ++ joined (drop (suc half) lines)))

behind : (lines : List (List ℕ)) (i : ℕ) → take (length lines - i) (drop i lines) ≡ drop i lines
behind lines i = take_all (length lines - i) (drop i lines) (omega (arith, length-drop i lines))

pub halves_whole : (lines : List (List ℕ)) (half : ℕ) (text last : List ℕ) → half < length lines → text ≡ get_or lines half text
    → (joined (take half lines) ++ text) ++ (joined (take (length lines - (half + 1)) (drop (half + 1) lines)) ++ last) ≡ joined lines ++ last
halves_whole lines half text last h e =
    let whole : joined lines ≡ joined (take half lines) ++ (text ++ joined (drop (suc half) lines)) = joined_at lines half text h ∙ ap (λ t. joined (take half lines) ++ (t ++ joined (drop (suc half) lines))) (sym e) in
    rw (behind lines (half + 1), add-one, whole) (simp append_assoc)

pub halves_cut : (lines : List (List ℕ)) (half : ℕ) (text rest : List ℕ) → All EndsLine lines → half < length lines → text ≡ get_or lines half text → IsCut (joined (take half lines) ++ text) rest
halves_cut lines half text rest ends h e =
    let end : EndsLine text = rw (sym e) at (ends half text h) in
    inl (ends_behind (joined (take half lines)) text end)

pub behind_ends : (lines : List (List ℕ)) (i : ℕ) → All EndsLine lines → All EndsLine (take (length lines - i) (drop i lines))
behind_ends lines i ends = All-take EndsLine (length lines - i) (drop i lines) (All-drop EndsLine i lines ends)
