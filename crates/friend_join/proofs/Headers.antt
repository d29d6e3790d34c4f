-- The header of two tables together.
use Rattle.lemmas.proofs.{◌≡◌, ◌≤◌, ◌+◌, ◌-◌, ℕ, zero, suc, Bool, true, false, ◌||◌, ◌&&◌, List, [], ◌∷◌, ◌++◌, length, refl, ap, ◌∙◌, sym, arith, None, Some, length-append, append-nil, append_assoc, cond, subst, not, position, slice_get, option_map, and_left, and_right, bytes_eq-Decides, false_from_ne_true, left_false, length-remove, or_from, position_from, position_from-zero, remove, right_false, slice_get_within}
use Rattle.rdf_values.specs.{AreColumns, ColType, Column, has_name, IsHeader, kind_at, same}
use Rattle.friend_join.specs.{first_taken, has_column, is_int, is_key, is_taken, key_place}
use Rattle.friend_join.proofs.Removing.{remove_nil}

-- ---- tests

pub named_any : (columns : List Column) (name : List ℕ) → has_column columns name ≡ has_name columns name
named_any [] name = refl
named_any (c ∷ cs) name = ap (λ b. same c.name name || b) (named_any cs name)

has_append : (os bs : List Column) (name : List ℕ) → has_name os name ≡ false → has_name bs name ≡ false → has_name (os ++ bs) name ≡ false
has_append [] bs name h l = l
has_append (a ∷ os) bs name h l = or_from (same a.name name) (has_name (os ++ bs) name) (left_false (same a.name name) (has_name os name) h) (has_append os bs name (right_false (same a.name name) (has_name os name) h) l)

has_left : (os bs : List Column) (name : List ℕ) → has_name (os ++ bs) name ≡ false → has_name os name ≡ false
has_left [] bs name h = refl
has_left (a ∷ os) bs name h = or_from (same a.name name) (has_name os name) (left_false (same a.name name) (has_name (os ++ bs) name) h) (has_left os bs name (right_false (same a.name name) (has_name (os ++ bs) name) h))

has_last : (os : List Column) (b : Column) (name : List ℕ) → has_name (os ++ b ∷ []) name ≡ false → same b.name name ≡ false
has_last [] b name h = left_false (same b.name name) false h
has_last (a ∷ os) b name h = has_last os b name (right_false (same a.name name) (has_name (os ++ b ∷ []) name) h)

-- ---- where the key stands

pub found_at : {A : Type 0} (test : A → Bool) (xs : List A) (i p : ℕ) → position_from test i xs ≡ Some p → (i ≤ p) × ((x : A) × (slice_get xs (p - i) ≡ Some x) × (test x ≡ true))
found_at test [] i p h = cc h
found_at {A = A} test (x ∷ xs) i p h = by (test x) refl h (λ q. found_at test xs (i + 1) p q)
  where
    by : (b : Bool) → test x ≡ b → cond b (Some i) (position_from test (i + 1) xs) ≡ Some p → (position_from test (i + 1) xs ≡ Some p → (i + 1 ≤ p) × ((y : A) × (slice_get xs (p - (i + 1)) ≡ Some y) × (test y ≡ true)))
        → (i ≤ p) × ((y : A) × (slice_get (x ∷ xs) (p - i) ≡ Some y) × (test y ≡ true))
    by true e q f =
        let at : i ≡ p = cc q in
        let here : p - i ≡ 0 = omega arith in
        (omega arith, (x, subst (λ (n : ℕ). slice_get (x ∷ xs) n ≡ Some x) (sym here) refl, e))
    by false e q f =
        let rest = f q in
        let low = rest.0 in
        let on : p - i ≡ suc (p - (i + 1)) = omega (arith, low) in
        (omega (arith, low), (rest.1.0, subst (λ (n : ℕ). slice_get (x ∷ xs) n ≡ Some rest.1.0) (sym on) rest.1.1, rest.1.2))

pub found : {A : Type 0} (test : A → Bool) (xs : List A) (p : ℕ) → position test xs ≡ Some p → (x : A) × (slice_get xs p ≡ Some x) × (test x ≡ true)
found test xs p h = let at = found_at test xs 0 p (sym (position_from-zero test xs) ∙ h) in
    let same_place : p - 0 ≡ p = omega arith in
    (at.1.0, subst (λ (n : ℕ). slice_get xs n ≡ Some at.1.0) same_place at.1.1, at.1.2)

is_int_kind : (t : ColType) → is_int t ≡ true → t ≡ ColType.Int
is_int_kind ColType.Int h = refl
is_int_kind ColType.Bool h = cc h
is_int_kind ColType.Vect h = cc h

pub key_kind : (key : List ℕ) (columns : List Column) (p : ℕ) → key_place key columns ≡ Some p → kind_at columns p ≡ Some ColType.Int
key_kind key columns p h =
    let at = found (is_key key) columns p h in
    ap (option_map (λ (c : Column). c.kind)) at.1 ∙ ap Some (is_int_kind at.0.kind (and_right (same at.0.name key) (is_int at.0.kind) at.2))

-- no element passes the test
abbrev pub NonePass : {A : Type 0} → (A → Bool) → List A → Type 0
NonePass test [] = Unit {0}
NonePass test (x ∷ xs) = (test x ≡ false) × NonePass test xs

none_from : {A : Type 0} (test : A → Bool) (xs : List A) (i : ℕ) → position_from test i xs ≡ None → NonePass test xs
none_from test [] i h = tt
none_from test (x ∷ xs) i h = by (test x) refl h (λ q. none_from test xs (i + 1) q)
  where
    by : (b : Bool) → test x ≡ b → cond b (Some i) (position_from test (i + 1) xs) ≡ None → (position_from test (i + 1) xs ≡ None → NonePass test xs) → (test x ≡ false) × NonePass test xs
    by true e q f = cc q
    by false e q f = (e, f q)

none_pass : {A : Type 0} (test : A → Bool) (xs : List A) → position test xs ≡ None → NonePass test xs
none_pass test xs h = none_from test xs 0 (sym (position_from-zero test xs) ∙ h)

-- ---- the columns that come behind

-- no column's name is among the columns
abbrev AllNew : List Column → List Column → Type 0
AllNew os [] = Unit {0}
AllNew os (c ∷ cs) = (has_name os c.name ≡ false) × AllNew os cs

-- a column that isn't taken and isn't the key has a new name
one_new : (os : List Column) (key : List ℕ) (c : Column) → is_taken os key c ≡ false → same c.name key ≡ false → has_name os c.name ≡ false
one_new os key c h n = sym (named_any os c.name) ∙ sym (ap (λ b. not b && has_column os c.name) n) ∙ h

differ_both : (x y : List ℕ) → same x y ≡ false → same y x ≡ false
differ_both x y h = false_from_ne_true (same y x) (λ e. let eq = (bytes_eq-Decides y x).0 e in let no : true ≡ false = sym ((bytes_eq-Decides x y).1 (sym eq)) ∙ h in cc no)

all_behind : (os seen cs : List Column) (key : List ℕ) (kc : Column) → AreColumns seen cs → ((name : List ℕ) → has_name seen name ≡ false → same kc.name name ≡ false) → kc.name ≡ key → NonePass (is_taken os key) cs → AllNew os cs
all_behind os seen [] key kc h f e n = tt
all_behind os seen (c ∷ cs) key kc h f e n =
    let apart : same key c.name ≡ false = ap (λ x. same x c.name) (sym e) ∙ f c.name h.0 in
    (one_new os key c n.0 (differ_both key c.name apart), all_behind os (seen ++ c ∷ []) cs key kc h.2 (λ name g. f name (has_left seen (c ∷ []) name g)) e n.1)

-- the name of a column is new among those before it
before : (s cs : List Column) (p : ℕ) (kc : Column) → AreColumns s cs → slice_get cs p ≡ Some kc → has_name s kc.name ≡ false
before s [] p kc h g = cc g
before s (c ∷ cs) zero kc h g = let same_column : c ≡ kc = cc g in subst (λ (x : Column). has_name s x.name ≡ false) same_column h.0
before s (c ∷ cs) (suc p) kc h g = has_left s (c ∷ []) kc.name (before (s ++ c ∷ []) cs p kc h.2 g)

all_new : (os seen bs : List Column) (key : List ℕ) (kc : Column) (p : ℕ) → AreColumns seen bs → slice_get bs p ≡ Some kc → kc.name ≡ key → NonePass (is_taken os key) bs → AllNew os (remove bs p)
all_new os seen [] key kc p h g e n = cc g
all_new os seen (b ∷ bs) key kc zero h g e n =
    let same_column : b ≡ kc = cc g in
    all_behind os (seen ++ b ∷ []) bs key b h.2 (λ name g. has_last seen b name g) (ap (λ (c : Column). c.name) same_column ∙ e) n.1
all_new os seen (b ∷ bs) key kc (suc p) h g e n =
    let apart : same b.name key ≡ false = ap (same b.name) (sym e) ∙ has_last seen b kc.name (before (seen ++ b ∷ []) bs p kc h.2 g) in
    (one_new os key b n.0 apart, all_new os (seen ++ b ∷ []) bs key kc p h.2 g e n.1)

-- columns that stand behind others as well
behind : (s t cs : List Column) → AreColumns s cs → ((name : List ℕ) → has_name s name ≡ false → has_name t name ≡ false) → AreColumns t cs
behind s t [] h f = tt
behind s t (c ∷ cs) h f = (
  f c.name h.0,
  h.1,
  behind (s ++ c ∷ []) (t ++ c ∷ []) cs h.2 (λ name g. has_append t (c ∷ []) name (f name (has_left s (c ∷ []) name g)) (or_from (same c.name name) false (has_last s c name g) refl)),
)

new_behind : (os s t cs : List Column) → AreColumns s cs → AllNew os cs → ((name : List ℕ) → has_name s name ≡ false → has_name os name ≡ false → has_name t name ≡ false) → AreColumns t cs
new_behind os s t [] h n f = tt
new_behind os s t (c ∷ cs) h n f = (
  f c.name h.0 n.0,
  h.1,
  new_behind os (s ++ c ∷ []) (t ++ c ∷ []) cs h.2 n.1 (λ name g o. has_append t (c ∷ []) name (f name (has_left s (c ∷ []) name g) o) (or_from (same c.name name) false (has_last s c name g) refl)),
)

remove_columns : (s bs : List Column) (p : ℕ) → AreColumns s bs → AreColumns s (remove bs p)
remove_columns s [] p h = subst (AreColumns s) (sym (remove_nil p)) tt
remove_columns s (b ∷ bs) zero h = behind (s ++ b ∷ []) s bs h.2 (λ name g. has_left s (b ∷ []) name g)
remove_columns s (b ∷ bs) (suc p) h = (h.0, h.1, remove_columns (s ++ b ∷ []) bs p h.2)

join_columns : (s os bs : List Column) → AreColumns s os → AreColumns (s ++ os) bs → AreColumns s (os ++ bs)
join_columns s [] bs h l = subst (λ (x : List Column). AreColumns x bs) (append-nil s) l
join_columns s (a ∷ os) bs h l = (h.0, h.1, join_columns (s ++ a ∷ []) os bs h.2 (subst (λ (x : List Column). AreColumns x bs) (sym (append_assoc s (a ∷ []) os)) l))

pub joined_header : (os bs : List Column) (key : List ℕ) (p : ℕ) → IsHeader os → IsHeader bs → key_place key bs ≡ Some p → first_taken os key bs ≡ None → length os + length bs - 1 ≤ 64 → IsHeader (os ++ remove bs p)
joined_header os bs key p h l at free few =
    let here = found (is_key key) bs p at in
    let name : here.0.name ≡ key = (bytes_eq-Decides here.0.name key).0 (and_left (same here.0.name key) (is_int here.0.kind) here.2) in
    let new = all_new os [] bs key here.0 p l.distinct here.1 name (none_pass (is_taken os key) bs free) in
    let size = length-append os (remove bs p) in
    let less = length-remove bs p (slice_get_within bs p here.0 here.1) in
    let some = h.some in
    record {
      some = omega arith;
      few = omega arith;
      distinct = join_columns [] os (remove bs p) h.distinct (new_behind os [] os (remove bs p) (remove_columns [] bs p l.distinct) new (λ name g o. o));
    }
