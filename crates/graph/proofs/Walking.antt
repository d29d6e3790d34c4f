-- Steps of the look-ups that walk the statements so far.
use Rattle.lemmas.proofs.{◌≡◌, ℕ, Bool, true, false, ◌||◌, List, [], ◌∷◌, ◌++◌, map, refl, sym, ◌∙◌, ap, arith, ◌+◌, if◌then◌else◌, length, zero, suc, ◌≤◌, Some, add-one, ◌<◌, Option, None, Result, Ok, Err, subst, nat_eq, All, IsOk, slice_get, get_or, take, drop, drop-cons, length-append, list_any, list_any-append, map-append, or_false, All-weaker, take-append-drop, take_more, append_assoc, slice_get_within}
use Rattle.rdf_values.specs.{aliases, among, Booked, booked_by, Booking, bookings, ColType, column_kind, FunctionNames, is_alias, is_result, is_visible, is_watched, kind_or_int, Line, made_columns, names_of, Path, result_is, same, Scope, scope_at, Statement, target_of, visible_columns, watched_results, Column, makes, named_before, parent_of, path, begins, NamedTree, place, same_kind, check_list, check_target, expect_kind, first_refusal, GraphCause, refusal_in, refuse_unless, callee, kind_of, renamed, scope_of, variations, VaryValues}
use Rattle.rdf_values.specs.declared.scripts.statement.Statement.TheVariants.{Watch, Filter}
use Rattle.rdf_model.proofs.Accepted.{itself, names_equal, place_within, visible_known, turned}
use Rattle.graph.specs.{books, result_in, count_from, is_named, own_number, own_visible, statements, expression_total, Decides, IsStop, targets_at, AreKinds, IsCheckedAt, IsFound}
use Rattle.graph.specs.Checks.{Appends}
use Rattle.graph_numbers.specs.{all_or, column_place, covered_at, filters_on, named_version, numbers_from, own_columns, own_filter, own_version, version_count, list_start, site_count, varied_version, varied_versions, version_at, version_kinds}
use Rattle.std.specs.List.{position, starts_with}
use Rattle.std.proofs.lemmas.Bool.Decides.{nat_tests}
use Rattle.std.proofs.lemmas.List.Quantifiers.{position-Some}
use Rattle.std.specs.Result.{IsErrAnd}
use Rattle.graph.specs.declared.refusals.Stop.{Stop}
use Rattle.std.specs.Option.{ok_or, option_or}
use Rattle.rdf_values.specs.declared.scripts.script_cause.GraphCause.TheVariants.{UnknownColumn}
use Rattle.expr_check.specs.{CallsFit, CheckedExpr, HaveOneKind, IsWellTyped}
use Rattle.graph_numbers.proofs.Placing.{kind_count, visible_kind}
use Rattle.graph.proofs.Listing.{any_map, zip_both}

-- a name among the names of two lists
among_both : (name : List ℕ) (xs ys : List Booked) → among name (names_of (xs ++ ys)) ≡ (among name (names_of xs) || among name (names_of ys))
among_both name xs ys = ap (among name) (map-append (λ (b : Booked). b.name) xs ys) ∙ list_any-append (same name) (names_of xs) (names_of ys)

books_is : (before : List Statement) (s : Statement) (name : List ℕ) → among name (names_of (booked_by before s)) ≡ books s name
books_is before s name = grind (arith, or_false)

-- a name is a result's before a statement, or the statement books it
pub result_step : (before : List Statement) (s : Statement) (name : List ℕ) → is_result (s ∷ before) name ≡ (is_result before name || books s name)
result_step before s name = among_both name (bookings before) (booked_by before s) ∙ ap (λ b. is_result before name || b) (books_is before s name)

visible_in : (f : List ℕ → ColType) (columns : Scope) (name : List ℕ) (names : List (List ℕ)) → is_visible (map (λ a. (a, f a)) names ++ columns) name ≡ (among name names || is_visible columns name)
visible_in f columns name [] = refl
visible_in f columns name (a ∷ names) = grind (arith, turned a name, visible_in f columns name names)

-- a name is visible as an alias or as a column
pub visible_is : (names : FunctionNames) (header : Scope) (at : Path) (name : List ℕ) → is_visible (visible_columns names header at) name ≡ (is_alias at name || is_visible (made_columns names header at) name)
visible_is names header at name = visible_in (λ a. kind_or_int (column_kind (made_columns names header at) (target_of at a))) (made_columns names header at) name (aliases at)

-- by a statement of the path, or above it
pub visible_step : (names : FunctionNames) (header : Scope) (s : Statement) (up : Path) (name : List ℕ)
    → is_visible (visible_columns names header (s ∷ up)) name ≡ (own_visible s name || is_visible (visible_columns names header up) name)
visible_step names header s up name =
    visible_is names header (s ∷ up) name ∙ go s ∙ ap (λ b. own_visible s name || b) (sym (visible_is names header up name))
  where
    go : (s : Statement) → (is_alias (s ∷ up) name || is_visible (made_columns names header (s ∷ up)) name) ≡ (own_visible s name || (is_alias up name || is_visible (made_columns names header up) name))
    go s = grind arith

pub visible_past : (names : FunctionNames) (header : Scope) (lines : List Line) (l : Line) (rest : List Line) (node name : List ℕ) (b : Bool) → lines ≡ l ∷ rest → makes l.statement node ≡ false
    → b ≡ is_visible (scope_at names header (statements rest) node) name → b ≡ is_visible (scope_at names header (statements lines) node) name
visible_past names header lines l rest node name b e m h =
    h ∙ (λ i. is_visible (visible_columns names header (if sym m i then l.statement ∷ path (statements rest) (parent_of l.statement) else path (statements rest) node)) name)
    ∙ ap (λ (ls : List Line). is_visible (scope_at names header (statements ls) node) name) (sym e)

pub visible_above : (names : FunctionNames) (header : Scope) (lines : List Line) (l : Line) (rest : List Line) (node parent name : List ℕ) (own b : Bool) → lines ≡ l ∷ rest → makes l.statement node ≡ true → parent_of l.statement ≡ parent
    → own ≡ own_visible l.statement name → own ≡ false → b ≡ is_visible (scope_at names header (statements rest) parent) name → b ≡ is_visible (scope_at names header (statements lines) node) name
visible_above names header lines l rest node parent name own b e m p o q h =
    h ∙ ap (λ n. is_visible (scope_at names header (statements rest) n) name) (sym p)
    ∙ ap (λ c. c || is_visible (scope_at names header (statements rest) (parent_of l.statement)) name) (sym q ∙ o) ∙ sym (visible_step names header l.statement (path (statements rest) (parent_of l.statement)) name)
    ∙ (λ i. is_visible (visible_columns names header (if sym m i then l.statement ∷ path (statements rest) (parent_of l.statement) else path (statements rest) node)) name)
    ∙ ap (λ (ls : List Line). is_visible (scope_at names header (statements ls) node) name) (sym e)

pub count_step : (before : List Statement) (s : Statement) → length (bookings (s ∷ before)) ≡ length (bookings before) + length (booked_by before s)
count_step before s = length-append (bookings before) (booked_by before s)

in_both : (test : Booking → Bool) (name : List ℕ) (xs ys : List Booked) → result_in test name (xs ++ ys) ≡ (result_in test name xs || result_in test name ys)
in_both test name [] ys = refl
in_both test name (x ∷ xs) ys = grind (arith, in_both test name xs ys)

pub result_is_step : (test : Booking → Bool) (before : List Statement) (s : Statement) (name : List ℕ) → result_is test (s ∷ before) name ≡ (result_is test before name || result_in test name (booked_by before s))
result_is_step test before s name = in_both test name (bookings before) (booked_by before s)

-- a result is among those that are watched exactly where a statement watches it
pub watched_among : (before : List Statement) (r : List ℕ) → among r (watched_results before) ≡ is_watched before r
watched_among [] r = refl
watched_among (Watch p ∷ before) r = grind (arith, turned, itself, names_equal, watched_among before)
watched_among (s ∷ before) r = watched_among before r

count_next : (n k : ℕ) → count_from n (suc k) ≡ count_from n k ++ (n + k) ∷ []
count_next n zero = let e : n ≡ n + 0 = omega arith in ap (λ m. m ∷ []) e
count_next n (suc k) = let e : suc n + k ≡ n + suc k = omega arith in ap (λ ms. n ∷ ms) (count_next (suc n) k ∙ ap (λ m. count_from (suc n) k ++ m ∷ []) e)

pub count_more : (n k : ℕ) → count_from n (k + 1) ≡ count_from n k ++ (n + k) ∷ []
count_more n k = rw add-one (count_next n k)

-- the versions of one column more
pub versions_more : (header : List Column) (names : FunctionNames) (before : List Statement) (parent : List ℕ) (values : VaryValues) (tags : List (List ℕ)) (i n k : ℕ) (columns : List (List ℕ)) (c : List ℕ) → k ≡ i + n → slice_get columns n ≡ Some c
    → varied_versions header names before parent values tags i (take (n + 1) columns)
    ≡ varied_versions header names before parent values tags i (take n columns) ++ varied_version header names values (named_version header before parent c) (length (variations before)) (site_count header names before) tags k ∷ []
versions_more header names before parent values tags i n k [] c e h = cc h
versions_more header names before parent values tags i zero k (d ∷ columns) c e h = grind arith
versions_more header names before parent values tags i (suc n) k (d ∷ columns) c e h = let next = versions_more header names before parent values tags (suc i) n k columns c (omega (arith, e)) h in grind (arith, next)

-- one named filter more
pub named_more : (s : Statement) (before : List Statement) → length (named_before (s ∷ before)) ≡ length (named_before before) + (if is_named s then 1 else 0)
named_more (Filter node parent expr (Some label)) before = length-append (named_before before) ((Filter node parent expr (Some label) ∷ path before parent) ∷ [])
named_more s before = omega arith

column_few : (cs : List Column) (name : List ℕ) → column_place cs name ≤ length cs
column_few [] name = omega arith
column_few (c ∷ cs) name = grind (arith, column_few cs name)

own_few : (s : Statement) (first above : ℕ) (name : List ℕ) → above ≤ first → own_version s first name above ≤ first + length (own_columns s)
own_few s first above name h = grind (arith, place_within)

-- a version is below their number, or it where there is no such column
pub named_few : (header : List Column) (before : List Statement) (node name : List ℕ) → named_version header before node name ≤ version_count header before
named_few header [] node name = column_few header name
named_few header (s ∷ before) node name =
    let own = own_few s (version_count header before) (named_version header before (parent_of s) name) name (named_few header before (parent_of s) name) in
    let above = named_few header before node name in grind (arith, own, above)

-- ---- what a Report covers

pub counted_are : {A : Type 0} (n : ℕ) (xs : List A) → numbers_from n xs ≡ count_from n (length xs)
counted_are n [] = refl
counted_are n (x ∷ xs) = ap (λ ms. n ∷ ms) (counted_are (suc n) xs)

pub named_is : (s : Statement) (n : ℕ) → own_filter s n ≡ own_number (is_named s) n
named_is (Filter node parent expr (Some label)) n = refl
named_is s n = refl

all_or_is : {A : Type 0} (before : List Statement) (node : List ℕ) (all : List A) (on : List ℕ) → all_or (path before node) all on ≡ (if list_any (λ s. makes s node) before then on else numbers_from 0 all)
all_or_is [] node all on = refl
all_or_is (s ∷ before) node all on = grind (arith, all_or_is before node all on)

pub covers_are : (before : List Statement) (node : List ℕ) → covered_at before node ≡ (if list_any (λ s. makes s node) before then filters_on before node else count_from 0 (length (named_before before)))
covers_are before node = all_or_is before node (named_before before) (filters_on before node) ∙ (λ i. if list_any (λ s. makes s node) before then filters_on before node else counted_are 0 (named_before before) i)

-- ---- kinds that begin others, the expressions of all lists, and the first place at which a test passes

pub begins_is : (ks ps : List ColType) → starts_with same_kind ps ks ≡ begins ks ps
begins_is [] ps = refl
begins_is (k ∷ ks) [] = refl
begins_is (k ∷ ks) (p ∷ ps) = grind (arith, begins_is ks ps)

-- the expressions of all lists
pub all_lists : (lists : List (List NamedTree)) → list_start lists (length lists) ≡ expression_total lists
all_lists [] = refl
all_lists (es ∷ lists) = ap (λ n. length es + n) (all_lists lists)

pub place_is : {A : Type 0} (t : A → Bool) (xs : List A) → position t xs ≡ place t xs
place_is t [] = refl
place_is t (x ∷ xs) = grind (arith, nat_tests, place_is t xs)

pub position_within : {A : Type 0} (t : A → Bool) (xs : List A) (i : ℕ) → position t xs ≡ Some i → i < length xs
position_within t [] i h = cc h
position_within t (x ∷ xs) i h = (position-Some t (x ∷ xs) i x h).0

-- whether there is a column of that name
pub column_seen : (cs : List Column) (name : List ℕ) → list_any (λ (c : Column). same c.name name) cs ≡ is_visible (scope_of cs) name
column_seen cs name = sym (any_map (λ (c : Column). (c.name, c.kind)) (λ c. same c.0 name) cs)

-- ---- steps of the checks of a statement

pub cause_refused : (k : Result ColType GraphCause) (c : GraphCause) → k ≡ Err c → refusal_in k ≡ Some c
cause_refused k c h = ap refusal_in h

-- the tests so far, and those after them
pub refused_before : (xs rest : List (Option GraphCause)) (x : Option GraphCause) (c : GraphCause) → x ≡ first_refusal xs → x ≡ Some c → first_refusal (xs ++ rest) ≡ Some c
refused_before [] rest x c h k = cc (sym h ∙ k)
refused_before (None ∷ xs) rest x c h k = refused_before xs rest x c h k
refused_before (Some d ∷ xs) rest x c h k = sym h ∙ k

pub passed_before : (xs rest : List (Option GraphCause)) (x : Option GraphCause) → x ≡ first_refusal xs → x ≡ None → first_refusal (xs ++ rest) ≡ first_refusal rest
passed_before [] rest x h k = refl
passed_before (None ∷ xs) rest x h k = passed_before xs rest x h k
passed_before (Some d ∷ xs) rest x h k = cc (sym h ∙ k)

pub alone : (o : Option GraphCause) → first_refusal (o ∷ []) ≡ o
alone None = refl
alone (Some c) = refl

-- the last test decides where those before it pass
pub decided_last : {A : Type 0} (xs : List (Option GraphCause)) (last x : Option GraphCause) → x ≡ first_refusal xs → x ≡ None → (r : Result A Stop) → Decides last r → Decides (first_refusal (xs ++ last ∷ [])) r
decided_last xs last x h k r d = subst (λ o. Decides o r) (sym (passed_before xs (last ∷ []) x h k ∙ alone last)) d

-- the tests so far stop
pub stopped_before : (xs rest : List (Option GraphCause)) (x : Option GraphCause) (s : Stop) → x ≡ first_refusal xs → IsStop x s → IsStop (first_refusal (xs ++ rest)) s
stopped_before xs rest x (Stop.Cause c) h k = refused_before xs rest x c h k
stopped_before xs rest x Stop.Memory h k = tt

-- what the exit of a `?` hands on, and where memory was wanting
pub handed_on : {A : Type 0} (wanted : Option GraphCause) (r : Result A Stop) (s : Stop) → IsErrAnd r (λ t. t ≡ s) → IsStop wanted s → Decides wanted r
handed_on wanted (Ok a) s is h = elim is [ ]
handed_on wanted (Err t) s is h = subst (IsStop wanted) (sym is) h

pub no_memory : {A : Type 0} (wanted : Option GraphCause) (r : Result A Stop) → IsErrAnd r (λ t. t ≡ Stop.Memory) → Decides wanted r
no_memory wanted r is = handed_on wanted r Stop.Memory is tt

-- the last test stops
pub stopped_last : (xs : List (Option GraphCause)) (last x : Option GraphCause) → x ≡ first_refusal xs → x ≡ None → (s : Stop) → IsStop last s → IsStop (first_refusal (xs ++ last ∷ [])) s
stopped_last xs last x h k s d = subst (λ o. IsStop o s) (sym (passed_before xs (last ∷ []) x h k ∙ alone last)) d

-- the same refusal stops
pub stops_for : (a b : Option GraphCause) (s : Stop) → a ≡ b → IsStop a s → IsStop b s
stops_for a b s e h = subst (λ o. IsStop o s) e h

pub kind_is : (t s : ColType) (k : Result ColType GraphCause) → k ≡ Ok s → (b : Bool) → b ≡ same_kind s t → b ≡ true → expect_kind t k ≡ None
kind_is t s k h b e q = ap (expect_kind t) h ∙ ap (λ c. refuse_unless c GraphCause.WrongType) (sym e ∙ q)

pub kind_isnt : (t s : ColType) (k : Result ColType GraphCause) → k ≡ Ok s → (b : Bool) → b ≡ same_kind s t → b ≡ false → expect_kind t k ≡ Some GraphCause.WrongType
kind_isnt t s k h b e q = ap (expect_kind t) h ∙ ap (λ c. refuse_unless c GraphCause.WrongType) (sym e ∙ q)

pub kind_stopped : (t : ColType) (k : Result ColType GraphCause) (s : Stop) → IsStop (refusal_in k) s → IsStop (expect_kind t k) s
kind_stopped t k Stop.Memory h = tt
kind_stopped t (Ok u) (Stop.Cause c) h = cc h
kind_stopped t (Err d) (Stop.Cause c) h = h

-- the first refusal, and then those of the others
pub or_refusal : (a : Option GraphCause) (rest : List (Option GraphCause)) → option_or a (first_refusal rest) ≡ first_refusal (a ∷ rest)
or_refusal (Some c) rest = refl
or_refusal None rest = refl

pub targets_more : (names : FunctionNames) (header : Scope) (before : List Statement) (parent first : List ℕ) (rest columns : List (List ℕ)) → columns ≡ first ∷ rest → (a b x : Option GraphCause)
    → a ≡ check_target (scope_at names header before parent) (path before parent) first → b ≡ targets_at names header before parent rest → x ≡ option_or a b → x ≡ targets_at names header before parent columns
targets_more names header before parent first rest columns e a b x p q h =
    h ∙ (λ i. option_or (p i) (q i)) ∙ or_refusal (check_target (scope_at names header before parent) (path before parent) first) _ ∙ ap (targets_at names header before parent) (sym e)

-- tests of a list's elements in order
pub each_stop : {A : Type 0} (f : A → Option GraphCause) (es : List A) (e : A) (rest : List A) → es ≡ e ∷ rest → (s : Stop) → IsStop (f e) s → IsStop (first_refusal (map f es)) s
each_stop f es e rest is (Stop.Cause c) h = ap (λ xs. first_refusal (map f xs)) is ∙ ap (λ o. first_refusal (o ∷ map f rest)) h
each_stop f es e rest is Stop.Memory h = tt

-- those before one of the elements pass
module _ {A : Type 0} (f : A → Option GraphCause) (es : List A) (k : ℕ) (e : A) (lt : k < length es) (is : e ≡ get_or es k e) (passed : first_refusal (map f (take k es)) ≡ None) where
  pub stopped_each : (s : Stop) → IsStop (f e) s → IsStop (first_refusal (map f es)) s
  stopped_each s h =
      stops_for _ _ s (sym (ap (λ xs. first_refusal (map f xs)) (sym (take-append-drop k es)) ∙ ap first_refusal (map-append f (take k es) (drop k es)) ∙ passed_before (map f (take k es)) (map f (drop k es)) _ refl passed))
      (each_stop f (drop k es) e (drop (suc k) es) (drop-cons es k e lt ∙ ap (λ x. x ∷ drop (suc k) es) (sym is)) s h)

  pub passed_each : f e ≡ None → first_refusal (map f (take (k + 1) es)) ≡ None
  passed_each h =
      ap (λ xs. first_refusal (map f xs)) (take_more es k e lt ∙ ap (λ x. take k es ++ x ∷ []) (sym is)) ∙ ap first_refusal (map-append f (take k es) (e ∷ []))
      ∙ passed_before (map f (take k es)) (f e ∷ []) _ refl passed ∙ ap (λ o. first_refusal (o ∷ [])) h

-- the list of a column whose count is right
pub list_counted : (names : FunctionNames) (scope : Scope) (tags : ℕ) (column : List ℕ) (es : List NamedTree) (kind : ColType) (x : Option GraphCause) → kind ≡ kind_or_int (column_kind scope column)
    → x ≡ refuse_unless (nat_eq (length es) tags) GraphCause.WrongCount → x ≡ None → first_refusal (map (λ e. expect_kind kind (kind_of scope names e)) es) ≡ check_list names scope tags column es
list_counted names scope tags column es kind x e q n =
    ap (λ k. first_refusal (map (λ e. expect_kind k (kind_of scope names e)) es)) e
    ∙ sym (passed_before (refuse_unless (nat_eq (length es) tags) GraphCause.WrongCount ∷ []) (map (λ e. expect_kind (kind_or_int (column_kind scope column)) (kind_of scope names e)) es) x (q ∙ sym (alone _)) n)

-- checked expressions that were appended, those of two lists and one more
module _ (header : List Column) (names : FunctionNames) (before : List Statement) (node : List ℕ) where
  pub appends_both : (es fs : List NamedTree) (old mid new : List CheckedExpr) → Appends header names before node es old mid → Appends header names before node fs mid new → Appends header names before node (es ++ fs) old new
  appends_both es fs old mid new h k = record {
    more = h.more ++ k.more;
    appended = k.appended ∙ ap (λ xs. xs ++ k.more) h.appended ∙ append_assoc old h.more k.more;
    each = zip_both (IsCheckedAt header names before node) es fs h.more k.more h.each k.each;
  }

  pub appends_more : (es : List NamedTree) (k : ℕ) (e : NamedTree) (old mid new : List CheckedExpr) (c : CheckedExpr) → k < length es → e ≡ get_or es k e → Appends header names before node (take k es) old mid → IsCheckedAt header names before node e c → new ≡ mid ++ c ∷ []
      → Appends header names before node (take (k + 1) es) old new
  appends_more es k e old mid new c lt is h own n =
      subst (λ xs. Appends header names before node xs old new) (sym (take_more es k e lt ∙ ap (λ x. take k es ++ x ∷ []) (sym is)))
      (appends_both (take k es) (e ∷ []) old mid new h (record { more = c ∷ []; appended = n; each = (own, tt) }))

-- ---- the columns at a node, by their names and by their versions

-- a name that isn't visible is unknown
pub invisible : (scope : Scope) (name : List ℕ) → is_visible scope name ≡ false → column_kind scope name ≡ Err UnknownColumn
invisible [] name h = refl
invisible (c ∷ cs) name h = grind (arith, invisible cs name)

module _ (header : List Column) (names : FunctionNames) (before : List Statement) (node : List ℕ) (kinds : List ColType) where
  -- a visible column is found
  pub found_at : AreKinds header names before kinds → (name : List ℕ) → is_visible (scope_at names (scope_of header) before node) name ≡ true
      → (t : ColType) × IsFound header names before node kinds name t (version_at header before node name)
  found_at k name h =
      let v = visible_known (scope_at names (scope_of header) before node) name h in
      (v.0, record { kind = v.1; number = refl; own = ap (λ ks. slice_get ks (version_at header before node name)) k.are ∙ visible_kind header names before k.accepted node name v.0 v.1 })

  pub found_as : AreKinds header names before kinds → (name target : List ℕ) → target ≡ target_of (path before node) name → (b : Bool) → b ≡ is_visible (scope_at names (scope_of header) before node) name → b ≡ true
      → (v : ℕ) → v ≡ named_version header before node target → (t : ColType) (n : ℕ) → (slice_get kinds v ≡ Some t) × (n ≡ v) → IsFound header names before node kinds name t n
  found_as k name target is b e h v l t n s = grind (arith, found_at)

  pub found_within : AreKinds header names before kinds → (name target : List ℕ) → target ≡ target_of (path before node) name → (b : Bool) → b ≡ is_visible (scope_at names (scope_of header) before node) name → b ≡ true
      → (v : ℕ) → v ≡ named_version header before node target → v < length kinds
  found_within k name target is b e h v l = grind (arith, found_at, slice_get_within)

  pub found_none : (name : List ℕ) (b : Bool) → b ≡ is_visible (scope_at names (scope_of header) before node) name → b ≡ false → column_kind (scope_at names (scope_of header) before node) name ≡ Err UnknownColumn
  found_none name b e h = invisible (scope_at names (scope_of header) before node) name (sym e ∙ h)

  pub kinds_counted : AreKinds header names before kinds → length kinds ≡ version_count header before
  kinds_counted k = ap length k.are ∙ kind_count header names before

  -- a visible column has the kind of its version
  pub one_kind : AreKinds header names before kinds
      → HaveOneKind (column_kind (scope_at names (scope_of header) before node)) (version_at header before node) (λ n. ok_or (slice_get kinds n) UnknownColumn)
  one_kind k name known = of_kind (column_kind (scope_at names (scope_of header) before node) name) refl known
    where
      of_kind : (r : Result ColType GraphCause) → column_kind (scope_at names (scope_of header) before node) name ≡ r → IsOk r
          → r ≡ ok_or (slice_get kinds (version_at header before node name)) UnknownColumn
      of_kind (Ok t) is known = let same = k.are in let own = visible_kind header names before k.accepted node name t is in grind arith
      of_kind (Err e) is known = cc known

  -- a number that has a kind is a version's
  pub kind_within : (n : ℕ) → IsOk (ok_or (slice_get kinds n) UnknownColumn) → n < length kinds
  kind_within n known = grind (arith, slice_get_within)

  known_version : AreKinds header names before kinds → (n : ℕ × ColType) → ok_or (slice_get kinds n.0) UnknownColumn ≡ Ok n.1
      → slice_get (version_kinds header names before) n.0 ≡ Some n.1
  known_version k n h = let same = k.are in grind arith

  pub checked_at : AreKinds header names before kinds → (e : NamedTree) (c : CheckedExpr) → kind_of (scope_at names (scope_of header) before node) names e ≡ Ok c.kind
      → c.tree ≡ renamed (version_at header before node) (callee names) e → All (λ (n : ℕ × ColType). ok_or (slice_get kinds n.0) UnknownColumn ≡ Ok n.1) c.kinds
      → IsWellTyped names c → CallsFit names c.tree → IsCheckedAt header names before node e c
  checked_at k e c kind tree ks typed calls = record { kind = kind; tree = tree; kinds = All-weaker _ _ (known_version k) c.kinds ks; typed = typed; calls = calls }
