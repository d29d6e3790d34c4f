-- Kinds of an expression under other kinds of columns, and of the expression numbered.
use Rattle.lemmas.proofs.{◌≡◌, ℕ, Bool, true, false, List, [], ◌∷◌, ◌++◌, refl, ap, subst, sym, ◌∙◌, cond, arith, take, length, get_or, ◌<◌, ◌+◌, nat_eq, not, ◌≢◌, Option, Some, None, Ok, Err, find, Result, IsOk, if◌then◌else◌, ◌&&◌, slice_get, replicate, ◌↔◌, AllByRecursion, common_steps, Decides-eqb, filter, list_any, take_more, All-from_recursion, bytes_eq-Decides, and_from, and_left, and_right, false_from_ne_true, firsts-zip, left_false, not-true, right_false, zip, recursion_from_All, each_append}
use Rattle.expr_check.specs.{distinct, with_new, LacksColumn, number_kind, numbers_in, all_are_plain, callee_shape, checked_expr, given_shape, gives_vector, is_plain, is_vector, IsWellTyped, num_kind, takes_no_vector, HasNoVector, parts, parts_of_all}
use Rattle.rdf_values.specs.{ColType, column_kind, GraphCause, kinds_in, number_in, same, ScopeColumn, ◌>>=◌, all_renamed, args_count, Bin, Call, Col, columns_in, columns_in_all, Cond, End, kind_by, kinds_by, More, Neg, Not, Pick, renamed, same_kinds, Shape, Tree, Trees, BinOp, Callee, chosen_kind, FnName, FunctionNames, inverted_kind, Lit, negated_kind, NumTree, operator_kind, picked_kind, same_kind, shape}
use Rattle.rdf_values.specs.declared.scripts.script_cause.GraphCause.TheVariants.{UnknownColumn, WrongType, WrongCount}
use Rattle.rdf_values.specs.expressions.Expressions.{Truth}

-- ---- the numbers of a list, each once, and the first column with a name or a number

-- what a filter by another number keeps
any-filter_other : (xs : List ℕ) (x y : ℕ) → nat_eq y x ≡ false → list_any (nat_eq x) (filter (λ z. not (nat_eq y z)) xs) ≡ list_any (nat_eq x) xs
any-filter_other [] x y differ = refl
any-filter_other (z ∷ zs) x y differ = grind (arith, common_steps, any-filter_other zs x y differ)

pub distinct-push : (xs : List ℕ) (x : ℕ) → distinct (xs ++ x ∷ []) ≡ with_new (distinct xs) x
distinct-push [] x = refl
distinct-push (y ∷ ys) x = grind (arith, common_steps, distinct-push ys x, any-filter_other (distinct ys) x y)

module _ (P : ℕ → Type 0) where
  each_kept : (b : Bool) (x : ℕ) (ys : List ℕ) → P x → AllByRecursion P ys → AllByRecursion P (cond b (x ∷ ys) ys)
  each_kept true x ys here h = (here, h)
  each_kept false x ys here h = h

  pub each_filter : (xs : List ℕ) (p : ℕ → Bool) → AllByRecursion P xs → AllByRecursion P (filter p xs)
  each_filter [] p h = tt
  each_filter (x ∷ xs) p h = each_kept (p x) x (filter p xs) h.0 (each_filter xs p h.1)

  pub each_distinct : (xs : List ℕ) → AllByRecursion P xs → AllByRecursion P (distinct xs)
  each_distinct [] h = tt
  each_distinct (x ∷ xs) h = (h.0, each_filter (distinct xs) _ (each_distinct xs h.1))

  each_unkept : (b : Bool) (x y : ℕ) (ys : List ℕ) → b ≡ nat_eq y x → P y → AllByRecursion P (cond (not b) (x ∷ ys) ys) → P x × AllByRecursion P ys
  each_unkept true x y ys is here h = (subst P ((Decides-eqb y x).0 (sym is)) here, h)
  each_unkept false x y ys is here h = (h.0, h.1)

  each_unfiltered : (xs : List ℕ) (y : ℕ) → P y → AllByRecursion P (filter (λ z. not (nat_eq y z)) xs) → AllByRecursion P xs
  each_unfiltered [] y here h = tt
  each_unfiltered (x ∷ xs) y here h =
      let parts = each_unkept (nat_eq y x) x y (filter (λ z. not (nat_eq y z)) xs) refl here h in
      (parts.0, each_unfiltered xs y here parts.1)

  pub each_from_distinct : (xs : List ℕ) → AllByRecursion P (distinct xs) → AllByRecursion P xs
  each_from_distinct [] h = tt
  each_from_distinct (x ∷ xs) h = (h.0, each_from_distinct xs (each_unfiltered (distinct xs) x h.0 h.1))

pub distinct_more : (xs : List ℕ) (i d : ℕ) → i < length xs → distinct (take (i + 1) xs) ≡ with_new (distinct (take i xs)) (get_or xs i d)
distinct_more xs i d within = ap distinct (take_more xs i d within) ∙ distinct-push (take i xs) (get_or xs i d)

-- no number stands twice
abbrev pub NoTwice : List ℕ → Type 0
NoTwice [] = Unit {0}
NoTwice (x ∷ xs) = AllByRecursion (λ y. nat_eq x y ≡ false) xs × NoTwice xs

none_left : (xs : List ℕ) (x : ℕ) → AllByRecursion (λ y. nat_eq x y ≡ false) (filter (λ y. not (nat_eq x y)) xs)
none_left [] x = tt
none_left (y ∷ ys) x = left_by (nat_eq x y) y (filter (λ z. not (nat_eq x z)) ys) refl (none_left ys x)
  where
    left_by : (b : Bool) (y : ℕ) (ys : List ℕ) → nat_eq x y ≡ b → AllByRecursion (λ z. nat_eq x z ≡ false) ys → AllByRecursion (λ z. nat_eq x z ≡ false) (cond (not b) (y ∷ ys) ys)
    left_by true y ys is below = below
    left_by false y ys is below = (is, below)

NoTwice-filter : (xs : List ℕ) (p : ℕ → Bool) → NoTwice xs → NoTwice (filter p xs)
NoTwice-filter [] p h = tt
NoTwice-filter (x ∷ xs) p h = kept_by (p x) x (filter p xs) (each_filter (λ y. nat_eq x y ≡ false) xs p h.0) (NoTwice-filter xs p h.1)
  where
    kept_by : (b : Bool) (x : ℕ) (ys : List ℕ) → AllByRecursion (λ y. nat_eq x y ≡ false) ys → NoTwice ys → NoTwice (cond b (x ∷ ys) ys)
    kept_by true x ys here below = (here, below)
    kept_by false x ys here below = below

pub NoTwice-distinct : (xs : List ℕ) → NoTwice (distinct xs)
NoTwice-distinct [] = tt
NoTwice-distinct (x ∷ xs) = (none_left (distinct xs) x, NoTwice-filter (distinct xs) (λ y. not (nat_eq x y)) (NoTwice-distinct xs))

-- ---- What holds of each element.

module _ {X : Type 0} (P : X → Type 0) where
  pub each_left : (xs ys : List X) → AllByRecursion P (xs ++ ys) → AllByRecursion P xs
  each_left [] ys h = tt
  each_left (x ∷ xs) ys h = (h.0, each_left xs ys h.1)

  pub each_right : (xs ys : List X) → AllByRecursion P (xs ++ ys) → AllByRecursion P ys
  each_right [] ys h = h
  each_right (x ∷ xs) ys h = each_right xs ys h.1

-- ---- The first column of a scope with a name or a number.

-- what a search by name found: nothing, or the column that the name means
abbrev pub IsNamed : List ScopeColumn → List ℕ → Option ScopeColumn → Type 0
IsNamed cs name None = column_kind (kinds_in cs) name ≡ Err UnknownColumn
IsNamed cs name (Some c) = (column_kind (kinds_in cs) name ≡ Ok c.kind) × (number_in cs name ≡ c.number)

abbrev pub IsNumbered : List ScopeColumn → ℕ → Option ScopeColumn → Type 0
IsNumbered cs number None = number_kind (numbers_in cs) number ≡ Err UnknownColumn
IsNumbered cs number (Some c) = number_kind (numbers_in cs) number ≡ Ok c.kind

pub found_by_name : (cs : List ScopeColumn) (name : List ℕ) (found : Option ScopeColumn) → found ≡ find (λ c. same c.name name) cs → IsNamed cs name found
found_by_name [] name found is = rw is refl
found_by_name (c ∷ cs) name found is = grind (arith, found_by_name cs name _ refl)

pub found_by_number : (cs : List ScopeColumn) (number : ℕ) (found : Option ScopeColumn) → found ≡ find (λ c. nat_eq c.number number) cs → IsNumbered cs number found
found_by_number [] number found is = rw is refl
found_by_number (c ∷ cs) number found is = grind (arith, found_by_number cs number _ refl)

-- what isn't found isn't here, nor below
not_here : (A : Type 0) {B : Type 0} (b : Bool) (k : ColType) (rest : Result ColType GraphCause) → (A → b ≡ true) → (rest ≡ Err UnknownColumn → B)
    → cond b (Ok k) rest ≡ Err UnknownColumn → (A → ⊥) × B
not_here A true k rest here below is = cc is
not_here A false k rest here below is = (λ a. let f = here a in cc f, below is)

lacks_by_recursion : (cs : List ScopeColumn) (name : List ℕ) → column_kind (kinds_in cs) name ≡ Err UnknownColumn → AllByRecursion (λ (c : ScopeColumn). c.name ≢ name) cs
lacks_by_recursion [] name is = tt
lacks_by_recursion (c ∷ cs) name is =
    not_here (c.name ≡ name) (same c.name name) c.kind (column_kind (kinds_in cs) name) (λ e. (bytes_eq-Decides c.name name).1 e) (lacks_by_recursion cs name) is

-- a name that isn't found is no column's
pub lacks_column : (cs : List ScopeColumn) (name : List ℕ) → column_kind (kinds_in cs) name ≡ Err UnknownColumn → LacksColumn name cs
lacks_column cs name is = All-from_recursion (λ (c : ScopeColumn). c.name ≢ name) cs (lacks_by_recursion cs name is)

args_count-all_renamed : {C D F G : Type 0} (column : C → D) (function : F → G) (args : Trees C F) → args_count (all_renamed column function args) ≡ args_count args
args_count-all_renamed column function End = refl
args_count-all_renamed column function (More a rest) = ap (λ n. n + 1) (args_count-all_renamed column function rest)

-- the numbered expression has the kind that the expression has by the kinds of its columns' numbers
module _ {C D F G : Type 0} (column : C → D) (function : F → G) (col : D → Result ColType GraphCause) (fun : G → Result Shape GraphCause) where
  mutual
    pub kind_by-renamed : (e : Tree C F) → kind_by col fun (renamed column function e) ≡ kind_by (λ c. col (column c)) (λ f. fun (function f)) e
    kind_by-renamed (Neg a) = rw (kind_by-renamed a) refl
    kind_by-renamed (Not a) = rw (kind_by-renamed a) refl
    kind_by-renamed (Bin o a b) = simp (kind_by-renamed a, kind_by-renamed b) refl
    kind_by-renamed (Cond c a b) = simp (kind_by-renamed c, kind_by-renamed a, kind_by-renamed b) refl
    kind_by-renamed (Pick v i) = simp (kind_by-renamed v, kind_by-renamed i) refl
    kind_by-renamed (Call f args) = simp (kinds_by-renamed args, args_count-all_renamed column function args) refl
    kind_by-renamed e = refl

    pub kinds_by-renamed : (args : Trees C F) → kinds_by col fun (all_renamed column function args) ≡ kinds_by (λ c. col (column c)) (λ f. fun (function f)) args
    kinds_by-renamed End = refl
    kinds_by-renamed (More a rest) = simp (kind_by-renamed a, kinds_by-renamed rest) refl

-- columns and functions of the same kinds give the same kind
module _ {C F : Type 0} (col col' : C → Result ColType GraphCause) (fun fun' : F → Result Shape GraphCause) (same_functions : (f : F) → fun f ≡ fun' f) where
  mutual
    pub kind_by-same : (e : Tree C F) → AllByRecursion (λ c. col c ≡ col' c) (columns_in e) → kind_by col fun e ≡ kind_by col' fun' e
    kind_by-same (Col c) h = h.0
    kind_by-same (Neg a) h = rw (kind_by-same a h) refl
    kind_by-same (Not a) h = rw (kind_by-same a h) refl
    kind_by-same (Bin o a b) h =
        let ea = kind_by-same a (each_left (λ c. col c ≡ col' c) (columns_in a) (columns_in b) h) in
        let eb = kind_by-same b (each_right (λ c. col c ≡ col' c) (columns_in a) (columns_in b) h) in
        simp (ea, eb) refl
    kind_by-same (Cond c a b) h =
        let first = each_left (λ c. col c ≡ col' c) (columns_in c ++ columns_in a) (columns_in b) h in
        let ec = kind_by-same c (each_left (λ c. col c ≡ col' c) (columns_in c) (columns_in a) first) in
        let ea = kind_by-same a (each_right (λ c. col c ≡ col' c) (columns_in c) (columns_in a) first) in
        let eb = kind_by-same b (each_right (λ c. col c ≡ col' c) (columns_in c ++ columns_in a) (columns_in b) h) in
        simp (ec, ea, eb) refl
    kind_by-same (Pick v i) h =
        let ev = kind_by-same v (each_left (λ c. col c ≡ col' c) (columns_in v) (columns_in i) h) in
        let ei = kind_by-same i (each_right (λ c. col c ≡ col' c) (columns_in v) (columns_in i) h) in
        simp (ev, ei) refl
    kind_by-same (Call f args) h =
        let es = kinds_by-same args h in
        simp (same_functions f, es) refl
    kind_by-same e h = refl

    pub kinds_by-same : (args : Trees C F) → AllByRecursion (λ c. col c ≡ col' c) (columns_in_all args) → kinds_by col fun args ≡ kinds_by col' fun' args
    kinds_by-same End h = refl
    kinds_by-same (More a rest) h =
        let ea = kind_by-same a (each_left (λ c. col c ≡ col' c) (columns_in a) (columns_in_all rest) h) in
        let es = kinds_by-same rest (each_right (λ c. col c ≡ col' c) (columns_in a) (columns_in_all rest) h) in
        simp (ea, es) refl

pub bind_ok : {A B : Type 0} (r : Result A GraphCause) (f : A → Result B GraphCause) (b : B) → (r >>= f) ≡ Ok b → (a : A) × (r ≡ Ok a) × (f a ≡ Ok b)
bind_ok (Ok a) f b h = (a, refl, h)
bind_ok (Err e) f b h = cc h

pub typed_ok : (b : Bool) (gives k : ColType) → (if b then Ok gives else Err WrongType) ≡ Ok k → (b ≡ true) × (gives ≡ k)
typed_ok true gives k h = (refl, cc h)
typed_ok false gives k h = cc h

-- a call that has a kind has as many arguments as its function takes, of these kinds
pub call_ok : (counted : Bool) (kinds : Result (List ColType) GraphCause) (takes : List ColType) (gives k : ColType)
    → (if counted then (kinds >>= λ ts. if same_kinds ts takes then Ok gives else Err WrongType) else Err WrongCount) ≡ Ok k
    → (ts : List ColType) × (kinds ≡ Ok ts) × (counted ≡ true) × (same_kinds ts takes ≡ true) × (gives ≡ k)
call_ok true (Ok ts) takes gives k h = let typed = typed_ok (same_kinds ts takes) gives k h in (ts, refl, refl, typed.0, typed.1)
call_ok counted kinds takes gives k h = cc h

-- each column of an expression that has a kind is known
module _ {C F : Type 0} (col : C → Result ColType GraphCause) (fun : F → Result Shape GraphCause) where
  mutual
    pub columns_known : (e : Tree C F) (k : ColType) → kind_by col fun e ≡ Ok k → AllByRecursion (λ c. IsOk (col c)) (columns_in e)
    columns_known (Col c) k h = (rw h refl, tt)
    columns_known (Neg a) k h = let w = bind_ok (kind_by col fun a) _ k h in columns_known a w.0 w.1
    columns_known (Not a) k h = let w = bind_ok (kind_by col fun a) _ k h in columns_known a w.0 w.1
    columns_known (Bin o a b) k h =
        let w = bind_ok (kind_by col fun a) _ k h in
        let v = bind_ok (kind_by col fun b) _ k w.2 in
        each_append (λ c. IsOk (col c)) (columns_in a) (columns_in b) (columns_known a w.0 w.1) (columns_known b v.0 v.1)
    columns_known (Cond c a b) k h =
        let u = bind_ok (kind_by col fun c) _ k h in
        let w = bind_ok (kind_by col fun a) _ k u.2 in
        let v = bind_ok (kind_by col fun b) _ k w.2 in
        each_append (λ c. IsOk (col c)) (columns_in c ++ columns_in a) (columns_in b)
        (each_append (λ c. IsOk (col c)) (columns_in c) (columns_in a) (columns_known c u.0 u.1) (columns_known a w.0 w.1)) (columns_known b v.0 v.1)
    columns_known (Pick a b) k h =
        let w = bind_ok (kind_by col fun a) _ k h in
        let v = bind_ok (kind_by col fun b) _ k w.2 in
        each_append (λ c. IsOk (col c)) (columns_in a) (columns_in b) (columns_known a w.0 w.1) (columns_known b v.0 v.1)
    columns_known (Call f args) k h =
        let s = bind_ok (fun f) _ k h in
        let ts = call_ok (nat_eq (args_count args) (length s.0.takes)) (kinds_by col fun args) s.0.takes s.0.gives k s.2 in
        all_columns_known args ts.0 ts.1
    columns_known e k h = tt

    all_columns_known : (args : Trees C F) (ks : List ColType) → kinds_by col fun args ≡ Ok ks → AllByRecursion (λ c. IsOk (col c)) (columns_in_all args)
    all_columns_known End ks h = tt
    all_columns_known (More a rest) ks h =
        let w = bind_ok (kind_by col fun a) _ ks h in
        let v = bind_ok (kinds_by col fun rest) _ ks w.2 in
        each_append (λ c. IsOk (col c)) (columns_in a) (columns_in_all rest) (columns_known a w.0 w.1) (all_columns_known rest v.0 v.1)

-- ---- a well typed expression is plain where none of its columns is a vector, and then no part of it is one

negated_scalar : (s k : ColType) → negated_kind s ≡ Ok k → is_vector s ≡ false → is_vector k ≡ false
negated_scalar s k h p = grind arith

inverted_scalar : (s k : ColType) → inverted_kind s ≡ Ok k → is_vector s ≡ false → is_vector k ≡ false
inverted_scalar s k h p = grind arith

operator_scalar : (o : BinOp) (s t k : ColType) → operator_kind o s t ≡ Ok k → is_vector s ≡ false → is_vector t ≡ false → is_vector k ≡ false
operator_scalar o s t k h p q = grind arith

chosen_scalar : (c s t k : ColType) → chosen_kind c s t ≡ Ok k → is_vector s ≡ false → is_vector k ≡ false
chosen_scalar ColType.Bool s t k h p = ap is_vector (sym (typed_ok (same_kind s t) s k h).1) ∙ p
chosen_scalar c s t k h p = cc h

-- nothing is picked from what is no vector
picked_from_vector : (s t k : ColType) → picked_kind s t ≡ Ok k → is_vector s ≡ false → ⊥
picked_from_vector s t k h p = grind arith

-- nothing that is no vector is taken as one
taken_as_vector : (ts rest : List ColType) → AllByRecursion (λ t. is_vector t ≡ false) ts → same_kinds ts (ColType.Vect ∷ rest) ≡ true → ⊥
taken_as_vector (ColType.Vect ∷ ts) rest each h = cc each.0
taken_as_vector ts rest each h = cc h

vector_taken : (s : Shape) (ts rest : List ColType) (gives : ColType) → (let r : Result Shape GraphCause = Ok s in Ok (shape (ColType.Vect ∷ rest) gives) ≡ r) → AllByRecursion (λ t. is_vector t ≡ false) ts → same_kinds ts s.takes ≡ true → ⊥
vector_taken s ts rest gives h each fit =
    let same_shape : shape (ColType.Vect ∷ rest) gives ≡ s = cc h in
    let P : Shape → Type 0 = λ t. same_kinds ts t.takes ≡ true in
    taken_as_vector ts rest each (subst P (sym same_shape) fit)

given_scalar : (o : Option FnName) (s : Shape) → given_shape o ≡ Ok s → is_vector s.gives ≡ false
given_scalar None s h = cc h
given_scalar (Some f) s h = let same_shape : shape (replicate f.arity ColType.Int) ColType.Int ≡ s = cc h in ap (λ (t : Shape). is_vector t.gives) (sym same_shape)

-- a function that is called on no vector takes none and gives none
called_scalar : (names : FunctionNames) (f : Callee) (s : Shape) (ts : List ColType) → callee_shape names f ≡ Ok s → AllByRecursion (λ t. is_vector t ≡ false) ts → same_kinds ts s.takes ≡ true → (takes_no_vector f ≡ true) × (is_vector s.gives ≡ false)
called_scalar names Callee.Abs s ts h each fit = (refl, let same_shape : shape (ColType.Int ∷ []) ColType.Int ≡ s = cc h in ap (λ (t : Shape). is_vector t.gives) (sym same_shape))
called_scalar names (Callee.Given i) s ts h each fit = (refl, given_scalar (slice_get names i) s h)
called_scalar names f s ts h each fit = absurd (vector_taken s ts _ _ h each fit)

-- no column of that number is a vector
abbrev NoVector : List (ℕ × ColType) → ℕ → Type 0
NoVector kinds i = gives_vector (number_kind kinds i) ≡ false

-- each column of a plain expression is no vector
module _ (kinds : List (ℕ × ColType)) where
  mutual
    pub columns_scalar : (e : NumTree) → is_plain kinds e ≡ true → AllByRecursion (NoVector kinds) (columns_in e)
    columns_scalar (Col c) h = (not-true (gives_vector (number_kind kinds c)) h, tt)
    columns_scalar (Neg a) h = columns_scalar a h
    columns_scalar (Not a) h = columns_scalar a h
    columns_scalar (Bin o a b) h =
        each_append (NoVector kinds) (columns_in a) (columns_in b) (columns_scalar a (and_left (is_plain kinds a) (is_plain kinds b) h)) (columns_scalar b (and_right (is_plain kinds a) (is_plain kinds b) h))
    columns_scalar (Cond c a b) h =
        let first = and_left (is_plain kinds c && is_plain kinds a) (is_plain kinds b) h in
        each_append (NoVector kinds) (columns_in c ++ columns_in a) (columns_in b)
        (each_append (NoVector kinds) (columns_in c) (columns_in a) (columns_scalar c (and_left (is_plain kinds c) (is_plain kinds a) first)) (columns_scalar a (and_right (is_plain kinds c) (is_plain kinds a) first)))
        (columns_scalar b (and_right (is_plain kinds c && is_plain kinds a) (is_plain kinds b) h))
    columns_scalar (Pick v i) h = cc h
    columns_scalar (Call f args) h = all_columns_scalar args (and_right (takes_no_vector f) (all_are_plain kinds args) h)
    columns_scalar e h = tt

    all_columns_scalar : (args : Trees ℕ Callee) → all_are_plain kinds args ≡ true → AllByRecursion (NoVector kinds) (columns_in_all args)
    all_columns_scalar End h = tt
    all_columns_scalar (More a rest) h =
        each_append (NoVector kinds) (columns_in a) (columns_in_all rest) (columns_scalar a (and_left (is_plain kinds a) (all_are_plain kinds rest) h)) (all_columns_scalar rest (and_right (is_plain kinds a) (all_are_plain kinds rest) h))

-- no column is a vector, so no part is one
module _ (kinds : List (ℕ × ColType)) (names : FunctionNames) where
  abbrev IsNoVector : NumTree → Type 0
  IsNoVector p = gives_vector (num_kind kinds names p) ≡ false

  here : (e : NumTree) (k : ColType) → num_kind kinds names e ≡ Ok k → is_vector k ≡ false → IsNoVector e
  here e k h p = ap gives_vector h ∙ p

  mutual
    pub plain_typed : (e : NumTree) (k : ColType) → num_kind kinds names e ≡ Ok k → AllByRecursion (NoVector kinds) (columns_in e) → (is_plain kinds e ≡ true) × (is_vector k ≡ false) × AllByRecursion IsNoVector (parts e)
    plain_typed (Lit z) k h each = (refl, ap gives_vector (sym h), (refl, tt))
    plain_typed (Truth b) k h each = (refl, ap gives_vector (sym h), (refl, tt))
    plain_typed (Col c) k h each = (ap not each.0, ap gives_vector (sym h) ∙ each.0, (each.0, tt))
    plain_typed (Neg a) k h each =
        let w = bind_ok (num_kind kinds names a) _ k h in
        let p = plain_typed a w.0 w.1 each in
        let scalar = negated_scalar w.0 k w.2 p.1 in
        (p.0, scalar, (here (Neg a) k h scalar, p.2))
    plain_typed (Not a) k h each =
        let w = bind_ok (num_kind kinds names a) _ k h in
        let p = plain_typed a w.0 w.1 each in
        let scalar = inverted_scalar w.0 k w.2 p.1 in
        (p.0, scalar, (here (Not a) k h scalar, p.2))
    plain_typed (Bin o a b) k h each =
        let w = bind_ok (num_kind kinds names a) _ k h in
        let v = bind_ok (num_kind kinds names b) _ k w.2 in
        let p = plain_typed a w.0 w.1 (each_left (NoVector kinds) (columns_in a) (columns_in b) each) in
        let q = plain_typed b v.0 v.1 (each_right (NoVector kinds) (columns_in a) (columns_in b) each) in
        let scalar = operator_scalar o w.0 v.0 k v.2 p.1 q.1 in
        (and_from (is_plain kinds a) (is_plain kinds b) p.0 q.0, scalar, (here (Bin o a b) k h scalar, each_append IsNoVector (parts a) (parts b) p.2 q.2))
    plain_typed (Cond c a b) k h each =
        let u = bind_ok (num_kind kinds names c) _ k h in
        let w = bind_ok (num_kind kinds names a) _ k u.2 in
        let v = bind_ok (num_kind kinds names b) _ k w.2 in
        let first = each_left (NoVector kinds) (columns_in c ++ columns_in a) (columns_in b) each in
        let r = plain_typed c u.0 u.1 (each_left (NoVector kinds) (columns_in c) (columns_in a) first) in
        let p = plain_typed a w.0 w.1 (each_right (NoVector kinds) (columns_in c) (columns_in a) first) in
        let q = plain_typed b v.0 v.1 (each_right (NoVector kinds) (columns_in c ++ columns_in a) (columns_in b) each) in
        let scalar = chosen_scalar u.0 w.0 v.0 k v.2 p.1 in
        let below = each_append IsNoVector (parts c ++ parts a) (parts b) (each_append IsNoVector (parts c) (parts a) r.2 p.2) q.2 in
        (rw (r.0, p.0, q.0) refl, scalar, (here (Cond c a b) k h scalar, below))
    plain_typed (Pick a b) k h each =
        let w = bind_ok (num_kind kinds names a) _ k h in
        let v = bind_ok (num_kind kinds names b) _ k w.2 in
        let p = plain_typed a w.0 w.1 (each_left (NoVector kinds) (columns_in a) (columns_in b) each) in
        absurd (picked_from_vector w.0 v.0 k v.2 p.1)
    plain_typed (Call f args) k h each =
        let s = bind_ok (callee_shape names f) _ k h in
        let ts = call_ok (nat_eq (args_count args) (length s.0.takes)) (kinds_by (number_kind kinds) (callee_shape names) args) s.0.takes s.0.gives k s.2 in
        let p = all_plain_typed args ts.0 ts.1 each in
        let q = called_scalar names f s.0 ts.0 s.1 p.1 ts.3 in
        let scalar = ap is_vector (sym ts.4) ∙ q.1 in
        (and_from (takes_no_vector f) (all_are_plain kinds args) q.0 p.0, scalar, (here (Call f args) k h scalar, p.2))

    all_plain_typed : (args : Trees ℕ Callee) (ks : List ColType) → kinds_by (number_kind kinds) (callee_shape names) args ≡ Ok ks → AllByRecursion (NoVector kinds) (columns_in_all args)
        → (all_are_plain kinds args ≡ true) × AllByRecursion (λ t. is_vector t ≡ false) ks × AllByRecursion IsNoVector (parts_of_all args)
    all_plain_typed End ks h each = let none : [] ≡ ks = cc h in (refl, subst (AllByRecursion (λ t. is_vector t ≡ false)) none tt, tt)
    all_plain_typed (More a rest) ks h each =
        let w = bind_ok (num_kind kinds names a) _ ks h in
        let v = bind_ok (kinds_by (number_kind kinds) (callee_shape names) rest) _ ks w.2 in
        let p = plain_typed a w.0 w.1 (each_left (NoVector kinds) (columns_in a) (columns_in_all rest) each) in
        let q = all_plain_typed rest v.0 v.1 (each_right (NoVector kinds) (columns_in a) (columns_in_all rest) each) in
        let more : w.0 ∷ v.0 ≡ ks = cc v.2 in
        (and_from (is_plain kinds a) (all_are_plain kinds rest) p.0 q.0, subst (AllByRecursion (λ t. is_vector t ≡ false)) more (p.1, q.1), each_append IsNoVector (parts a) (parts_of_all rest) p.2 q.2)

  -- by one list from another, in two parts
  from_two : (ps qs : List NumTree) (is js : List ℕ) → (AllByRecursion IsNoVector ps → AllByRecursion (NoVector kinds) is) → (AllByRecursion IsNoVector qs → AllByRecursion (NoVector kinds) js) → AllByRecursion IsNoVector (ps ++ qs) → AllByRecursion (NoVector kinds) (is ++ js)
  from_two ps qs is js f g h = each_append (NoVector kinds) is js (f (each_left IsNoVector ps qs h)) (g (each_right IsNoVector ps qs h))

  mutual
    columns_of_parts : (e : NumTree) → AllByRecursion IsNoVector (parts e) → AllByRecursion (NoVector kinds) (columns_in e)
    columns_of_parts (Col c) each = (each.0, tt)
    columns_of_parts (Neg a) each = columns_of_parts a each.1
    columns_of_parts (Not a) each = columns_of_parts a each.1
    columns_of_parts (Bin o a b) each = from_two (parts a) (parts b) (columns_in a) (columns_in b) (λ h. columns_of_parts a h) (λ h. columns_of_parts b h) each.1
    columns_of_parts (Cond c a b) each =
        from_two (parts c ++ parts a) (parts b) (columns_in c ++ columns_in a) (columns_in b)
        (λ h. from_two (parts c) (parts a) (columns_in c) (columns_in a) (λ x. columns_of_parts c x) (λ x. columns_of_parts a x) h) (λ h. columns_of_parts b h) each.1
    columns_of_parts (Pick a b) each = from_two (parts a) (parts b) (columns_in a) (columns_in b) (λ h. columns_of_parts a h) (λ h. columns_of_parts b h) each.1
    columns_of_parts (Call f args) each = columns_of_all_parts args each.1
    columns_of_parts e each = tt

    columns_of_all_parts : (args : Trees ℕ Callee) → AllByRecursion IsNoVector (parts_of_all args) → AllByRecursion (NoVector kinds) (columns_in_all args)
    columns_of_all_parts End each = tt
    columns_of_all_parts (More a rest) each = from_two (parts a) (parts_of_all rest) (columns_in a) (columns_in_all rest) (λ h. columns_of_parts a h) (λ h. columns_of_all_parts rest h) each

  -- an expression that has a kind is plain exactly where no part of it is a vector
  pub test_of_parts : (r : Bool) (e : NumTree) (k : ColType) → r ≡ is_plain kinds e → num_kind kinds names e ≡ Ok k → (r ≡ true) ↔ HasNoVector kinds names e
  test_of_parts r e k is h = (
    λ plain. All-from_recursion IsNoVector (parts e) (plain_typed e k h (columns_scalar kinds e (sym is ∙ plain))).2,
    λ each. is ∙ (plain_typed e k h (columns_of_parts e (recursion_from_All IsNoVector (parts e) each))).0,
  )

scalar_by : (b : Bool) (k : ColType) (r : Result ColType GraphCause) → is_vector k ≡ false → gives_vector r ≡ false → gives_vector (cond b (Ok k) r) ≡ false
scalar_by b k r p q = grind arith

-- where no kind is a vector, no number has a vector's
all_scalar : (numbers : List ℕ) (kinds : List ColType) (i : ℕ) → list_any is_vector kinds ≡ false → gives_vector (number_kind (zip numbers kinds) i) ≡ false
all_scalar [] kinds i h = refl
all_scalar (n ∷ ns) [] i h = refl
all_scalar (n ∷ ns) (k ∷ ks) i h =
    scalar_by (nat_eq n i) k (number_kind (zip ns ks) i) (left_false (is_vector k) (list_any is_vector ks) h) (all_scalar ns ks i (right_false (is_vector k) (list_any is_vector ks) h))

each_of_all : (P : ℕ → Type 0) → ((i : ℕ) → P i) → (xs : List ℕ) → AllByRecursion P xs
each_of_all P f [] = tt
each_of_all P f (x ∷ xs) = (f x, each_of_all P f xs)

pub each_of_two : (P Q R : ℕ → Type 0) → ((i : ℕ) → P i → Q i → R i) → (xs : List ℕ) → AllByRecursion P xs → AllByRecursion Q xs → AllByRecursion R xs
each_of_two P Q R f [] p q = tt
each_of_two P Q R f (x ∷ xs) p q = (f x p.0 q.0, each_of_two P Q R f xs p.1 q.1)

-- where no number has a vector's kind, none of the kinds beside them is one
none_vector : (numbers : List ℕ) (kinds : List ColType) → NoTwice numbers → length kinds ≡ length numbers → AllByRecursion (NoVector (zip numbers kinds)) numbers → list_any is_vector kinds ≡ false
none_vector [] [] once beside each = refl
none_vector (n ∷ ns) (k ∷ ks) once beside each =
    let itself : nat_eq n n ≡ true = (Decides-eqb n n).1 refl in
    let here : is_vector k ≡ false = sym (ap (λ b. gives_vector (cond b (Ok k) (number_kind (zip ns ks) n))) itself) ∙ each.0 in
    let below : AllByRecursion (NoVector (zip ns ks)) ns =
    each_of_two (λ i. nat_eq n i ≡ false) (NoVector (zip (n ∷ ns) (k ∷ ks))) (NoVector (zip ns ks))
    (λ i differ scalar. sym (ap (λ b. gives_vector (cond b (Ok k) (number_kind (zip ns ks) i))) differ) ∙ scalar) ns once.0 each.1 in
    rw (here, none_vector ns ks once.1 (omega arith) below) refl
none_vector numbers kinds once beside each = absurd (omega arith)

-- a well typed expression is plain exactly where none of its columns is a vector
pub plain_by_kinds : (names : FunctionNames) (tree : NumTree) (numbers : List ℕ) (kinds : List ColType) (k : ColType) → length kinds ≡ length numbers → IsWellTyped names (checked_expr tree (zip numbers kinds) k)
    → not (list_any is_vector kinds) ≡ is_plain (zip numbers kinds) tree
plain_by_kinds names tree numbers kinds k beside typed = by_test (list_any is_vector kinds) refl
  where
    are : numbers ≡ distinct (columns_in tree)
    are = sym (firsts-zip numbers kinds beside) ∙ typed.columns

    vectors : is_plain (zip numbers kinds) tree ≡ true → list_any is_vector kinds ≡ false
    vectors plain =
        let P : List ℕ → Type 0 = AllByRecursion (NoVector (zip numbers kinds)) in
        none_vector numbers kinds (subst NoTwice (sym are) (NoTwice-distinct (columns_in tree))) beside
        (subst P (sym are) (each_distinct (NoVector (zip numbers kinds)) (columns_in tree) (columns_scalar (zip numbers kinds) tree plain)))

    by_test : (b : Bool) → list_any is_vector kinds ≡ b → not b ≡ is_plain (zip numbers kinds) tree
    by_test true is = sym (false_from_ne_true (is_plain (zip numbers kinds) tree) (λ plain. let none = vectors plain in cc (is, none)))
    by_test false is =
        sym (plain_typed (zip numbers kinds) names tree k typed.typed (each_of_all (NoVector (zip numbers kinds)) (λ i. all_scalar numbers kinds i is) (columns_in tree))).0
