-- A checked expression is well typed.
use Rattle.lemmas.proofs.{arith, ◌≡◌, ℕ, Bool, true, false, List, [], ◌∷◌, map, Result, Ok, Err, IsOk, refl, ap, sym, ◌∙◌, cond, nat_eq, ◌≢◌, zero, suc, ◌+◌, ◌<◌, ◌≤◌, take, length, Some, None, slice_get, HoldsAt, replicate, subst, if◌then◌else◌, Option, All, MatchOption, AllByRecursion, Decides-eqb, eq_itself, recursion_from_All, zip, All-head, All-tail, bytes_eq-Decides, false_from_ne_true, take-replicate, All-from_recursion, firsts-zip, length-map, length-replicate}
use Rattle.rdf_values.specs.{ColType, column_kind, GraphCause, kinds_in, number_in, same, ScopeColumn, ◌>>=◌, AreFnNames, built_in, built_in_shapes, Callee, callee, callee_in, FnName, FunctionNames, given_from, HaveDistinctNames, LacksName, Shape, shape, shape_in, shape_of, shapes, args_count, Call, kind_by, kinds_by, same_kinds, Trees, Bin, columns_in, Cond, End, More, NamedTree, Neg, Not, NumTree, Pick, renamed}
use Rattle.expr_check.specs.{number_kind, NumberHasKind, numbers_in, NumbersHaveKinds, CheckRefusal, RefusedAs, callee_shape, given_shape, arguments_fit, AllCallsFit, CallsFit, checked_expr, CheckedExpr, distinct, HaveOneKind, IsCallOf, IsWellTyped, num_kind}
use Rattle.expr_check.specs.declared.refusal.CheckRefusal.TheVariants.{Memory, WrongType, WrongCount}
use Rattle.rdf_values.specs.declared.scripts.script_cause.GraphCause.TheVariants.{UnknownFunction}
use Rattle.expr_check.proofs.Typed.{each_distinct, each_from_distinct, kind_by-renamed, kind_by-same, columns_known, bind_ok, call_ok}

-- ---- the kinds of a scope's columns by their names and by their numbers

-- the column that a name means, with all that holds of each column
named : (cs : List ScopeColumn) (name : List ℕ) (k : ColType) (P : ScopeColumn → Type 0) → AllByRecursion P cs → column_kind (kinds_in cs) name ≡ Ok k
    → (c : ScopeColumn) × (c.kind ≡ k) × (c.number ≡ number_in cs name) × P c
named [] name k P each is = cc is
named (c ∷ cs) name k P each is = named_by (same c.name name) c cs k (number_in cs name) (column_kind (kinds_in cs) name) P each.0 (named cs name k P each.1) is
  where
    named_by : (b : Bool) (c : ScopeColumn) (cs : List ScopeColumn) (k : ColType) (n : ℕ) (r : Result ColType GraphCause) (P : ScopeColumn → Type 0) → P c
        → (r ≡ Ok k → (d : ScopeColumn) × (d.kind ≡ k) × (d.number ≡ n) × P d) → cond b (Ok c.kind) r ≡ Ok k
        → (d : ScopeColumn) × (d.kind ≡ k) × (d.number ≡ cond b c.number n) × P d
    named_by true c cs k n r P here below is = (c, cc is, refl, here)
    named_by false c cs k n r P here below is = below is

-- the number of a known name is known
number_known : (cs : List ScopeColumn) (name : List ℕ) (k : ColType) → column_kind (kinds_in cs) name ≡ Ok k → (l : ColType) × (number_kind (numbers_in cs) (number_in cs name) ≡ Ok l)
number_known [] name k is = cc is
number_known (c ∷ cs) name k is = known_at (same c.name name) c.number c.kind (number_in cs name) (number_kind (numbers_in cs)) (column_kind (kinds_in cs) name) k is (number_known cs name k)
  where
    below_known : (b : Bool) (kind : ColType) (r : Result ColType GraphCause) → (l : ColType) × (r ≡ Ok l) → (l : ColType) × (cond b (Ok kind) r ≡ Ok l)
    below_known true kind r below = (kind, refl)
    below_known false kind r below = below

    known_at : (b : Bool) (number : ℕ) (kind : ColType) (n : ℕ) (kind_at : ℕ → Result ColType GraphCause) (r : Result ColType GraphCause) (k : ColType) → cond b (Ok kind) r ≡ Ok k
        → (r ≡ Ok k → (l : ColType) × (kind_at n ≡ Ok l)) → (l : ColType) × (cond (nat_eq number (cond b number n)) (Ok kind) (kind_at (cond b number n)) ≡ Ok l)
    known_at true number kind n kind_at r k is below = (kind, rw (eq_itself number) refl)
    known_at false number kind n kind_at r k is below = below_known (nat_eq number n) kind (kind_at n) (below is)

-- a number has the kind that each column of that number has
number_kind-of_all : (cs : List ScopeColumn) (number : ℕ) (k l : ColType) → AllByRecursion (λ (c : ScopeColumn). c.number ≡ number → c.kind ≡ k) cs → number_kind (numbers_in cs) number ≡ Ok l → l ≡ k
number_kind-of_all [] number k l each is = cc is
number_kind-of_all (c ∷ cs) number k l each is = grind (arith, Decides-eqb, each.0, number_kind-of_all cs number k l each.1)

-- the number of a column has the column's kind
pub named_kind : (cs : List ScopeColumn) (name : List ℕ) → NumbersHaveKinds cs → IsOk (column_kind (kinds_in cs) name) → column_kind (kinds_in cs) name ≡ number_kind (numbers_in cs) (number_in cs name)
named_kind cs name one known = by_kind (column_kind (kinds_in cs) name) refl known
  where
    at : (k : ColType) → column_kind (kinds_in cs) name ≡ Ok k → Ok k ≡ number_kind (numbers_in cs) (number_in cs name)
    at k is =
        let c = named cs name k (λ (d : ScopeColumn). NumberHasKind d.number d.kind cs) (recursion_from_All (λ (d : ScopeColumn). NumberHasKind d.number d.kind cs) cs one) is in
        let l = number_known cs name k is in
        let each : AllByRecursion (λ (d : ScopeColumn). d.number ≡ number_in cs name → d.kind ≡ k) cs =
        recursion_from_All (λ (d : ScopeColumn). d.number ≡ number_in cs name → d.kind ≡ k) cs (rw (c.1, c.2) at c.3) in
        ap Ok (sym (number_kind-of_all cs (number_in cs name) k l.0 each l.1)) ∙ sym l.1

    by_kind : (r : Result ColType GraphCause) → column_kind (kinds_in cs) name ≡ r → IsOk r → r ≡ number_kind (numbers_in cs) (number_in cs name)
    by_kind (Ok k) is known = at k is
    by_kind (Err e) is known = cc known

pub each_weaker : {X : Type 0} (P Q : X → Type 0) → ((x : X) → P x → Q x) → (xs : List X) → AllByRecursion P xs → AllByRecursion Q xs
each_weaker P Q f [] h = tt
each_weaker P Q f (x ∷ xs) h = (f x h.0, each_weaker P Q f xs h.1)

in_front : (b : Bool) (kind : ColType) (r s : Result ColType GraphCause) → (b ≡ true → s ≡ Ok kind) → s ≡ r → s ≡ cond b (Ok kind) r
in_front b kind r s here below = grind arith

-- a list of numbers beside their kinds gives each of them its kind
pub each_by_zip : (numbers : List ℕ) (kinds : List ColType) (kind_at : ℕ → Result ColType GraphCause) → map (λ (k : ColType). Ok k) kinds ≡ map kind_at numbers → AllByRecursion (λ i. kind_at i ≡ number_kind (zip numbers kinds) i) numbers
each_by_zip [] kinds kind_at is = tt
each_by_zip (n ∷ ns) [] kind_at is = cc is
each_by_zip (n ∷ ns) (k ∷ ks) kind_at is =
    let head : kind_at n ≡ Ok k = cc is in
    let tail : map (λ (k : ColType). Ok k) ks ≡ map kind_at ns = cc is in (
      rw (eq_itself n) head,
      each_weaker (λ i. kind_at i ≡ number_kind (zip ns ks) i) (λ i. kind_at i ≡ number_kind (zip (n ∷ ns) (k ∷ ks)) i)
          (λ i below. in_front (nat_eq n i) k (number_kind (zip ns ks) i) (kind_at i) (λ e. ap kind_at (sym ((Decides-eqb n i).0 e)) ∙ head) below) ns (each_by_zip ns ks kind_at tail),
    )

-- a refusal of the first step is the refusal of the whole
pub refused_then : {A B : Type 0} (e : CheckRefusal) (r : Result A GraphCause) (f : A → Result B GraphCause) → RefusedAs e r → RefusedAs e (r >>= f)
refused_then Memory r f h = tt
refused_then e r f h = ap (λ s. s >>= f) h

-- ---- which function a name calls, its shape, and the kind of a call

differ : (x y : List ℕ) → x ≢ y → same x y ≡ false
differ x y n = false_from_ne_true (same x y) (λ e. n ((bytes_eq-Decides x y).0 e))

agree : (x y : List ℕ) → x ≡ y → same x y ≡ true
agree x y e = (bytes_eq-Decides x y).1 e

pub callee_in-none : (fs : FunctionNames) (n : ℕ) (name : List ℕ) (other : Callee) → LacksName name fs → callee_in (given_from n fs) name other ≡ other
callee_in-none [] n name other l = refl
callee_in-none (f ∷ fs) n name other l =
    let isnt = differ f.name name (All-head (λ (g : FnName). g.name ≢ name) f fs l) in
    rw isnt (callee_in-none fs (suc n) name other (All-tail (λ (g : FnName). g.name ≢ name) f fs l))

pub callee_in-at : (fs : FunctionNames) (n i : ℕ) (name : List ℕ) (other : Callee) → HaveDistinctNames fs → i < length fs → HoldsAt (λ (f : FnName). f.name ≡ name) fs i → callee_in (given_from n fs) name other ≡ Callee.Given (n + i)
callee_in-at [] n i name other d within at = absurd (omega arith)
callee_in-at (f ∷ fs) n zero name other d within at = rw (agree f.name name (at f)) (ap Callee.Given (omega arith))
callee_in-at (f ∷ fs) n (suc i) name other d within at =
    let isnt : f.name ≢ name = λ e. d.0 i f (omega arith) (at f ∙ sym e) in
    rw (differ f.name name isnt) (callee_in-at fs (suc n) i name other d.1 (omega arith) at ∙ ap Callee.Given (omega arith))

-- each of the callees has the shape beside it, under the same name
abbrev AreShaped : FunctionNames → List (List ℕ × Callee) → List (List ℕ × Shape) → Type 0
AreShaped names [] [] = Unit {0}
AreShaped names (f ∷ fs) (s ∷ ss) = (f.0 ≡ s.0) × (callee_shape names f.1 ≡ Ok s.1) × AreShaped names fs ss
AreShaped names fs ss = ⊥

-- two choices by one test
chosen : (b : Bool) (names : FunctionNames) (f g : Callee) (s t : Result Shape GraphCause) → callee_shape names f ≡ s → callee_shape names g ≡ t → callee_shape names (cond b f g) ≡ cond b s t
chosen b names f g s t p q = grind arith

callee_shape-callee_in : (fs : List (List ℕ × Callee)) (ss : List (List ℕ × Shape)) (names : FunctionNames) (name : List ℕ) (other : Callee) (s : Result Shape GraphCause) → AreShaped names fs ss → callee_shape names other ≡ s → callee_shape names (callee_in fs name other) ≡ shape_in ss name s
callee_shape-callee_in [] [] names name other s are is = is
callee_shape-callee_in (f ∷ fs) (t ∷ ts) names name other s are is =
    rw are.0 (chosen (same t.0 name) names f.1 (callee_in fs name other) (Ok t.1) (shape_in ts name s) are.1 (callee_shape-callee_in fs ts names name other s are.2 is))
callee_shape-callee_in fs ss names name other s are is = absurd are

-- the functions of the list, from its place n on
given_are_shaped : (fs : FunctionNames) (names : FunctionNames) (n : ℕ) → ((k : ℕ) → slice_get fs k ≡ slice_get names (n + k)) → AreShaped names (given_from n fs) (shapes fs)
given_are_shaped [] names n is = tt
given_are_shaped (f ∷ fs) names n is =
    let here : slice_get names n ≡ Some f = grind (arith, is 0) in
    (refl, ap given_shape here, given_are_shaped fs names (suc n) (λ k. grind (arith, is (suc k))))

none_past : (fs : FunctionNames) → slice_get fs (length fs) ≡ None
none_past [] = refl
none_past (f ∷ fs) = none_past fs

-- what is called has the shape of the function of that name
pub callee_shape-callee : (names : FunctionNames) (name : List ℕ) → callee_shape names (callee names name) ≡ shape_of names name
callee_shape-callee names name =
    callee_shape-callee_in built_in built_in_shapes names name _ _ (refl, refl, (refl, refl, (refl, refl, (refl, refl, (refl, refl, (refl, refl, (refl, refl, (refl, refl, tt))))))))
    (callee_shape-callee_in (given_from 0 names) (shapes names) names name (Callee.Given (length names)) (Err UnknownFunction) (given_are_shaped names names 0 (λ k. grind arith)) (ap given_shape (none_past names)))

pub found_built_in : (names : FunctionNames) (name text : List ℕ) (f : Callee) → text ≡ name → ((other : Callee) → f ≡ callee_in built_in text other) → callee names name ≡ f
found_built_in names name text f is found = rw (← is) (sym (found _))

pub found_none : (names : FunctionNames) (name text : List ℕ) → text ≡ name → ((other : Callee) → other ≡ callee_in built_in text other) → LacksName name names → shape_of names name ≡ Err UnknownFunction
found_none names name text is found lacks =
    let e : callee names name ≡ Callee.Given (length names) =
    ap (λ x. callee_in built_in x (callee_in (given_from 0 names) name (Callee.Given (length names)))) (sym is)
    ∙ sym (found _) ∙ callee_in-none names 0 name (Callee.Given (length names)) lacks in
    sym (callee_shape-callee names name) ∙ ap (callee_shape names) e ∙ ap given_shape (none_past names)

pub found_given : (names : FunctionNames) (name text : List ℕ) (i : ℕ) → text ≡ name → ((other : Callee) → other ≡ callee_in built_in text other) → AreFnNames names → i < length names → HoldsAt (λ (f : FnName). f.name ≡ name) names i → callee names name ≡ Callee.Given i
found_given names name text i is found valid within at =
    ap (λ x. callee_in built_in x (callee_in (given_from 0 names) name (Callee.Given (length names)))) (sym is)
    ∙ sym (found _) ∙ callee_in-at names 0 i name (Callee.Given (length names)) valid.distinct within at ∙ (let none_before : 0 + i ≡ i = omega arith in ap Callee.Given none_before)

pub given_shape-take : (names : FunctionNames) (i n : ℕ) → n ≤ 8 → given_shape (slice_get names i) ≡ Ok (shape (replicate n ColType.Int) ColType.Int)
    → given_shape (slice_get names i) ≡ Ok (shape (take n (replicate 8 ColType.Int)) ColType.Int)
given_shape-take names i n few is = rw (take-replicate n 8 ColType.Int few) is

pub shape_of-callee : (names : FunctionNames) (name : List ℕ) (f : Callee) (s : Result Shape GraphCause) → callee names name ≡ f → callee_shape names f ≡ s → shape_of names name ≡ s
shape_of-callee names name f s is has = sym (callee_shape-callee names name) ∙ ap (callee_shape names) is ∙ has

-- ---- The kind of a call, by what it calls and its arguments.

-- what a call gives, by whether it has the right number of arguments, and their kinds
abbrev given_by : Bool → Result (List ColType) GraphCause → List ColType → ColType → Result ColType GraphCause
given_by counted kinds takes gives =
    if counted then (kinds >>= λ ts. if same_kinds ts takes then Ok gives else Err GraphCause.WrongType) else Err GraphCause.WrongCount

by_fit : (kinds : Result (List ColType) GraphCause) (takes : List ColType) (gives : ColType) (fit : Bool) → arguments_fit kinds takes ≡ Ok fit
    → (kinds >>= λ ts. if same_kinds ts takes then Ok gives else Err GraphCause.WrongType) ≡ (if fit then Ok gives else Err GraphCause.WrongType)
by_fit (Ok ts) takes gives fit is = let e : same_kinds ts takes ≡ fit = cc is in ap (λ b. if b then Ok gives else Err GraphCause.WrongType) e
by_fit (Err e) takes gives fit is = cc is

module _ (column : List ℕ → Result ColType GraphCause) (names : FunctionNames) (name : List ℕ) (args : Trees (List ℕ) (List ℕ)) (f : Callee) (takes : List ColType) (gives : ColType) (calls : callee names name ≡ f) (shaped : callee_shape names f ≡ Ok (shape takes gives)) where
  kind_of_call : (counted : Bool) → counted ≡ nat_eq (args_count args) (length takes) → kind_by column (shape_of names) (Call name args) ≡ given_by counted (kinds_by column (shape_of names) args) takes gives
  kind_of_call counted is = rw (shape_of-callee names name f (Ok (shape takes gives)) calls shaped, is) refl

  pub call_miscounted : (counted : Bool) → counted ≡ nat_eq (args_count args) (length takes) → counted ≡ false → RefusedAs WrongCount (kind_by column (shape_of names) (Call name args))
  call_miscounted counted is no' = kind_of_call counted is ∙ ap (λ b. given_by b (kinds_by column (shape_of names) args) takes gives) no'

  counted_call : (counted : Bool) → counted ≡ nat_eq (args_count args) (length takes) → counted ≡ true
      → kind_by column (shape_of names) (Call name args) ≡ (kinds_by column (shape_of names) args >>= λ ts. if same_kinds ts takes then Ok gives else Err GraphCause.WrongType)
  counted_call counted is yes' = kind_of_call counted is ∙ ap (λ b. given_by b (kinds_by column (shape_of names) args) takes gives) yes'

  pub call_refused : (counted : Bool) (e : CheckRefusal) → counted ≡ nat_eq (args_count args) (length takes) → counted ≡ true → RefusedAs e (kinds_by column (shape_of names) args) → RefusedAs e (kind_by column (shape_of names) (Call name args))
  call_refused counted e is yes' refused = let P : Result ColType GraphCause → Type 0 = RefusedAs e in subst P (sym (counted_call counted is yes')) (refused_then e _ _ refused)

  pub call_mistyped : (counted fit : Bool) → counted ≡ nat_eq (args_count args) (length takes) → counted ≡ true → arguments_fit (kinds_by column (shape_of names) args) takes ≡ Ok fit → fit ≡ false → RefusedAs WrongType (kind_by column (shape_of names) (Call name args))
  call_mistyped counted fit is yes' fits no' = counted_call counted is yes' ∙ by_fit _ takes gives fit fits ∙ ap (λ b. if b then Ok gives else Err GraphCause.WrongType) no'

  pub call_typed : (counted fit : Bool) → counted ≡ nat_eq (args_count args) (length takes) → counted ≡ true → arguments_fit (kinds_by column (shape_of names) args) takes ≡ Ok fit → fit ≡ true → kind_by column (shape_of names) (Call name args) ≡ Ok gives
  call_typed counted fit is yes' fits yes'' = counted_call counted is yes' ∙ by_fit _ takes gives fit fits ∙ ap (λ b. if b then Ok gives else Err GraphCause.WrongType) yes''

-- each column beside its kind
zip_known : (reads : List ℕ) (kinds : List ColType) (kind_at : ℕ → Result ColType GraphCause) → map (λ (c : ColType). Ok c) kinds ≡ map kind_at reads → AllByRecursion (λ (c : ℕ × ColType). kind_at c.0 ≡ Ok c.1) (zip reads kinds)
zip_known [] kinds kind_at is = tt
zip_known (n ∷ ns) [] kind_at is = tt
zip_known (n ∷ ns) (k ∷ ks) kind_at is =
    let head : kind_at n ≡ Ok k = cc is in
    let tail : map (λ (c : ColType). Ok c) ks ≡ map kind_at ns = cc is in
    (head, zip_known ns ks kind_at tail)

pub kinds_known : (reads : List ℕ) (kinds : List ColType) (kind_at : ℕ → Result ColType GraphCause) → map (λ (c : ColType). Ok c) kinds ≡ map kind_at reads → All (λ (c : ℕ × ColType). kind_at c.0 ≡ Ok c.1) (zip reads kinds)
kinds_known reads kinds kind_at is = All-from_recursion (λ (c : ℕ × ColType). kind_at c.0 ≡ Ok c.1) (zip reads kinds) (zip_known reads kinds kind_at is)

-- a call with as many arguments as its shape takes
given_fits : (o : Option FnName) (s : Shape) (count : ℕ) → given_shape o ≡ Ok s → count ≡ length s.takes → MatchOption o ⊥ (λ f. f.arity ≡ count)
given_fits None s count is counts = cc is
given_fits (Some f) s count is counts =
    let same_shape : shape (replicate f.arity ColType.Int) ColType.Int ≡ s = cc is in
    sym (length-replicate f.arity ColType.Int) ∙ ap (λ (t : Shape). length t.takes) same_shape ∙ sym counts

call_fits : (names : FunctionNames) (f : Callee) (s : Shape) (count : ℕ) → callee_shape names f ≡ Ok s → nat_eq count (length s.takes) ≡ true → IsCallOf names f count
call_fits names (Callee.Given i) s count is counts = given_fits (slice_get names i) s count is ((Decides-eqb count (length s.takes)).0 counts)
call_fits names f s count is counts = tt

-- each call of an expression that has a kind is a call of its function
module _ (col : ℕ → Result ColType GraphCause) (names : FunctionNames) where
  mutual
    pub calls_fit : (e : NumTree) (k : ColType) → kind_by col (callee_shape names) e ≡ Ok k → CallsFit names e
    calls_fit (Neg a) k h = let w = bind_ok (kind_by col (callee_shape names) a) _ k h in calls_fit a w.0 w.1
    calls_fit (Not a) k h = let w = bind_ok (kind_by col (callee_shape names) a) _ k h in calls_fit a w.0 w.1
    calls_fit (Bin o a b) k h =
        let w = bind_ok (kind_by col (callee_shape names) a) _ k h in
        let v = bind_ok (kind_by col (callee_shape names) b) _ k w.2 in
        (calls_fit a w.0 w.1, calls_fit b v.0 v.1)
    calls_fit (Cond c a b) k h =
        let u = bind_ok (kind_by col (callee_shape names) c) _ k h in
        let w = bind_ok (kind_by col (callee_shape names) a) _ k u.2 in
        let v = bind_ok (kind_by col (callee_shape names) b) _ k w.2 in
        (calls_fit c u.0 u.1, calls_fit a w.0 w.1, calls_fit b v.0 v.1)
    calls_fit (Pick a b) k h =
        let w = bind_ok (kind_by col (callee_shape names) a) _ k h in
        let v = bind_ok (kind_by col (callee_shape names) b) _ k w.2 in
        (calls_fit a w.0 w.1, calls_fit b v.0 v.1)
    calls_fit (Call f args) k h =
        let s = bind_ok (callee_shape names f) _ k h in
        let ts = call_ok (nat_eq (args_count args) (length s.0.takes)) (kinds_by col (callee_shape names) args) s.0.takes s.0.gives k s.2 in
        (call_fits names f s.0 (args_count args) s.1 ts.2, all_calls_fit args ts.0 ts.1)
    calls_fit e k h = tt

    all_calls_fit : (args : Trees ℕ Callee) (ks : List ColType) → kinds_by col (callee_shape names) args ≡ Ok ks → AllCallsFit names args
    all_calls_fit End ks h = tt
    all_calls_fit (More a rest) ks h =
        let w = bind_ok (kind_by col (callee_shape names) a) _ ks h in
        let v = bind_ok (kinds_by col (callee_shape names) rest) _ ks w.2 in
        (calls_fit a w.0 w.1, all_calls_fit rest v.0 v.1)

-- what a check knows, at the tree that it built
module _ (kind_named : List ℕ → Result ColType GraphCause) (number_named : List ℕ → ℕ) (kind_at : ℕ → Result ColType GraphCause) (names : FunctionNames) (e : NamedTree) (t : NumTree) (k : ColType)
    (typed : kind_by kind_named (shape_of names) e ≡ Ok k) (is : t ≡ renamed number_named (callee names) e) (reads : List ℕ) (are : reads ≡ distinct (columns_in t)) (one : HaveOneKind kind_named number_named kind_at) where
  -- by the kinds of its numbers, the numbered expression has the same kind
  typed_by_numbers : kind_by kind_at (callee_shape names) t ≡ Ok k
  typed_by_numbers =
      ap (λ (u : NumTree). kind_by kind_at (callee_shape names) u) is ∙ kind_by-renamed number_named (callee names) kind_at (callee_shape names) e
      ∙ sym (kind_by-same kind_named (λ c. kind_at (number_named c)) (shape_of names) (λ f. callee_shape names (callee names f)) (λ f. sym (callee_shape-callee names f)) e
      (each_weaker (λ c. IsOk (kind_named c)) (λ c. kind_named c ≡ kind_at (number_named c)) one (columns_in e) (columns_known kind_named (shape_of names) e k typed)))
      ∙ typed

  pub reads_known : All (λ i. IsOk (kind_at i)) reads
  reads_known =
      rw are (All-from_recursion (λ i. IsOk (kind_at i)) (distinct (columns_in t)) (each_distinct (λ i. IsOk (kind_at i)) (columns_in t) (columns_known kind_at (callee_shape names) t k typed_by_numbers)))

  module _ (kinds : List ColType) (have : map (λ (c : ColType). Ok c) kinds ≡ map kind_at reads) where
    pub kinds_beside : length kinds ≡ length reads
    kinds_beside = sym (length-map kinds (λ (c : ColType). Ok c)) ∙ ap length have ∙ length-map reads kind_at

    tree_typed : num_kind (zip reads kinds) names t ≡ Ok k
    tree_typed =
        let P : List ℕ → Type 0 = AllByRecursion (λ i. kind_at i ≡ number_kind (zip reads kinds) i) in
        sym (kind_by-same kind_at (number_kind (zip reads kinds)) (callee_shape names) (callee_shape names) (λ f. refl) t
        (each_from_distinct (λ i. kind_at i ≡ number_kind (zip reads kinds) i) (columns_in t) (subst P are (each_by_zip reads kinds kind_at have))))
        ∙ typed_by_numbers

    pub is_well_typed : IsWellTyped names (checked_expr t (zip reads kinds) k)
    is_well_typed = record { typed = tree_typed; columns = firsts-zip reads kinds kinds_beside ∙ are }

    pub tree_calls_fit : CallsFit names t
    tree_calls_fit = calls_fit (number_kind (zip reads kinds)) names t k tree_typed

-- the numbers that stand beside the kinds of a checked expression
pub reads_are : (c : CheckedExpr) (tree : NumTree) (reads : List ℕ) (kinds : List ColType) (k : ColType) → length kinds ≡ length reads → checked_expr tree (zip reads kinds) k ≡ c → reads ≡ map (λ (d : ℕ × ColType). d.0) c.kinds
reads_are c tree reads kinds k beside is = sym (firsts-zip reads kinds beside) ∙ ap (λ (d : CheckedExpr). map (λ (p : ℕ × ColType). p.0) d.kinds) is
