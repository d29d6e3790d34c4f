-- Operations whose left side may decide, and elements one after the other.
use Rattle.lemmas.proofs.{◌≡◌, ℕ, Bool, true, false, None, Result, refl, ◌<◌, ◌+◌, ℤ, pos, List, [], ◌∷◌, ◌++◌, length, drop, get_or, ◌∙◌, append_assoc, ap, sym, ◌+ℤ◌, fold, if◌then◌else◌, arith, ◌≤◌, suc, zero, Ok, subst, HoldsAt, slice_get, MatchOption, ◌&&◌, All, Option, IfOk, AllByRecursion, both_true, Decides-eqb, not-true, recursion_from_All}
use Rattle.rdf_values.specs.{BinOp, Value, EntryFault, AreFnNames, Bin, Call, Callee, Col, ColType, Cond, End, fn_names, FnName, Function, FunctionNames, GraphCause, kind_by, kinds_by, More, Neg, Not, NumTree, Pick, Shape, Trees, EachArgument, EachColumn, FitsKind, Scalar}
use Rattle.rdf_model.specs.{◌>>=◌, Gives, operation, Outcome, value_operation, checked, Faults, for_all, gives_int, is_set, marked, pairs, sum_from, FitsOutcome, answer_outcome, call_outcome, evaluate, FitKinds, given_call}
use Rattle.expr_eval.specs.{AnswersAs, decision, EvalStop, following, ArgumentsCanCall, GivesScalar, scalar_outcome, scalar_value, ScalarStop}
use Rattle.std.proofs.lemmas.List.{at_drop_more}
use Rattle.expr_check.specs.{all_are_plain, AllCallsFit, callee_shape, CallsFit, CheckedExpr, IsTyped, number_kind, gives_vector, is_plain, takes_no_vector}
use Rattle.expr_eval.specs.Answers.{CanCall}
use Rattle.rdf_model.proofs.Typing.{each_weaker, IsKnownColumn, known_columns as all_known, meets_bind, always, element_fits, evaluate_fits, same_ok}

leaves_open : (o : BinOp) (v : Value) (p : Outcome ℕ Value) → decision o v ≡ None → operation o (Gives v) p ≡ (p >>= value_operation o v)
leaves_open o v p e = grind arith

module _ (o : BinOp) (v : Value) (left right : Outcome ℕ Value) (given : left ≡ Gives v) where
  pub both_sides : {B : Type 0} (view : B → Value) (w : Value) (r : Result B EvalStop) → decision o v ≡ None → right ≡ Gives w → AnswersAs view (value_operation o v w) r → AnswersAs view (operation o left right) r
  both_sides view w r e h a = rw (given, leaves_open o v right e, h) a

-- ---- Elements one after the other.

following_one : {A : Type 0} (out : List A) (y : A) (o : Outcome ℕ (List A)) → following out (o >>= λ ys. Gives (y ∷ ys)) ≡ following (out ++ y ∷ []) o
following_one out y (Gives ys) = ap Gives (sym (append_assoc out (y ∷ []) ys))
following_one out y o = refl

-- what is left of the elements begins with one
module _ {A : Type 0} (f : A → Outcome ℕ ℤ) (out : List ℤ) (all rest behind : List A) (x : A) (here : for_all f all ≡ following out (for_all f rest)) (is : rest ≡ x ∷ behind) where
  from_here : for_all f all ≡ following out (for_all f (x ∷ behind))
  from_here = here ∙ ap (λ xs. following out (for_all f xs)) is

  pub stops : (k : EntryFault) → Faults k ≡ f x → for_all f all ≡ Faults k
  stops k e = from_here ∙ (rw (← e) refl)

  pub goes_on : (y : ℤ) → Gives y ≡ f x → for_all f all ≡ following (out ++ y ∷ []) (for_all f behind)
  goes_on y e = from_here ∙ (rw (← e) (following_one out y (for_all f behind)))

-- the elements of two vectors
module _ (xs ys : List ℤ) (i : ℕ) (d e : ℤ) (inside : i < length xs) (same : length xs ≡ length ys) where
  pub pairs_from : pairs (drop i xs) (drop i ys) ≡ (get_or xs i d, get_or ys i e) ∷ pairs (drop (i + 1) xs) (drop (i + 1) ys)
  pairs_from = at_drop_more (λ ds. pairs ds (drop i ys)) xs i d inside ∙ at_drop_more (λ ds. pairs (get_or xs i d ∷ drop (i + 1) xs) ds) ys i e (rw (← same) inside)

  module _ (f : ℤ × ℤ → Outcome ℕ ℤ) (out : List ℤ) (here : for_all f (pairs xs ys) ≡ following out (for_all f (pairs (drop i xs) (drop i ys)))) where
    pub pairs_go_on : (y : ℤ) → Gives y ≡ f (get_or xs i d, get_or ys i e) → for_all f (pairs xs ys) ≡ following (out ++ y ∷ []) (for_all f (pairs (drop (i + 1) xs) (drop (i + 1) ys)))
    pairs_go_on y h = goes_on f out (pairs xs ys) _ _ _ here pairs_from y h

-- the sum of the elements
module _ (xs : List ℤ) (i : ℕ) (d total : ℤ) (inside : i < length xs) (here : sum_from {M = ℕ} (pos 0) xs ≡ sum_from total (drop i xs)) where
  sum_from_here : sum_from {M = ℕ} (pos 0) xs ≡ sum_from total (get_or xs i d ∷ drop (i + 1) xs)
  sum_from_here = here ∙ at_drop_more (λ ds. sum_from total ds) xs i d inside

  pub sum_goes_on : (next : ℤ) → Gives next ≡ checked {M = ℕ} (total +ℤ get_or xs i d) → sum_from {M = ℕ} (pos 0) xs ≡ sum_from next (drop (i + 1) xs)
  sum_goes_on next e = sum_from_here ∙ ap (λ o. o >>= λ s. sum_from s (drop (i + 1) xs)) (sym e)

  pub sum_stops : (k : EntryFault) → Faults k ≡ checked {M = ℕ} (total +ℤ get_or xs i d) → sum_from {M = ℕ} (pos 0) xs ≡ Faults k
  sum_stops k e = sum_from_here ∙ ap (λ o. o >>= λ s. sum_from s (drop (i + 1) xs)) (sym e)

-- the extreme element
pub extreme_goes_on : (better : ℤ → ℤ → ℤ) (o : Outcome ℕ Value) (xs : List ℤ) (i : ℕ) (d best next : ℤ) → i < length xs
    → o ≡ gives_int (fold better best (drop i xs)) → next ≡ better best (get_or xs i d) → o ≡ gives_int (fold better next (drop (i + 1) xs))
extreme_goes_on better o xs i d best next inside here e =
    here ∙ at_drop_more (λ ds. gives_int (fold better best ds)) xs i d inside ∙ ap (λ b. gives_int (fold better b (drop (i + 1) xs))) (sym e)

-- the marked elements
module _ (xs ms : List ℤ) (i : ℕ) (d e : ℤ) (inside : i < length xs) (same : length xs ≡ length ms) (out : List ℤ) (here : marked xs ms ≡ out ++ marked (drop i xs) (drop i ms)) where
  marked_from_here : marked xs ms ≡ out ++ marked (get_or xs i d ∷ drop (i + 1) xs) (get_or ms i e ∷ drop (i + 1) ms)
  marked_from_here =
      here ∙ at_drop_more (λ ds. out ++ marked ds (drop i ms)) xs i d inside
      ∙ at_drop_more (λ ds. out ++ marked (get_or xs i d ∷ drop (i + 1) xs) ds) ms i e (rw (← same) inside)

  pub marked_kept : is_set (get_or ms i e) ≡ true → marked xs ms ≡ (out ++ get_or xs i d ∷ []) ++ marked (drop (i + 1) xs) (drop (i + 1) ms)
  marked_kept h =
      marked_from_here ∙ ap (λ (b : Bool). out ++ (if b then get_or xs i d ∷ marked (drop (i + 1) xs) (drop (i + 1) ms) else marked (drop (i + 1) xs) (drop (i + 1) ms))) h
      ∙ sym (append_assoc out (get_or xs i d ∷ []) (marked (drop (i + 1) xs) (drop (i + 1) ms)))

  pub marked_left_out : is_set (get_or ms i e) ≡ false → marked xs ms ≡ out ++ marked (drop (i + 1) xs) (drop (i + 1) ms)
  marked_left_out h = grind (arith, marked_from_here)

-- a mark that isn't 0 is set
pub set_mark : (m : ℤ) → (m ≡ pos 0 → ⊥) → is_set m ≡ true
set_mark m h = grind arith

-- ---- a checked expression comes to a value of its kind, and its calls can be made

-- a call at a place of the list has as many arguments as the function there takes
given_can : (functions : List Function) (i count : ℕ) → AllByRecursion (λ (f : FnName). f.arity ≤ 8) (fn_names functions) → MatchOption (slice_get (fn_names functions) i) ⊥ (λ f. f.arity ≡ count)
    → (i < length functions) × HoldsAt (λ (f : Function). count ≡ f.arity) functions i × (count ≤ 8)
given_can [] i count few h = absurd h
given_can (f ∷ fs) zero count few h = (omega arith, λ d. sym h, subst (λ (n : ℕ). n ≤ 8) h few.0)
given_can (f ∷ fs) (suc i) count few h = let r = given_can fs i count few.1 h in (omega (arith, r.0), r.1, r.2)

module _ (functions : List Function) (few : AllByRecursion (λ (f : FnName). f.arity ≤ 8) (fn_names functions)) where
  module _ (col : ℕ → Result ColType GraphCause) (names : FunctionNames) where
    mutual
      calls_can : (e : NumTree) (k : ColType) → kind_by col (callee_shape names) e ≡ Ok k → CallsFit (fn_names functions) e → CanCall functions e
      calls_can (Neg a) k h fit = grind (arith, calls_can a)
      calls_can (Not a) k h fit = grind (arith, calls_can a)
      calls_can (Bin o a b) k h fit = grind (arith, calls_can a, calls_can b)
      calls_can (Cond c a b) k h fit = grind (arith, calls_can c, calls_can a, calls_can b)
      calls_can (Pick a b) k h fit = grind (arith, calls_can a, calls_can b)
      calls_can (Call f args) k h fit = grind (arith, given_can, Decides-eqb, all_calls_can args)
      calls_can e k h fit = tt

      all_calls_can : (args : Trees ℕ Callee) (ks : List ColType) → kinds_by col (callee_shape names) args ≡ Ok ks → AllCallsFit (fn_names functions) args → ArgumentsCanCall functions args
      all_calls_can End ks h fit = tt
      all_calls_can (More a rest) ks h fit = grind (arith, calls_can a, all_calls_can rest)

pub can_call : (functions : List Function) (e : CheckedExpr) → AreFnNames (fn_names functions) → IsTyped e → CallsFit (fn_names functions) e.tree → CanCall functions e.tree
can_call functions e are typed fit =
    calls_can functions (recursion_from_All (λ (f : FnName). f.arity ≤ 8) (fn_names functions) are.arities) (number_kind e.kinds) typed.0 e.tree e.kind typed.1.typed fit

-- ---- What holds of the columns whose kinds a checked expression has holds of each column that stands in it.

-- of a number that has a kind holds what holds of each number and its kind
by_number : (Q : ℕ → ColType → Type 0) (kinds : List (ℕ × ColType)) → AllByRecursion (λ (c : ℕ × ColType). Q c.0 c.1) kinds → (j : ℕ) (s : ColType) → number_kind kinds j ≡ Ok s → Q j s
by_number Q [] h j s is = cc is
by_number Q (c ∷ cs) h j s is = grind (arith, Decides-eqb, by_number Q cs h.1 j s)

module _ (e : CheckedExpr) (typed : IsTyped e) where
  have_kinds : EachColumn (IsKnownColumn (number_kind e.kinds) (callee_shape typed.0)) e.tree
  have_kinds = all_known (number_kind e.kinds) (callee_shape typed.0) e.tree e.kind typed.1.typed

  pub known_columns : (P : ℕ → Type 0) → All (λ (c : ℕ × ColType). P c.0) e.kinds → EachColumn P e.tree
  known_columns P h = each_weaker _ P (λ c k. by_number (λ i t. P i) e.kinds (recursion_from_All (λ (c : ℕ × ColType). P c.0) e.kinds h) c k.0 k.1) e.tree have_kinds

-- what holds of each column that is no vector holds of each of a plain expression
module _ (kinds : List (ℕ × ColType)) (P : ℕ → Type 0) where
  abbrev IfScalar : ℕ → Type 0
  IfScalar c = gives_vector (number_kind kinds c) ≡ false → P c

  mutual
    plain_each : (e : NumTree) → is_plain kinds e ≡ true → EachColumn IfScalar e → EachColumn P e
    plain_each (Col c) h f = f (not-true (gives_vector (number_kind kinds c)) h)
    plain_each (Neg a) h f = plain_each a h f
    plain_each (Not a) h f = plain_each a h f
    plain_each (Bin o a b) h f = let p = both_true (is_plain kinds a) (is_plain kinds b) h in (plain_each a p.0 f.0, plain_each b p.1 f.1)
    plain_each (Cond c a b) h f =
        let p = both_true (is_plain kinds c && is_plain kinds a) (is_plain kinds b) h in let q = both_true (is_plain kinds c) (is_plain kinds a) p.0 in
        (plain_each c q.0 f.0, plain_each a q.1 f.1, plain_each b p.1 f.2)
    plain_each (Pick v i) h f = cc h
    plain_each (Call g args) h f = plain_all args (both_true (takes_no_vector g) (all_are_plain kinds args) h).1 f
    plain_each e h f = tt

    plain_all : (args : Trees ℕ Callee) → all_are_plain kinds args ≡ true → EachArgument IfScalar args → EachArgument P args
    plain_all End h f = tt
    plain_all (More a rest) h f = let p = both_true (is_plain kinds a) (all_are_plain kinds rest) h in (plain_each a p.0 f.0, plain_all rest p.1 f.1)

-- what columns come to, where each comes to a value of its kind
module _ (look : ℕ → Outcome ℕ Value) where
  pub fits_at : (kinds : List (ℕ × ColType)) → All (λ (c : ℕ × ColType). FitsOutcome c.1 (look c.0)) kinds → (j : ℕ) (s : ColType) → number_kind kinds j ≡ Ok s → FitsOutcome s (look j)
  fits_at kinds fit = by_number (λ j s. FitsOutcome s (look j)) kinds (recursion_from_All (λ (c : ℕ × ColType). FitsOutcome c.1 (look c.0)) kinds fit)

  scalar_of_kind : (r : Result ColType GraphCause) (t : ColType) (o : Outcome ℕ Value) → r ≡ Ok t → gives_vector r ≡ false → FitsOutcome t o → GivesScalar o
  scalar_of_kind r t o is p f = grind arith

  -- no column of a plain expression comes to a vector
  pub plain_columns : (e : CheckedExpr) → IsTyped e → All (λ (c : ℕ × ColType). FitsOutcome c.1 (look c.0)) e.kinds → is_plain e.kinds e.tree ≡ true → EachColumn (λ c. GivesScalar (look c)) e.tree
  plain_columns e typed fit plain =
      plain_each e.kinds _ e.tree plain (each_weaker _ _ (λ c k p. scalar_of_kind (number_kind e.kinds c) k.0 (look c) k.1 p (fits_at e.kinds fit c k.0 k.1)) e.tree (have_kinds e typed))

-- ---- A checked expression comes to a value of its kind: calls

int_fits : (o : Outcome ℕ ℤ) → FitsOutcome ColType.Int (o >>= gives_int)
int_fits o = meets_bind ℕ (λ z. Unit {0}) (FitsKind ColType.Int) o gives_int (always ℕ o) (λ z _. tt)

answer_fits : (a : Option ℤ) → FitsOutcome ColType.Int (answer_outcome {M = ℕ} a)
answer_fits a = grind arith

given_fits : (f : Option Function) (zs : List ℤ) → FitsOutcome ColType.Int (given_call {M = ℕ} f zs)
given_fits f zs = grind (arith, answer_fits)

pub call_fits : (functions : List Function) (names : FunctionNames) (f : Callee) (s : Shape) (vs : List Value)
    → callee_shape names f ≡ Ok s → FitKinds s.takes vs → FitsOutcome s.gives (call_outcome {M = ℕ} functions f vs)
call_fits functions names f s vs is fit = grind (arith, same_ok, int_fits, element_fits, given_fits)

-- ---- expressions

module _ (functions : List Function) (look : ℕ → Outcome ℕ Value) (e : CheckedExpr) (typed : IsTyped e) (fit : All (λ (c : ℕ × ColType). FitsOutcome c.1 (look c.0)) e.kinds) where
  evaluated_fits : FitsOutcome e.kind (evaluate look (call_outcome functions) e.tree)
  evaluated_fits =
      evaluate_fits ℕ look (call_outcome functions) (number_kind e.kinds) (callee_shape typed.0) (fits_at look e.kinds fit) (call_fits functions typed.0) e.tree e.kind typed.1.typed

  pub scalar_fits : (r : Result Scalar ScalarStop) → scalar_outcome r ≡ evaluate look (call_outcome functions) e.tree → IfOk r (λ s. FitsKind e.kind (scalar_value s))
  scalar_fits r h = grind (arith, evaluated_fits)

  pub value_fits : (r : Result Value EvalStop) → AnswersAs (λ v. v) (evaluate look (call_outcome functions) e.tree) r → IfOk r (λ v. FitsKind e.kind v)
  value_fits r h = grind (arith, evaluated_fits)
