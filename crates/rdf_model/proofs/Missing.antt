-- Evaluation is the same whatever stands for what is missing.
use Rattle.lemmas.proofs.{arith, ◌≡◌, ℕ, ℤ, Bool, true, false, List, [], ◌∷◌, Option, if◌then◌else◌, length, nat_eq, ◌+ℤ◌, pos, negsuc}
use Rattle.rdf_values.specs.{Bin, BinOp, Call, Callee, callee, Col, Column, Cond, EachArgument, EachColumn, End, fn_names, Function, More, NamedTree, Neg, Not, Path, Pick, place, same, target_of, Tree, Trees, Under, Value, VaryValues}
use Rattle.rdf_values.proofs.KeptLemmas.{all_columns}
use Rattle.rdf_values.specs.declared.scripts.statement.Statement.TheVariants.{Define, Redefine, Vary}
use Rattle.rdf_model.specs.{◌>>=◌, answer_outcome, call_outcome, cell, checked, column_value, divided, element, evaluate, evaluate_all, expression_value, extreme_element, for_all, given_call, Gives, in_order, is_zero, named_call, named_value, needs, number_operation, operation, Outcome, own_place, pairs, picked, sum_from, tag_element, tag_value, value_if, value_operation, varied, vector_operation, with_needs}
use Rattle.rdf_model.specs.Laws.{Alike, gives, faults}

module _ (M N : Type 0) where
  pub bind_alike : {A B : Type 0} {o : Outcome M A} {p : Outcome N A} (f : A → Outcome M B) (g : A → Outcome N B) → Alike o p → ((a : A) → Alike (f a) (g a)) → Alike (o >>= f) (p >>= g)
  bind_alike f g k h = grind (arith, gives, faults, needs)

  if_alike : {A : Type 0} (b : Bool) {o o' : Outcome M A} {p p' : Outcome N A} → Alike o p → Alike o' p' → Alike (if b then o else o') (if b then p else p')
  if_alike b h k = grind arith

  checked_alike : (z : ℤ) → Alike (checked {M = M} z) (checked {M = N} z)
  checked_alike z = grind (arith, gives, faults)

  divided_alike : (y : ℤ) {o : Outcome M ℤ} {p : Outcome N ℤ} → Alike o p → Alike (divided y o) (divided y p)
  divided_alike y h = if_alike (is_zero y) faults h

  number_alike : (o : BinOp) (x y : ℤ) → Alike (number_operation {M = M} o x y) (number_operation {M = N} o x y)
  number_alike o x y = grind (arith, checked_alike, divided_alike, gives)

  pub for_all_alike : {A B : Type 0} (f : A → Outcome M B) (g : A → Outcome N B) → ((a : A) → Alike (f a) (g a)) → (xs : List A) → Alike (for_all f xs) (for_all g xs)
  for_all_alike f g h [] = gives
  for_all_alike f g h (x ∷ xs) = bind_alike _ _ (h x) (λ y. bind_alike _ _ (for_all_alike f g h xs) (λ ys. gives))

  vector_alike : (o : BinOp) (xs ys : List ℤ) → Alike (vector_operation {M = M} o xs ys) (vector_operation {M = N} o xs ys)
  vector_alike o xs ys =
      if_alike (nat_eq (length xs) (length ys)) (bind_alike _ _ (for_all_alike (λ (p : ℤ × ℤ). number_operation o p.0 p.1) (λ (p : ℤ × ℤ). number_operation o p.0 p.1) (λ p. number_alike o p.0 p.1) (pairs xs ys)) (λ z. gives)) faults

  value_alike : (o : BinOp) (v w : Value) → Alike (value_operation {M = M} o v w) (value_operation {M = N} o v w)
  value_alike o v w = grind (arith, bind_alike, number_alike, for_all_alike, vector_alike, gives)

  in_order_alike : {o p : Outcome M Value} {o' p' : Outcome N Value} (f : Value → Value → Outcome M Value) (g : Value → Value → Outcome N Value) → ((v w : Value) → Alike (f v w) (g v w)) → Alike o o' → Alike p p'
      → Alike (in_order f o p) (in_order g o' p')
  in_order_alike f g h k l = bind_alike _ _ k (λ v. bind_alike _ _ l (λ w. h v w))

  operation_alike : (o : BinOp) {l r : Outcome M Value} {l' r' : Outcome N Value} → Alike l l' → Alike r r' → Alike (operation o l r) (operation o l' r')
  operation_alike BinOp.And (gives {a = Value.Bool false}) k = gives
  operation_alike BinOp.And (gives {a = v}) k = in_order_alike {o = Gives v} {o' = Gives v} (value_operation BinOp.And) (value_operation BinOp.And) (value_alike BinOp.And) gives k
  operation_alike BinOp.And faults k = faults
  operation_alike BinOp.And needs k = needs
  operation_alike BinOp.Or (gives {a = Value.Bool true}) k = gives
  operation_alike BinOp.Or (gives {a = v}) k = in_order_alike {o = Gives v} {o' = Gives v} (value_operation BinOp.Or) (value_operation BinOp.Or) (value_alike BinOp.Or) gives k
  operation_alike BinOp.Or faults k = faults
  operation_alike BinOp.Or needs k = needs
  operation_alike o h k = in_order_alike (value_operation o) (value_operation o) (value_alike o) h k

  element_alike : (xs : List ℤ) (i : ℤ) → Alike (element {M = M} xs i) (element {M = N} xs i)
  element_alike xs (pos i) = grind (arith, gives, faults)
  element_alike xs (negsuc i) = faults

  picked_alike : (v w : Value) → Alike (picked {M = M} v w) (picked {M = N} v w)
  picked_alike v w = grind (arith, element_alike, if_alike, gives, faults)

  sum_alike : (z : ℤ) (xs : List ℤ) → Alike (sum_from {M = M} z xs) (sum_from {M = N} z xs)
  sum_alike z [] = gives
  sum_alike z (x ∷ xs) = bind_alike _ _ (checked_alike (z +ℤ x)) (λ s. sum_alike s xs)

  extreme_alike : (better : ℤ → ℤ → ℤ) (xs : List ℤ) → Alike (extreme_element {M = M} better xs) (extreme_element {M = N} better xs)
  extreme_alike better [] = faults
  extreme_alike better (x ∷ xs) = gives

  answer_alike : (a : Option ℤ) → Alike (answer_outcome {M = M} a) (answer_outcome {M = N} a)
  answer_alike a = grind (arith, gives, faults)

  given_alike : (f : Option Function) (zs : List ℤ) → Alike (given_call {M = M} f zs) (given_call {M = N} f zs)
  given_alike f zs = grind (arith, gives, answer_alike)

  pub call_alike : (fns : List Function) (f : Callee) (vs : List Value) → Alike (call_outcome {M = M} fns f vs) (call_outcome {M = N} fns f vs)
  call_alike fns f vs = grind (arith, bind_alike, sum_alike, extreme_alike, element_alike, checked_alike, given_alike, gives)

  -- ---- expressions

  module _ {C F : Type 0} (look : C → Outcome M Value) (look' : C → Outcome N Value) (call : F → List Value → Outcome M Value) (call' : F → List Value → Outcome N Value)
      (calls : (f : F) (vs : List Value) → Alike (call f vs) (call' f vs)) where
    mutual
      pub evaluate_alike : (e : Tree C F) → EachColumn (λ c. Alike (look c) (look' c)) e → Alike (evaluate look call e) (evaluate look' call' e)
      evaluate_alike (Col c) h = h
      evaluate_alike (Neg a) h = bind_alike _ _ (evaluate_alike a h) (λ v. grind (arith, bind_alike, checked_alike, for_all_alike, gives))
      evaluate_alike (Not a) h = bind_alike _ _ (evaluate_alike a h) (λ v. grind (arith, gives))
      evaluate_alike (Bin o a b) h = operation_alike o (evaluate_alike a h.0) (evaluate_alike b h.1)
      evaluate_alike (Cond c a b) h = bind_alike _ _ (evaluate_alike c h.0) (λ v. grind (arith, gives, evaluate_alike a h.1, evaluate_alike b h.2))
      evaluate_alike (Pick v i) h = in_order_alike picked picked picked_alike (evaluate_alike v h.0) (evaluate_alike i h.1)
      evaluate_alike (Call f args) h = bind_alike _ _ (evaluate_all_alike args h) (calls f)
      evaluate_alike e h = gives

      pub evaluate_all_alike : (es : Trees C F) → EachArgument (λ c. Alike (look c) (look' c)) es → Alike (evaluate_all look call es) (evaluate_all look' call' es)
      evaluate_all_alike End h = gives
      evaluate_all_alike (More a rest) h = bind_alike _ _ (evaluate_alike a h.0) (λ v. bind_alike _ _ (evaluate_all_alike rest h.1) (λ vs. gives))

  -- ---- columns

  module _ (fns : List Function) (columns : List Column) (row : List Value) where
    expression_alike : (look : List ℕ → Outcome M Value) (look' : List ℕ → Outcome N Value) → ((c : List ℕ) → Alike (look c) (look' c)) → (e : NamedTree) → Alike (expression_value fns look e) (expression_value fns look' e)
    expression_alike look look' h e =
        evaluate_alike look look' (named_call fns) (named_call fns) (λ f vs. call_alike fns (callee (fn_names fns) f) vs) e (all_columns h e)

    cell_alike : (cs : List Column) (vs : List Value) (name : List ℕ) → Alike (cell {M = M} cs vs name) (cell {M = N} cs vs name)
    cell_alike (c ∷ cs) (v ∷ vs) name = if_alike (same c.name name) gives (cell_alike cs vs name)
    cell_alike cs vs name = gives

    pub tag_alike : (tags k : ℕ) (v : Value) → Alike (tag_element {M = M} tags k v) (tag_element {M = N} tags k v)
    tag_alike tags k (Value.Vect xs) = if_alike (nat_eq (length xs) tags) (element_alike xs (pos k)) faults
    tag_alike tags k v = gives

    value_if_alike : (o : Option NamedTree) (f : NamedTree → Outcome M Value) (g : NamedTree → Outcome N Value) → ((e : NamedTree) → Alike (f e) (g e)) → Alike (value_if f o) (value_if g o)
    value_if_alike o f g h = grind (arith, gives)

    tag_value_alike : (values : VaryValues) (tags i k : ℕ) (f : NamedTree → Outcome M Value) (g : NamedTree → Outcome N Value) → ((e : NamedTree) → Alike (f e) (g e)) → Alike (tag_value values tags i k f) (tag_value values tags i k g)
    tag_value_alike values tags i k f g h = grind (arith, value_if_alike, bind_alike, tag_alike)

    varied_alike : (k i : Option ℕ) (own : ℕ → ℕ → Outcome M Value) (own' : ℕ → ℕ → Outcome N Value) {above : Outcome M Value} {above' : Outcome N Value} → ((i k : ℕ) → Alike (own i k) (own' i k)) → Alike above above'
        → Alike (varied k i own above) (varied k i own' above')
    varied_alike k i own own' h a = grind arith

    pub named_alike : (at : Path) (u : Under) (name : List ℕ) → Alike (named_value fns columns row {M = M} at u name) (named_value fns columns row {M = N} at u name)
    named_alike [] u name = cell_alike columns row name
    named_alike (Define node parent column expr ∷ up) u name =
        if_alike (same column name) (expression_alike _ _ (λ c. named_alike up u (target_of up c)) expr) (named_alike up u name)
    named_alike (Redefine node parent column expr ∷ up) u name =
        if_alike (same column name) (expression_alike _ _ (λ c. named_alike up u (target_of up c)) expr) (named_alike up u name)
    named_alike (Vary node parent names values tags vary ∷ up) u name =
        varied_alike (own_place u vary tags) (place (same name) names) _ _
        (λ i k. tag_value_alike values (length tags) i k _ _ (λ e. expression_alike _ _ (λ c. named_alike up u (target_of up c)) e)) (named_alike up u name)
    named_alike (s ∷ up) u name = named_alike up u name

    -- what an expression comes to at the end of a path
    pub site_alike : (at : Path) (u : Under) (e : NamedTree) → Alike (expression_value fns (column_value fns columns row {M = M} at u) e) (expression_value fns (column_value fns columns row {M = N} at u) e)
    site_alike at u e = expression_alike _ _ (λ c. named_alike at u (target_of at c)) e

-- where nothing can be missing, nothing is
pub alike_is : {M A : Type 0} (o : Outcome ⊥ A) (p : Outcome M A) → Alike o p → p ≡ with_needs o
alike_is o p h = grind arith
