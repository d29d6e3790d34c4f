-- What a node's parts come to, put together.
use Rattle.lemmas.proofs.{◌≡◌, ◌+◌, ℕ, ℤ, Bool, true, false, ◌&&◌, ◌||◌, List, [], ◌∷◌, ◌∙◌, refl, ap, sym, subst, cond, arith, nat_eq, ◌<◌, ◌≤◌, suc, zero, inl, inr, length, take, ◌≢◌, pos, ◌++◌, get_or, set, ◌⊎◌, get_or-set_same, get_or-set_other, not, drop, append_assoc, add-zero, Result, Err, if◌then◌else◌, neg_ℤ, ◌-ℤ◌, None, IsPermutation, and_left, eq-eqb, eqb_tells, filter, or_right, count_by-le-length, length-filter, length-take-le, range_with_len, list_any-append, list_any_at, or_false, cases_lt, get_or-range_with_len, length-range_with_len, take_more_set, length-filter_both, append-nil, FiltersInPlace, FiltersInPlace-more_no, FiltersInPlace-more_set, get_or-drop, get_or-take, length-append, take_more, list_any_more, and_false, and_right, IsPermutation-append_left, IsPermutation-append_right, IsPermutation-cons, IsPermutation-refl, IsPermutation-sym, IsPermutation-trans, length_permutation}
use Rattle.rdf_model.specs.{◌>>=◌, Faults, Gives, Needs, Outcome, is_zero, number_operation}
use Rattle.expr_lanes.specs.{at_place, EachPlace, Evaluated, given_in, HasCome, is_given, is_in, Stopped, stops_in, with_stop, AreRising, IsSelected, answered_at, stopped, is_marked, called_at, depth, fold_read, HasNumber, is_decider, IsAble, IsAtHand, lane_at, lane_operation, side_number, with_zero, HasValues, lane_outcome, lane_value}
use Rattle.expr_eval.specs.{ScalarStop}
use Rattle.std.proofs.lemmas.Int.{ints}
use Rattle.std.proofs.lemmas.List.Sorted.{IsPermutation-middle}
use Rattle.rdf_values.specs.{BinOp, Call, Callee, Function, Neg, Not, num_tree, NumTree, Trees, Value, ColType}
use Rattle.expr_lanes.specs.declared.kernels.Side.{Side}
use Rattle.expr_lanes.specs.declared.nodes.Branch.{Branch}
use Rattle.expr_lanes.specs.declared.nodes.Branch.TheVariants.{Node, Same}

-- ---- evaluations one after the other, and the arguments of a call in lanes of their own: places of lists

pub first_in : (p : ℕ) (ps : List ℕ) → is_in p (p ∷ ps) ≡ true
first_in p ps = ap (λ b. b || is_in p ps) (eq-eqb p p refl)

pub rest_in : (q p : ℕ) (ps : List ℕ) → is_in q ps ≡ true → is_in q (p ∷ ps) ≡ true
rest_in q p ps h = or_right (nat_eq q p) (is_in q ps) h

-- a place is among what a filter keeps where it was there and passes the test
pub in_filter : (test : ℕ → Bool) (p : ℕ) (xs : List ℕ) → is_in p (filter test xs) ≡ (is_in p xs && test p)
in_filter test p [] = refl
in_filter test p (q ∷ xs) = grind (arith, eqb_tells, in_filter test p xs)

-- what a filter keeps was there
pub filtered_in : (test : ℕ → Bool) (q : ℕ) (ps : List ℕ) → is_in q (filter test ps) ≡ true → is_in q ps ≡ true
filtered_in test q ps h = and_left (is_in q ps) (test q) (sym (in_filter test q ps) ∙ h)

-- what wasn't there isn't among what a filter keeps
pub filtered_out : (test : ℕ → Bool) (q : ℕ) (ps : List ℕ) → is_in q ps ≡ false → is_in q (filter test ps) ≡ false
filtered_out test q ps h = in_filter test q ps ∙ ap (λ b. b && test q) h

-- ---- outcomes that stop alike at each selected place

module _ {A B : Type 0} (f : ℕ → Outcome ℕ A) (h : ℕ → Outcome ℕ B) where
  pub same_given : (ps : List ℕ) → EachPlace ps (λ p. is_given (h p) ≡ is_given (f p)) → given_in h ps ≡ given_in f ps
  same_given [] e = refl
  same_given (p ∷ ps) e =
      ap (λ b. cond b (p ∷ given_in h ps) (given_in h ps)) (e p (first_in p ps)) ∙ ap (λ l. cond (is_given (f p)) (p ∷ l) l) (same_given ps (λ q i. e q (rest_in q p ps i)))

  pub same_stops : (ps : List ℕ) → EachPlace ps (λ p. (rest : List Stopped) → with_stop p (h p) rest ≡ with_stop p (f p) rest) → stops_in h ps ≡ stops_in f ps
  same_stops [] e = refl
  same_stops (p ∷ ps) e = e p (first_in p ps) (stops_in h ps) ∙ ap (λ l. with_stop p (f p) l) (same_stops ps (λ q i. e q (rest_in q p ps i)))

-- ---- an outcome that begins with another: where the first stops, the whole does

stop_moved : {A : Type 0} (p : ℕ) (o : Outcome ℕ A) (xs ys zs : List Stopped) → IsPermutation (xs ++ ys) zs → IsPermutation (xs ++ with_stop p o ys) (with_stop p o zs)
stop_moved p (Gives a) xs ys zs h = h
stop_moved p (Faults k) xs ys zs h = IsPermutation-trans _ _ _ (IsPermutation-middle xs _ ys) (IsPermutation-cons _ _ _ h)
stop_moved p (Needs c) xs ys zs h = IsPermutation-trans _ _ _ (IsPermutation-middle xs _ ys) (IsPermutation-cons _ _ _ h)

-- one evaluation's stops and then another's
joined_on : (s0 s1 s2 a b all : List Stopped) → IsPermutation (s0 ++ a) s1 → IsPermutation (s1 ++ b) s2 → IsPermutation (a ++ b) all → IsPermutation (s0 ++ all) s2
joined_on s0 s1 s2 a b all first second both =
    let on = rw append_assoc at (IsPermutation-append_left b _ _ first) in
    IsPermutation-trans _ _ _ (IsPermutation-append_right s0 _ _ (IsPermutation-sym _ _ both)) (IsPermutation-trans _ _ _ on second)

module _ {A B : Type 0} (g : ℕ → Outcome ℕ A) (k : ℕ → A → Outcome ℕ B) where
  abbrev whole_vector : ℕ → Outcome ℕ B
  whole_vector p = g p >>= k p

  given_through : (ps : List ℕ) → given_in whole_vector (given_in g ps) ≡ given_in whole_vector ps
  given_through [] = refl
  given_through (p ∷ ps) = grind (arith, given_through ps)

  joined_through : (ps : List ℕ) → IsPermutation (stops_in g ps ++ stops_in whole_vector (given_in g ps)) (stops_in whole_vector ps)
  joined_through [] = IsPermutation-refl []
  joined_through (p ∷ ps) = grind (arith, stop_moved, IsPermutation-cons, joined_through ps)

-- ---- evaluations

-- a place that is left was selected
pub come_from : {A : Type 0} (f : ℕ → Outcome ℕ A) (sel left : List ℕ) (number : ℕ → A) (s0 s1 : List Stopped) → HasCome f sel left number s0 s1 → (p : ℕ) → is_in p left ≡ true → is_in p sel ≡ true
come_from f sel left number s0 s1 e p h = filtered_in (λ q. is_given (f q)) p sel (subst (λ (l : List ℕ). is_in p l ≡ true) e.left_in h)

-- what is the same at each selected place comes to the same
pub come_alike : {A : Type 0} (f h : ℕ → Outcome ℕ A) (sel left : List ℕ) (number : ℕ → A) (stops more : List Stopped) → EachPlace sel (λ p. h p ≡ f p) → HasCome h sel left number stops more → HasCome f sel left number stops more
come_alike f h sel left number stops more same e = grind (arith, same_given, filtered_in, same_stops)

-- and is evaluated alike
pub alike : (f h : ℕ → Outcome ℕ ℤ) (sel left : List ℕ) (before after : List ℤ) (stops more : List Stopped) → EachPlace sel (λ p. h p ≡ f p) → Evaluated h sel left before after stops more
    → Evaluated f sel left before after stops more
alike f h sel left before after stops more same e = record { come = come_alike f h sel left (at_place after) stops more same e.come; others = e.others }

-- ---- nothing is evaluated

abbrev pub told : {A : Type 0} → (ℕ → A) → ℕ → Outcome ℕ A
told number p = Gives (number p)

module _ {A : Type 0} (number : ℕ → A) where
  nothing_stops : (sel : List ℕ) → stops_in (told number) sel ≡ []
  nothing_stops [] = refl
  nothing_stops (p ∷ sel) = nothing_stops sel

  all_given : (sel : List ℕ) → given_in (told number) sel ≡ sel
  all_given [] = refl
  all_given (p ∷ sel) = ap (λ l. p ∷ l) (all_given sel)

  -- what is told needs no evaluation
  pub come_told : (sel : List ℕ) (stops : List Stopped) → HasCome (told number) sel sel number stops stops
  come_told sel stops = grind (arith, all_given, nothing_stops, append-nil, IsPermutation-refl)

-- ---- one after the other

module _ {A : Type 0} (g : ℕ → Outcome ℕ A) (sel left last : List ℕ) (x : ℕ → A) (s0 s1 s2 : List Stopped) (first : HasCome g sel left x s0 s1) where
  -- with the places that the first left, and what it came to there, the second goes on
  pub come_on : {B : Type 0} (k : ℕ → A → Outcome ℕ B) (number : ℕ → B) → HasCome (λ p. k p (x p)) left last number s1 s2 → HasCome (λ p. g p >>= k p) sel last number s0 s2
  come_on k number second =
      let on : HasCome (whole_vector g k) left last number s1 s2 = come_alike (whole_vector g k) (λ p. k p (x p)) left last number s1 s2 (λ p h. ap (λ o. o >>= k p) (sym (first.values p h))) second in
      record {
        left_in = on.left_in ∙ ap (given_in (whole_vector g k)) first.left_in ∙ given_through g k sel;
        values = on.values;
        joined = joined_on s0 s1 s2 _ _ _ first.joined (rw first.left_in at on.joined) (joined_through g k sel);
      }

  -- the same where the first may have written to the lane too
  pub go_on : (k : ℕ → A → Outcome ℕ ℤ) (before middle after : List ℤ) → ((p : ℕ) → is_in p sel ≡ false → at_place middle p ≡ at_place before p) → Evaluated (λ p. k p (x p)) left last middle after s1 s2
      → Evaluated (λ p. g p >>= k p) sel last before after s0 s2
  go_on k before middle after kept second = record {
    come = come_on k (at_place after) second.come;
    others = λ p h. second.others p (subst (λ (l : List ℕ). is_in p l ≡ false) (sym first.left_in) (filtered_out (λ q. is_given (g q)) p sel h)) ∙ kept p h;
  }

-- one more argument
pub gathered_more : (a : ℕ → Outcome ℕ ℤ) (f : ℕ → Outcome ℕ (List ℤ)) (sel left last : List ℕ) (z : ℕ → ℤ) (numbers : ℕ → List ℤ) (s0 s1 s2 : List Stopped)
    → HasCome a sel left z s0 s1 → HasCome f left last numbers s1 s2 → HasCome (λ p. a p >>= λ x. f p >>= λ zs. Gives (x ∷ zs)) sel last (λ p. z p ∷ numbers p) s0 s2
gathered_more a f sel left last z numbers s0 s1 s2 first rest =
    come_on a sel left last z s0 s1 s2 first (λ p x. f p >>= λ zs. Gives (x ∷ zs)) (λ p. z p ∷ numbers p)
    (come_on f left last last numbers s1 s2 s2 rest (λ p zs. Gives (z p ∷ zs)) (λ p. z p ∷ numbers p) (come_told (λ p. z p ∷ numbers p) last s2))

-- ---- selections: rising places, the first of a block, and room for stops

-- what a filter keeps rises
pub rising_filter : (f : ℕ → Bool) (sel : List ℕ) → AreRising sel → AreRising (filter f sel)
rising_filter f [] h = h
rising_filter f (p ∷ sel) h = grind (arith, filtered_in, rising_filter f sel)

-- a place of a range is within it
within_range : (n a p : ℕ) → is_in p (range_with_len a n) ≡ true → (a ≤ p) × (p < a + n)
within_range zero a p h = cc h
within_range (suc n) a p h = grind (arith, eqb_tells, within_range n (a + 1) p)

rising_from : (n a : ℕ) → AreRising (range_with_len a n)
rising_from zero a = tt
rising_from (suc n) a = (λ q i. omega (arith, (within_range n (a + 1) q i).0), rising_from n (a + 1))

-- the first places of a block rise
pub rising_range : (n : ℕ) (sel : List ℕ) → sel ≡ range_with_len 0 n → AreRising sel
rising_range n sel first = subst (λ (l : List ℕ). AreRising l) (sym first) (rising_from n 0)

-- ---- a filter that drops nothing

pub filter_short : (f : ℕ → Bool) (sel : List ℕ) → length (filter f sel) ≤ length sel
filter_short f sel = omega (arith, length-filter f sel, count_by-le-length f sel)

pub filter_whole : (f : ℕ → Bool) (sel : List ℕ) → length (filter f sel) ≡ length sel → filter f sel ≡ sel
filter_whole f [] h = refl
filter_whole f (p ∷ sel) h = grind (arith, filter_short, filter_whole f sel)

-- where the test of the numbers passes, as many are left as there were
pub dense_left : (f : ℕ → Bool) (n m : ℕ) (old new : List ℕ) → take n old ≡ range_with_len 0 n → n ≤ length old → m ≤ length new → take m new ≡ filter f (take n old) → nat_eq m n ≡ true → take m new ≡ range_with_len 0 m
dense_left f n m old new first long room kept all = grind (arith, eqb_tells, length-take-le, filter_whole)

-- and what is left rises
pub rising_left : (f : ℕ → Bool) (sel left : List ℕ) → AreRising sel → left ≡ filter f sel → AreRising left
rising_left f sel left rising is = subst (λ (l : List ℕ). AreRising l) (sym is) (rising_filter f sel rising)

-- ---- Places of selections.

-- a place of the list is in it
pub is_in_at : (xs : List ℕ) (i d : ℕ) → i < length xs → is_in (get_or xs i d) xs ≡ true
is_in_at xs i d h = list_any_at (nat_eq (get_or xs i d)) xs i d h (eq-eqb (get_or xs i d) (get_or xs i d) refl)

-- a place that is in the list with one more is that one, or was in it
pub in_more : (p q : ℕ) (xs : List ℕ) → is_in p (xs ++ q ∷ []) ≡ true → (p ≡ q) ⊎ ((p ≢ q) × (is_in p xs ≡ true))
in_more p q xs h = grind (arith, eqb_tells, list_any-append, or_false)

-- a write at another place
pub kept_at : (lane : List ℤ) (p q : ℕ) (z : ℤ) → p ≢ q → at_place (set lane q z) p ≡ at_place lane p
kept_at lane p q z other = get_or-set_other lane q p z (pos 0) other

pub written_at : (lane : List ℤ) (q : ℕ) (z : ℤ) → q < length lane → at_place (set lane q z) q ≡ z
written_at lane q z inside = get_or-set_same lane q z (pos 0) inside

module _ (f : ℕ → Outcome ℕ ℤ) (lane : List ℤ) (q : ℕ) (z : ℤ) (inside : q < length lane) (here : f q ≡ Gives z) where
  -- what the lane holds of a place stays, whatever else is written of what places come to
  pub value_kept : (p : ℕ) → f p ≡ Gives (at_place lane p) → f p ≡ Gives (at_place (set lane q z) p)
  value_kept p h = grind (arith, eqb_tells, written_at, kept_at)

  -- one more value
  pub values_more : (xs : List ℕ) → EachPlace xs (λ p. f p ≡ Gives (at_place lane p)) → EachPlace (xs ++ q ∷ []) (λ p. f p ≡ Gives (at_place (set lane q z) p))
  values_more xs each p h = grind (arith, in_more, value_kept, written_at)

-- ---- Selections of the first places of a block: the places

range_more : (a n : ℕ) → range_with_len a (n + 1) ≡ range_with_len a n ++ (a + n) ∷ []
range_more a zero = let same : a ≡ a + 0 = omega arith in ap (λ m. m ∷ []) same
range_more a (suc n) =
    let longer : suc n + 1 ≡ suc (n + 1) = omega arith in
    let last : a + 1 + n ≡ a + suc n = omega arith in
    ap (range_with_len a) longer ∙ ap (λ l. a ∷ l) (range_more (a + 1) n ∙ ap (λ m. range_with_len (a + 1) n ++ m ∷ []) last)

-- one more place is numbered
pub number_more : (places : List ℕ) (i : ℕ) → take i places ≡ range_with_len 0 i → i < length places → take (i + 1) (set places i i) ≡ range_with_len 0 (i + 1)
number_more places i so_far inside = grind (arith, take_more_set, range_more)

pub first_in_range : (n p : ℕ) → p < n → is_in p (range_with_len 0 n) ≡ true
first_in_range n p h =
    let there : get_or (range_with_len 0 n) p 0 ≡ p = get_or-range_with_len 0 n p 0 h ∙ omega arith in
    let long : p < length (range_with_len 0 n) = omega (arith, length-range_with_len 0 n) in
    subst (λ (q : ℕ). is_in q (range_with_len 0 n) ≡ true) there (is_in_at (range_with_len 0 n) p 0 long)

pub below_range : (n p : ℕ) → is_in p (range_with_len 0 n) ≡ true → p < n
below_range n p h = omega (arith, (within_range n 0 p h).1)

pub outside_range : (n p : ℕ) → is_in p (range_with_len 0 n) ≡ false → n ≤ p
outside_range n p h = grind (arith, cases_lt, first_in_range)

-- ---- places that are covered

-- no place stops
pub covered : (f : ℕ → Outcome ℕ ℤ) (sel : List ℕ) (before after : List ℤ) (stops : List Stopped) → EachPlace sel (λ p. f p ≡ Gives (at_place after p)) → ((p : ℕ) → is_in p sel ≡ false → at_place after p ≡ at_place before p) → Evaluated f sel sel before after stops stops
covered f sel before after stops values others = record {
  come = come_alike f (told (at_place after)) sel sel (at_place after) stops stops (λ p h. sym (values p h)) (come_told (at_place after) sel stops);
  others = others;
}

-- one does: what was written until then is written over, or is of no place that is left
pub sifted_anew : (f : ℕ → Outcome ℕ ℤ) (sel given left : List ℕ) (before middle after : List ℤ) (stops more : List Stopped) → given ≡ sel → ((p : ℕ) → is_in p sel ≡ false → at_place middle p ≡ at_place before p) → Evaluated f given left middle after stops more
    → Evaluated f sel left before after stops more
sifted_anew f sel given left before middle after stops more same others e = grind arith

-- ---- what each place of such a selection has, the first have

pub dense_each : (n : ℕ) (sel : List ℕ) (P : ℕ → Type 0) → sel ≡ range_with_len 0 n → EachPlace sel P → (p : ℕ) → p < n → P p
dense_each n sel P dense each p h = each p (subst (λ (l : List ℕ). is_in p l ≡ true) (sym dense) (first_in_range n p h))

pub dense_long : (n bound : ℕ) (sel : List ℕ) → sel ≡ range_with_len 0 n → EachPlace sel (λ p. p < bound) → n ≤ bound
dense_long n bound sel dense inside =
    elim (cases_lt bound n) [
      | inl low ↦ let none : bound < bound = dense_each n sel (λ p. p < bound) dense inside bound low in absurd (omega arith)
      | inr high ↦ high
    ]

-- ---- A selection with room for its stops stays so.

-- each selected place is a stop or is left
each_once : {A : Type 0} (f : ℕ → Outcome ℕ A) (sel : List ℕ) → length (stops_in f sel) + length (given_in f sel) ≡ length sel
each_once f [] = refl
each_once f (p ∷ sel) = grind (arith, each_once f sel)

-- no place is lost
none_lost : {A : Type 0} (f : ℕ → Outcome ℕ A) (sel left : List ℕ) (number : ℕ → A) (stops more : List Stopped) → HasCome f sel left number stops more → length more + length left ≡ length stops + length sel
none_lost f sel left number stops more e =
    omega (arith, length_permutation _ _ e.joined, length-append stops (stops_in f sel), each_once f sel, ap (λ (l : List ℕ). length l) e.left_in)

-- what is left of a selection
pub selected_next : {A : Type 0} (f : ℕ → Outcome ℕ A) (size : ℕ) (sel left : List ℕ) (number : ℕ → A) (stops more : List Stopped) → IsSelected size sel stops → HasCome f sel left number stops more → IsSelected size left more
selected_next f size sel left number stops more ready come = record {
  small = ready.small;
  inside = λ p h. ready.inside p (come_from f sel left number stops more come p h);
  room = omega (arith, none_lost f sel left number stops more come, ready.room);
}

pub parts_of : (test : ℕ → Bool) (sel : List ℕ) → length (filter test sel) + length (filter (λ p. not (test p)) sel) ≡ length sel
parts_of test sel = length-filter_both test (λ p. not (test p)) (λ p. refl) sel

-- the part that passes a test
pub selected_part : (test : ℕ → Bool) (size : ℕ) (sel part : List ℕ) (stops : List Stopped) → IsSelected size sel stops → part ≡ filter test sel → IsSelected size part stops
selected_part test size sel part stops ready is = grind (arith, filtered_in, parts_of)

-- it, after the other part was evaluated
pub selected_other : (test : ℕ → Bool) (f : ℕ → Outcome ℕ ℤ) (size : ℕ) (sel part others left : List ℕ) (before after : List ℤ) (stops more : List Stopped)
    → IsSelected size sel stops → part ≡ filter test sel → others ≡ filter (λ p. not (test p)) sel → Evaluated f others left before after stops more → IsSelected size part more
selected_other test f size sel part others left before after stops more ready is are e = record {
  small = ready.small;
  inside = (selected_part test size sel part stops ready is).inside;
  room = omega (arith, parts_of test sel, ap (λ (l : List ℕ). length l) is, ap (λ (l : List ℕ). length l) are, none_lost f others left (at_place after) stops more e.come, ready.room);
}

-- ---- one more place, as a loop over a selection meets it, and loops that part one

-- what wasn't reached yet is as it was
pub at_rest : {X : Type 0} (ys xs : List X) (i : ℕ) (d : X) → drop i ys ≡ drop i xs → get_or ys i d ≡ get_or xs i d
at_rest ys xs i d e =
    let a : get_or (drop i ys) 0 d ≡ get_or ys i d = rw add-zero at (get_or-drop i ys 0 d) in
    let b : get_or (drop i xs) 0 d ≡ get_or xs i d = rw add-zero at (get_or-drop i xs 0 d) in
    sym a ∙ ap (λ l. get_or l 0 d) e ∙ b

pub stops_push : {A : Type 0} (f : ℕ → Outcome ℕ A) (xs : List ℕ) (p : ℕ) → stops_in f (xs ++ p ∷ []) ≡ stops_in f xs ++ with_stop p (f p) []
stops_push f [] p = refl
stops_push f (x ∷ xs) p = grind (arith, stops_push f xs p)

module _ (f : ℕ → Outcome ℕ ℤ) where
  -- a place that comes to a value is no stop
  pub stops_given : (xs : List ℕ) (i q : ℕ) (z : ℤ) → i < length xs → q ≡ get_or xs i q → f q ≡ Gives z → stops_in f (take (i + 1) xs) ≡ stops_in f (take i xs)
  stops_given xs i q z inside read here =
      ap (stops_in f) (take_more xs i q inside ∙ ap (λ n. take i xs ++ n ∷ []) (sym read)) ∙ stops_push f (take i xs) q ∙ ap (λ o. stops_in f (take i xs) ++ with_stop q o []) here ∙ append-nil (stops_in f (take i xs))

  -- any other is
  pub stops_more : (xs : List ℕ) (i q : ℕ) (s : ScalarStop) → i < length xs → q ≡ get_or xs i q → (let r : Result ℤ ScalarStop = Err s in answered_at r ≡ f q)
      → stops_in f (take (i + 1) xs) ≡ stops_in f (take i xs) ++ stopped q s ∷ []
  stops_more xs i q s inside read here =
      ap (stops_in f) (take_more xs i q inside ∙ ap (λ n. take i xs ++ n ∷ []) (sym read))
      ∙ stops_push f (take i xs) q ∙ ap (λ l. stops_in f (take i xs) ++ l) (stop_told s here)
    where
      stop_told : (s : ScalarStop) → (let r : Result ℤ ScalarStop = Err s in answered_at r ≡ f q) → with_stop q (f q) [] ≡ stopped q s ∷ []
      stop_told s e = grind arith

-- a place that is reached among the first of the selection is one of them
pub read_in : (xs ys : List ℕ) (count i d : ℕ) → drop i ys ≡ drop i xs → i < count → count ≤ length xs → is_in (get_or ys i d) (take count xs) ≡ true
read_in xs ys count i d rest low high =
    let there : get_or (take count xs) i d ≡ get_or ys i d = get_or-take count xs i d low ∙ sym (at_rest ys xs i d rest) in
    subst (λ (n : ℕ). is_in n (take count xs) ≡ true) there (is_in_at (take count xs) i d (subst (λ (n : ℕ). i < n) (sym (length-take-le count xs high)) low))

-- it stands there
pub read_of : (xs ys : List ℕ) (i q : ℕ) → drop i ys ≡ drop i xs → q ≡ get_or ys i q → q ≡ get_or xs i q
read_of xs ys i q rest read = read ∙ at_rest ys xs i q rest

-- ---- the loop

-- the first i of the selected places were seen to
pub record SiftedTo (f : ℕ → Outcome ℕ ℤ) (count : ℕ) (places0 places : List ℕ) (out0 out : List ℤ) (stops0 stops : List Stopped) (kept i : ℕ) : Type 0 where
  pub front : FiltersInPlace (λ p. is_given (f p)) places0 places kept i
  pub values : EachPlace (take kept places) (λ p. f p ≡ Gives (at_place out p))
  pub others : (p : ℕ) → is_in p (take count places0) ≡ false → at_place out p ≡ at_place out0 p
  pub added : stops ≡ stops0 ++ stops_in f (take i places0)
  pub bound : length stops + kept ≤ length stops0 + i

module _
    (f : ℕ → Outcome ℕ ℤ) (count : ℕ) (places0 places : List ℕ) (out0 out : List ℤ) (stops0 stops : List Stopped) (kept i q : ℕ) (so_far : SiftedTo f count places0 places out0 out stops0 stops kept i) (low : i < count)
    (high : count ≤ length places0) (read : q ≡ get_or places i q)
  where
    within : i < length places
    within = omega (arith, so_far.front.long)

    at_first : q ≡ get_or places0 i q
    at_first = read_of places0 places i q so_far.front.rest read

    selected : is_in q (take count places0) ≡ true
    selected = subst (λ (n : ℕ). is_in n (take count places0) ≡ true) (sym read) (read_in places0 places count i q so_far.front.rest low high)

    among : i < length places0
    among = omega arith

    pub sift_given : (z : ℤ) → f q ≡ Gives z → q < length out → SiftedTo f count places0 (set places kept q) out0 (set out q z) stops0 stops (kept + 1) (i + 1)
    sift_given z here inside = record {
      front = FiltersInPlace-more_set so_far.front within (ap is_given here) read;
      values = λ p h. values_more f out q z inside here (take kept places) so_far.values p (subst (λ (l : List ℕ). is_in p l ≡ true) (take_more_set places kept q (omega (arith, so_far.front.behind, within))) h);
      others = λ p h. kept_at out p q z (other_than p h) ∙ so_far.others p h;
      added = so_far.added ∙ ap (λ l. stops0 ++ l) (sym (stops_given f places0 i q z among at_first here));
      bound = omega (arith, so_far.bound);
    }
      where
        other_than : (p : ℕ) → is_in p (take count places0) ≡ false → p ≢ q
        other_than p h same = let both : true ≡ false = sym selected ∙ subst (λ (n : ℕ). is_in n (take count places0) ≡ false) same h in absurd (cc both)

    pub sift_stopped : (s : ScalarStop) → (let r : Result ℤ ScalarStop = Err s in answered_at r ≡ f q) → SiftedTo f count places0 places out0 out stops0 (stops ++ stopped q s ∷ []) kept (i + 1)
    sift_stopped s here = record {
      front = FiltersInPlace-more_no so_far.front within (is_stop s here) read;
      values = so_far.values;
      others = so_far.others;
      added = ap (λ l. l ++ stopped q s ∷ []) so_far.added ∙ append_assoc stops0 (stops_in f (take i places0)) (stopped q s ∷ []) ∙ ap (λ l. stops0 ++ l) (sym (stops_more f places0 i q s among at_first here));
      bound = omega (arith, so_far.bound, length-append stops (stopped q s ∷ []));
    }
      where
        is_stop : (s : ScalarStop) → (let r : Result ℤ ScalarStop = Err s in answered_at r ≡ f q) → is_given (f q) ≡ false
        is_stop s e = grind arith

-- all were
pub sifted : (f : ℕ → Outcome ℕ ℤ) (count : ℕ) (places0 places : List ℕ) (out0 out : List ℤ) (stops0 stops : List Stopped) (kept i : ℕ) → SiftedTo f count places0 places out0 out stops0 stops kept i → i ≡ count
    → Evaluated f (take count places0) (take kept places) out0 out stops0 stops
sifted f count places0 places out0 out stops0 stops kept i so_far all = record {
  come = record {
    left_in = so_far.front.front ∙ ap (λ n. given_in f (take n places0)) all;
    values = so_far.values;
    joined = rw (so_far.added ∙ ap (λ n. stops0 ++ stops_in f (take n places0)) all) (IsPermutation-refl _);
  };
  others = so_far.others;
}

-- ---- Loops that part a selection, mark its places and keep those that are marked: marking

marked_by : (b same mark before : Bool) → (if b || same then mark else before) ≡ (if same then mark else (if b then mark else before))
marked_by b same mark before = grind arith

pub mark_more : (xs : List ℕ) (i q : ℕ) (mark : Bool) (before marks : List Bool) → ((p : ℕ) → is_marked marks p ≡ (if is_in p (take i xs) then mark else is_marked before p)) → i < length xs → q ≡ get_or xs i 0 → q < length marks
    → (p : ℕ) → is_marked (set marks q mark) p ≡ (if is_in p (take (i + 1) xs) then mark else is_marked before p)
mark_more xs i q mark before marks so_far inside read room p =
    written p ∙ sym (marked_by (is_in p (take i xs)) (nat_eq p q) mark (is_marked before p)) ∙ ap (λ b. if b then mark else is_marked before p) (sym (list_any_more (nat_eq p) xs i 0 inside ∙ ap (λ n. is_in p (take i xs) || nat_eq p n) (sym read)))
  where
    written : (p : ℕ) → is_marked (set marks q mark) p ≡ (if nat_eq p q then mark else (if is_in p (take i xs) then mark else is_marked before p))
    written p = grind (arith, eqb_tells, get_or-set_same, get_or-set_other, so_far p)

-- ---- coming together

-- tests that answer alike at each place keep alike
pub filter_alike : (one two : ℕ → Bool) (xs : List ℕ) → EachPlace xs (λ p. one p ≡ two p) → filter one xs ≡ filter two xs
filter_alike one two [] h = refl
filter_alike one two (x ∷ xs) h =
    ap (λ b. cond b (x ∷ filter one xs) (filter one xs)) (h x (first_in x xs)) ∙ ap (λ l. cond (two x) (x ∷ l) l) (filter_alike one two xs (λ q i. h q (rest_in q x xs i)))

-- the marks after the selection was marked and then its two sides were unmarked
pub rejoined : (sel zeros others : List ℕ) (m0 m1 m2 m3 : List Bool) → ((p : ℕ) → is_marked m1 p ≡ (if is_in p sel then true else is_marked m0 p)) → ((p : ℕ) → is_marked m2 p ≡ (if is_in p zeros then false else is_marked m1 p))
    → ((p : ℕ) → is_marked m3 p ≡ (if is_in p others then false else is_marked m2 p)) → filter (λ p. not (is_marked m3 p)) sel ≡ filter (λ p. is_in p others || is_in p zeros) sel
rejoined sel zeros others m0 m1 m2 m3 marked first second = grind (arith, filter_alike)

-- the same of selections as they are seen
pub rejoined_as : (kept sel zeros others sel1 zeros1 others1 : List ℕ) → sel ≡ sel1 → zeros ≡ zeros1 → others ≡ others1 → kept ≡ filter (λ p. is_in p others || is_in p zeros) sel → kept ≡ filter (λ p. is_in p others1 || is_in p zeros1) sel1
rejoined_as kept sel zeros others sel1 zeros1 others1 same_sel same_zeros same_others is = rw (← same_sel, ← same_zeros, ← same_others) is

-- ---- sides at hand

pub at_hand : (size : ℕ) (f : ℕ → Outcome ℕ ℤ) (side : Side) (sel : List ℕ) (stops : List Stopped) → IsAtHand size f side → EachPlace sel (λ p. p < size) → HasCome f sel sel (side_number side) stops stops
at_hand size f side sel stops hand inside = come_alike f (told (side_number side)) sel sel (side_number side) stops stops (λ p h. sym (hand p (inside p h)).1) (come_told (side_number side) sel stops)

pub has_at_hand : (size : ℕ) (f : ℕ → Outcome ℕ ℤ) (side : Side) (sel : List ℕ) → IsAtHand size f side → EachPlace sel (λ p. p < size) → EachPlace sel (HasNumber side)
has_at_hand size f side sel hand inside p h = (hand p (inside p h)).0

-- ---- operators

both_taken : (o : BinOp) (l r : Outcome ℕ ℤ) → is_decider o ≡ false → (l >>= λ x. r >>= λ y. number_operation o x y) ≡ lane_operation o l r
both_taken o l r h = grind arith

pub operated : (o : BinOp) (f g : ℕ → Outcome ℕ ℤ) (sel left right last : List ℕ) (x y : ℕ → ℤ) (before after : List ℤ) (s0 s1 s2 s3 : List Stopped) → is_decider o ≡ false → HasCome f sel left x s0 s1 → HasCome g left right y s1 s2
    → Evaluated (λ p. number_operation o (x p) (y p)) right last before after s2 s3 → Evaluated (λ p. lane_operation o (f p) (g p)) sel last before after s0 s3
operated o f g sel left right last x y before after s0 s1 s2 s3 plain first second third =
    alike (λ p. lane_operation o (f p) (g p)) (λ p. f p >>= λ x. g p >>= λ y. number_operation o x y) sel last before after s0 s3 (λ p h. both_taken o (f p) (g p) plain)
    (go_on f sel left last x s0 s1 s3 first (λ p a. g p >>= λ b. number_operation o a b) before before after (λ p h. refl)
    (go_on g left right last y s1 s2 s3 second (λ p b. number_operation o (x p) b) before before after (λ p h. refl) third))

-- the other sign is a difference from 0
negative : (z : ℤ) → (pos 0 -ℤ z) ≡ neg_ℤ z
negative z = omega (arith, ints)

-- an operator with two sides in place of one
pub same_depth : (e : NumTree) → depth (with_zero e) ≡ depth e
same_depth e = grind arith

module _ {S : Type 0} (IsNumbers IsTold : S → ℕ → Type 0) (functions : S → List Function) (s : S) (levels : ℕ) where
  able_with_zero : (e : NumTree) → IsAble IsNumbers IsTold functions s levels e → IsAble IsNumbers IsTold functions s levels (with_zero e)
  able_with_zero e x = grind arith

  pub able_sides : (e sides : NumTree) → sides ≡ with_zero e → IsAble IsNumbers IsTold functions s levels e → IsAble IsNumbers IsTold functions s levels sides
  able_sides e sides is x = subst (λ (t : NumTree). IsAble IsNumbers IsTold functions s levels t) (sym is) (able_with_zero e x)

-- how many levels of scratch a side of a choice takes
abbrev pub branch_depth : Branch → ℕ
branch_depth (Node e) = depth (num_tree e.now)
branch_depth Same = 0

-- ---- operators of one side, and calls

module _ {S : Type 0} (look : S → ℕ → ℕ → Outcome ℕ Value) (functions : S → List Function) (s : S) (sel left : List ℕ) (before after : List ℤ) (stops more : List Stopped) where
  same_with_zero : (e : NumTree) (p : ℕ) → lane_at look functions s (with_zero e) p ≡ lane_at look functions s e p
  same_with_zero (Neg a) p = grind (arith, negative)
  same_with_zero (Not a) p = grind arith
  same_with_zero e p = refl

  pub with_sides : (e sides : NumTree) → sides ≡ with_zero e → Evaluated (lane_at look functions s sides) sel left before after stops more → Evaluated (lane_at look functions s e) sel left before after stops more
  with_sides e sides is done = alike (lane_at look functions s e) (lane_at look functions s sides) sel left before after stops more (λ p h. ap (λ t. lane_at look functions s t p) is ∙ same_with_zero e p) done

  -- a call that is no fold
  pub called : (f : Callee) (args : Trees ℕ Callee) → fold_read f args ≡ None → Evaluated (called_at look functions s f args) sel left before after stops more → Evaluated (lane_at look functions s (Call f args)) sel left before after stops more
  called f args none e = grind (arith, alike)

-- ---- What is known of a lane's numbers, said of values.

given_alike : (o : Outcome ℕ Value) → is_given (lane_outcome o) ≡ is_given o
given_alike o = grind arith

-- what a lane holds of numbers it holds of values
pub by_value : (f : ℕ → Outcome ℕ Value) (g : ℕ → Outcome ℕ ℤ) (k : ColType) (sel left : List ℕ) (before after : List ℤ) (stops more : List Stopped) → EachPlace sel (λ p. g p ≡ lane_outcome (f p))
    → EachPlace sel (λ p. (z : ℤ) → g p ≡ Gives z → f p ≡ Gives (lane_value k z)) → Evaluated g sel left before after stops more → HasValues k f sel left before after stops more
by_value f g k sel left before after stops more same read e = grind (arith, filtered_in, same_given, given_alike, same_stops)

-- ---- Evaluations of which each place takes one of two: nothing is done

abbrev pub held : List ℤ → ℕ → Outcome ℕ ℤ
held lane p = Gives (at_place lane p)

-- what a lane holds is its own outcome
pub idle : (lane : List ℤ) (sel : List ℕ) (stops : List Stopped) → Evaluated (held lane) sel sel lane lane stops stops
idle lane sel stops = record { come = come_told (at_place lane) sel stops; others = λ p h. refl }

-- ---- two parts of a selection

module _ (test : ℕ → Bool) (one two : ℕ → Outcome ℕ ℤ) where
  -- the first where the test fails, and the second where it holds
  abbrev chosen : ℕ → Outcome ℕ ℤ
  chosen p = if test p then two p else one p

  parted_stops : (sel : List ℕ) → IsPermutation (stops_in one (filter (λ p. not (test p)) sel) ++ stops_in two (filter test sel)) (stops_in chosen sel)
  parted_stops [] = IsPermutation-refl []
  parted_stops (p ∷ sel) = grind (arith, stop_moved, IsPermutation-cons, parted_stops sel)

  -- of the place itself
  has_side : (b : Bool) (g h : Outcome ℕ ℤ) → (((true && not b) && is_given h) || ((true && b) && is_given g)) ≡ is_given (if b then g else h)
  has_side b g h = grind (arith, or_false)

  module _
      (sel ones twos last : List ℕ) (o1 o2 o3 : List ℤ) (s1 s2 s3 : List Stopped) (first : Evaluated one (filter (λ p. not (test p)) sel) ones o1 o2 s1 s2) (second : Evaluated two (filter test sel) twos o2 o3 s2 s3)
      (joined : last ≡ filter (λ p. is_in p ones || is_in p twos) sel)
    where
      in_ones : (p : ℕ) → is_in p ones ≡ ((is_in p sel && not (test p)) && is_given (one p))
      in_ones p = ap (λ l. is_in p l) first.come.left_in ∙ in_filter (λ q. is_given (one q)) p (filter (λ q. not (test q)) sel) ∙ ap (λ b. b && is_given (one p)) (in_filter (λ q. not (test q)) p sel)

      in_twos : (p : ℕ) → is_in p twos ≡ ((is_in p sel && test p) && is_given (two p))
      in_twos p = ap (λ l. is_in p l) second.come.left_in ∙ in_filter (λ q. is_given (two q)) p (filter test sel) ∙ ap (λ b. b && is_given (two p)) (in_filter test p sel)

      in_either : (p : ℕ) → is_in p sel ≡ true → (is_in p ones || is_in p twos) ≡ is_given (chosen p)
      in_either p h = grind (arith, in_ones, in_twos, has_side)

      as_left : last ≡ given_in chosen sel
      as_left = joined ∙ filter_alike (λ p. is_in p ones || is_in p twos) (λ p. is_given (chosen p)) sel in_either

      side_value : (p : ℕ) (b : Bool) → test p ≡ b → is_in p sel ≡ true → is_given (if b then two p else one p) ≡ true → (if b then two p else one p) ≡ Gives (at_place o3 p)
      side_value p b is h given = grind (arith, in_twos, in_filter, and_false, in_ones)

      left_here : (p : ℕ) → is_in p last ≡ true → (is_in p sel && is_given (chosen p)) ≡ true
      left_here p h = sym (in_filter (λ q. is_given (chosen q)) p sel) ∙ ap (λ l. is_in p l) (sym as_left) ∙ h

      pub parted : Evaluated chosen sel last o1 o3 s1 s3
      parted = record {
        come = record {
          left_in = as_left;
          values = λ p h. side_value p (test p) refl (and_left (is_in p sel) (is_given (chosen p)) (left_here p h)) (and_right (is_in p sel) (is_given (chosen p)) (left_here p h));
          joined = joined_on s1 s2 s3 _ _ _ first.come.joined second.come.joined (parted_stops sel);
        };
        others = λ p h. second.others p (filtered_out test p sel h) ∙ first.others p (filtered_out (λ q. not (test q)) p sel h);
      }

-- ---- choices

module _
    (c : ℕ → Outcome ℕ ℤ) (sel left zeros others : List ℕ) (o0 o1 : List ℤ) (s0 s1 : List Stopped) (first : Evaluated c sel left o0 o1 s0 s1) (no_zeros : others ≡ filter (λ p. not (is_zero (at_place o1 p))) left)
    (all_zeros : zeros ≡ filter (λ p. is_zero (at_place o1 p)) left) (a b : ℤ → ℕ → Outcome ℕ ℤ) (others1 zeros1 last : List ℕ) (o2 o3 : List ℤ) (s2 s3 : List Stopped)
  where
    abbrev zero_at : ℕ → Bool
    zero_at p = is_zero (at_place o1 p)

    -- where the condition is 0 the lane still holds that
    untouched : Evaluated (λ p. a (at_place o1 p) p) (filter (λ p. not (zero_at p)) left) others1 o1 o2 s1 s2 → EachPlace (filter zero_at left) (λ p. b (at_place o2 p) p ≡ b (at_place o1 p) p)
    untouched second = grind (arith, and_right, in_filter, and_false)

    -- each side may take the number that the condition came to
    pub choice : Evaluated (λ p. a (at_place o1 p) p) others others1 o1 o2 s1 s2 → Evaluated (λ p. b (at_place o2 p) p) zeros zeros1 o2 o3 s2 s3 → last ≡ filter (λ p. is_in p others1 || is_in p zeros1) left
        → Evaluated (λ p. c p >>= λ x. if is_zero x then b x p else a x p) sel last o0 o3 s0 s3
    choice second third joined =
        let two = subst (λ (l : List ℕ). Evaluated (λ p. a (at_place o1 p) p) l others1 o1 o2 s1 s2) no_zeros second in
        let three = subst (λ (l : List ℕ). Evaluated (λ p. b (at_place o2 p) p) l zeros1 o2 o3 s2 s3) all_zeros third in
        let still = alike (λ p. b (at_place o1 p) p) (λ p. b (at_place o2 p) p) (filter zero_at left) zeros1 o2 o3 s2 s3 (untouched two) three in
        go_on c sel left last (at_place o1) s0 s1 s3 first.come (λ p x. if is_zero x then b x p else a x p) o0 o1 o3 first.others
        (parted zero_at (λ p. a (at_place o1 p) p) (λ p. b (at_place o1 p) p) left others1 zeros1 last o1 o2 o3 s1 s2 s3 two still joined)

-- Sides of a choice that kept all their places
pub filter_all : (test : ℕ → Bool) (xs : List ℕ) → EachPlace xs (λ p. test p ≡ true) → filter test xs ≡ xs
filter_all test [] h = refl
filter_all test (x ∷ xs) h =
    ap (λ b. cond b (x ∷ filter test xs) (filter test xs)) (h x (first_in x xs)) ∙ ap (λ l. x ∷ l) (filter_all test xs (λ p i. h p (rest_in p x xs i)))

-- ---- parts

-- what is left of a selection: where it is as long, it is the same
pub record IsRest (all rest : List ℕ) : Type 0 where
  pub few : length rest ≤ length all
  pub same : length rest ≡ length all → rest ≡ all

pub rest_left : (f : ℕ → Outcome ℕ ℤ) (sel left : List ℕ) (number : ℕ → ℤ) (stops more : List Stopped) → HasCome f sel left number stops more → IsRest sel left
rest_left f sel left number stops more e = record {
  few = omega (arith, ap (λ (l : List ℕ). length l) e.left_in, filter_short (λ p. is_given (f p)) sel);
  same = λ h. e.left_in ∙ filter_whole (λ p. is_given (f p)) sel (ap (λ (l : List ℕ). length l) (sym e.left_in) ∙ h);
}

-- where both parts of a selection kept all their places, it is the places that either has
pub whole : (test : ℕ → Bool) (sel zeros others zeros1 others1 : List ℕ) → zeros ≡ filter test sel → others ≡ filter (λ p. not (test p)) sel → IsRest zeros zeros1 → IsRest others others1 → length zeros1 + length others1 ≡ length sel
    → sel ≡ filter (λ p. is_in p others1 || is_in p zeros1) sel
whole test sel zeros others zeros1 others1 are rest zeros_left others_left all = grind (arith, filter_all, filter, in_filter, parts_of)
