-- A lane before and after an evaluation.
use Rattle.lemmas.proofs.{◌≡◌, ◌++◌, ℤ, suc, List, [], ◌∷◌, length, drop, add-one, map, All, ◌∙◌, refl, ap, arith, ◌<◌, ◌≤◌, ◌+◌, ◌⊎◌, inl, inr, not, ℕ, Bool, true, false, get_or, take, sym, subst, append_assoc, cond, ◌||◌, ◌&&◌, Option, Some, None, nat_eq, nat_lt, count_by, zero, set, if◌then◌else◌, length-set, IsPermutation, nat_le, Result, OnErr, Contains, get_or-set_same, get_or-set_other, filter, take_more, and_right, Decides-eqb, length-filter, lt-ltb, not-true, left_false, false_from_ne_true, or_from, right_false, take-append_seam, drop-append_seam, eqb_tells, sum_by-cons, sum_by-set, sum_by_more, get_or-range_with_len, length-range_with_len, range_with_len, All-push, All-set, AllWithin, AllWithin-more_set, map-set_same, map_next, IsPermutation-refl, All-cons, All-contains, All-nil, All-permutation, Contains-append_left, Contains-append_right, Contains-permutation, Contains-push, leb-false, leb-true, cases_eq, cases_lt, get_or_past}
use Rattle.std.proofs.lemmas.List.{take-append-le, drop-append-le, length-append, length-drop, map-append, take_all, get_or_append_left}
use Rattle.block_cache.specs.{AreKept, AreThere, cells_in, AreWritten, HasNumber, HasNumbered, HaveCome, IsNumberOf, IsTurned, IsWritten, value_for, below_fault, fault_before, fault_over, is_below, IsFaultOf, PlaceFault, is_held, IsBegun, IsBegunAt, IsEvaluated, IsLane, IsUnknown, LaneView, room_of, AreWrittenMarks, IsBare, marked_to, marks_of, MarksView, AreUnknown, HaveRoom, IsSameLane, kinds_of, rooms_of, fault_at, fault_of, IsLeastFault, IsNotBelow, lesser_fault, need_at, noted_at, noted_in}
use Rattle.block_cache.specs.declared.vectors.CellRange.{CellRange}
use Rattle.rdf_values.specs.{ColType, FitsKind, Value, EntryFault}
use Rattle.rdf_model.specs.{is_set, mark, Outcome, Gives, Faults, Needs}
use Rattle.expr_check.specs.{is_vector}
use Rattle.expr_lanes.specs.{at_place, EachPlace, given_in, is_given, is_in, is_marked, lane_number, Stopped, stops_in, with_stop, AreRising, IsSelected, HasValues, lane_outcome, lane_value, stopped}
use Rattle.expr_lanes.proofs.Composed.{in_more, is_in_at, first_in, rest_in, stops_push, filter_alike, filtered_in, in_filter, filtered_out, filter_short, mark_more, rising_range}
use Rattle.expr_lanes.specs.declared.TheConstants.{MAX_PLACES}
use Rattle.block_cache.specs.declared.block_marks.Extent.{Extent}
use Rattle.expr_eval.specs.{ScalarStop}
use Rattle.expr_eval.specs.declared.stop.ScalarStop.TheVariants.{Fault, Need}

-- ---- vectors that are appended, with their cells behind those that there were

same_cells : (all more : List ℤ) (c : CellRange) → AreThere all c → cells_in (all ++ more) c ≡ cells_in all c
same_cells all more c there = grind (arith, drop-append-le, take-append-le, length-drop)

-- those that there were
pub grown : (ranges : List CellRange) (all more : List ℤ) → All (AreThere all) ranges → map (cells_in (all ++ more)) ranges ≡ map (cells_in all) ranges
grown [] all more each = refl
grown (c ∷ ranges) all more each =
    ap (λ x. x ∷ map (cells_in (all ++ more)) ranges) (same_cells all more c (each 0 c (omega arith))) ∙ ap (λ xs. cells_in all c ∷ xs) (grown ranges all more (λ k d low. each (suc k) d (omega (arith, low))))

own_cells : (all more : List ℤ) (c : CellRange) → c.from ≡ length all → c.to ≡ length (all ++ more) → cells_in (all ++ more) c ≡ more
own_cells all more c from to = grind (arith, drop-append_seam, take_all, length-append)

-- and one more
pub pushed : (ranges : List CellRange) (all more : List ℤ) (c : CellRange) → All (AreThere all) ranges → c.from ≡ length all → c.to ≡ length (all ++ more) → map (cells_in (all ++ more)) (ranges ++ c ∷ []) ≡ map (cells_in all) ranges ++ more ∷ []
pushed ranges all more c each from to = grind (arith, map-append, grown, own_cells)

-- a vector more loses none
pub kept_more : (vectors after : List (List ℤ)) (x : List ℤ) → after ≡ vectors ++ x ∷ [] → AreKept vectors after
kept_more vectors after x is i low = rw is (omega (arith, low, length-append vectors (x ∷ [])), get_or_append_left vectors (x ∷ []) [] i low)

pub kept_all : (vectors after : List (List ℤ)) → after ≡ vectors → AreKept vectors after
kept_all vectors after is i low = rw is (low, refl)

pub kept_on : (a b c : List (List ℤ)) → AreKept a b → AreKept b c → AreKept a c
kept_on a b c one two i low = let h = one i low in let k = two i h.0 in (k.0, k.1 ∙ h.1)

-- ---- one place after another: the number of a value

set_mark : (b : Bool) → is_set (mark b) ≡ b
set_mark b = grind arith

-- is read back as the value
pub read_back : (k : ColType) (vectors : List (List ℤ)) (v : Value) (z : ℤ) → FitsKind k v → IsNumberOf vectors v z → value_for k vectors z ≡ v
read_back k vectors v z h is = grind (arith, set_mark)

pub is_there : (k : ColType) (vectors : List (List ℤ)) (v : Value) (z : ℤ) → FitsKind k v → IsNumberOf vectors v z → HasNumbered k vectors z
is_there k vectors v z h is = grind arith

pub number_read : (k : ColType) (vectors : List (List ℤ)) (v : Value) (z : ℤ) → is_vector k ≡ false → FitsKind k v → IsNumberOf vectors v z → lane_number v ≡ z
number_read k vectors v z scalar h is = grind arith

-- among more vectors it is the same
number_more : (vectors more : List (List ℤ)) (v : Value) (z : ℤ) → AreKept vectors more → IsNumberOf vectors v z → IsNumberOf more v z
number_more vectors more v z kept is = grind arith

pub value_more : (k : ColType) (vectors more : List (List ℤ)) (z : ℤ) → AreKept vectors more → HasNumbered k vectors z → value_for k more z ≡ value_for k vectors z
value_more k vectors more z kept there = grind arith

pub there_more : (k : ColType) (vectors more : List (List ℤ)) (z : ℤ) → AreKept vectors more → HasNumbered k vectors z → HasNumbered k more z
there_more k vectors more z kept there = grind arith

one_stop : (o : Outcome ℕ Value) (q : ℕ) → length (with_stop q o []) ≤ 1
one_stop o q = grind arith

-- ---- the loop

-- the first so many places were seen to
pub record AreTurnedTo (k : ColType) (f : ℕ → Outcome ℕ Value) (places : List ℕ) (numbers0 numbers : List ℤ) (vectors0 vectors : List (List ℤ)) (marks0 marks : List Bool) (stops0 stops : List Stopped) (i : ℕ) : Type 0 where
  pub written : AreWritten places numbers0 numbers vectors0 vectors
  pub many : length marks ≡ length marks0
  pub come : HaveCome k f (take i places) numbers vectors marks stops0 stops

-- what was written at one of the places
pub written_on : (places : List ℕ) (numbers0 numbers after : List ℤ) (vectors0 vectors more : List (List ℤ)) (q : ℕ) → is_in q places ≡ true → AreWritten places numbers0 numbers vectors0 vectors → IsWritten q numbers after vectors more → AreWritten places numbers0 after vectors0 more
written_on places numbers0 numbers after vectors0 vectors more q among so_far w = grind (arith, kept_on)

-- one more
pub turned_more : (k : ColType) (f : ℕ → Outcome ℕ Value) (places : List ℕ) (numbers0 numbers after : List ℤ) (vectors0 vectors more : List (List ℤ)) (marks0 marks marked : List Bool) (stops0 stops stops1 : List Stopped) (i q : ℕ)
    → AreTurnedTo k f places numbers0 numbers vectors0 vectors marks0 marks stops0 stops i → i < length places → q ≡ get_or places i q → IsWritten q numbers after vectors more → IsTurned k (f q) q after more marks marked stops stops1
    → AreTurnedTo k f places numbers0 after vectors0 more marks0 marked stops0 stops1 (i + 1)
turned_more k f places numbers0 numbers after vectors0 vectors more marks0 marks marked stops0 stops stops1 i q so_far inside read w t = record {
  written = written_on places numbers0 numbers after vectors0 vectors more q (subst (λ (n : ℕ). is_in n places ≡ true) (sym read) (is_in_at places i q inside)) so_far.written w;
  many = t.long ∙ so_far.many;
  come = record {
    values = λ p h. values p (in_more p q (take i places) (seen p h));
    marked = λ p h. marks_at p (in_more p q (take i places) (seen p h));
    stopped = t.stopped ∙ ap (λ l. l ++ with_stop q (f q) []) so_far.come.stopped ∙ append_assoc stops0 (stops_in f (take i places)) (with_stop q (f q) []) ∙ ap (λ l. stops0 ++ l) (sym (ap (stops_in f) one ∙ stops_push f (take i places) q));
    few = omega (arith, so_far.come.few, ap length t.stopped, length-append stops (with_stop q (f q) []), one_stop (f q) q, ap length one, length-append (take i places) (q ∷ []));
  };
}
  where
    one : take (i + 1) places ≡ take i places ++ q ∷ []
    one = take_more places i q inside ∙ ap (λ n. take i places ++ n ∷ []) (sym read)

    seen : (p : ℕ) → is_in p (take (i + 1) places) ≡ true → is_in p (take i places ++ q ∷ []) ≡ true
    seen p h = subst (λ (l : List ℕ). is_in p l ≡ true) one h

    values : (p : ℕ) → (p ≡ q) ⊎ ((p ≡ q → ⊥) × (is_in p (take i places) ≡ true)) → is_given (f p) ≡ true → HasNumber k (f p) more (at_place after p)
    values p h g = grind arith

    marks_at : (p : ℕ) → (p ≡ q) ⊎ ((p ≡ q → ⊥) × (is_in p (take i places) ≡ true)) → is_marked marked p ≡ not (is_given (f p))
    marks_at p (inl e) = subst (λ (n : ℕ). is_marked marked n ≡ not (is_given (f n))) (sym e) t.mark
    marks_at p (inr n) = t.others p n.0 ∙ so_far.come.marked p n.1

-- ---- what is left of a selection

pub twice_not : (b : Bool) → not (not b) ≡ b
twice_not b = grind arith

pub left_given : (f : ℕ → Outcome ℕ Value) (marks : List Bool) (sel : List ℕ) → EachPlace sel (λ p. is_marked marks p ≡ not (is_given (f p))) → filter (λ p. not (is_marked marks p)) sel ≡ given_in f sel
left_given f marks sel each = filter_alike _ _ sel (λ p i. ap not (each p i) ∙ twice_not (is_given (f p)))

-- ---- places of selections that a test keeps, and the first fault among them: filters

pub filter_in : (xs : List ℕ) (f : ℕ → Bool) (p : ℕ) → is_in p xs ≡ true → f p ≡ true → is_in p (filter f xs) ≡ true
filter_in xs f p among passes = in_filter f p xs ∙ ap (λ b. b && f p) among ∙ passes

pub filter_passes : (xs : List ℕ) (f : ℕ → Bool) (p : ℕ) → is_in p (filter f xs) ≡ true → f p ≡ true
filter_passes xs f p among = and_right (is_in p xs) (f p) (sym (in_filter f p xs) ∙ among)

-- ---- places below a fault

pub below_in : (fault : Option PlaceFault) (sel : List ℕ) (p : ℕ) → is_in p sel ≡ true → is_below fault p ≡ true → is_in p (below_fault fault sel) ≡ true
below_in fault sel p among low = grind (arith, filter_in)

pub below_among : (fault : Option PlaceFault) (sel : List ℕ) (p : ℕ) → is_in p (below_fault fault sel) ≡ true → is_in p sel ≡ true
below_among fault sel p h = grind (arith, filtered_in)

pub below_low : (fault : Option PlaceFault) (sel : List ℕ) (p : ℕ) → is_in p (below_fault fault sel) ≡ true → is_below fault p ≡ true
below_low fault sel p h = grind (arith, filter_passes)

pub below_short : (fault : Option PlaceFault) (sel : List ℕ) → length (below_fault fault sel) ≤ length sel
below_short fault sel = grind (arith, filter_short)

-- what a test or a fault leaves of a selection
pub filter_selected : {count : ℕ} (f : ℕ → Bool) {sel left : List ℕ} → IsSelected count sel [] → left ≡ filter f sel → IsSelected count left []
filter_selected f selected is = grind (arith, filtered_in, filter_short)

pub below_selected : {count : ℕ} (fault : Option PlaceFault) {sel left : List ℕ} → IsSelected count sel [] → left ≡ below_fault fault sel → IsSelected count left []
below_selected None selected is = rw is selected
below_selected (Some f) selected is = filter_selected (λ q. nat_lt q f.place) selected is

-- the places that are open: those below the fault at which the test fails
module _ (holds : ℕ → Bool) (fault : Option PlaceFault) (was : List ℕ) {now : List ℕ} (is : now ≡ below_fault fault (filter (λ p. not (holds p)) was)) where
  kept : EachPlace now (λ p. is_in p (filter (λ q. not (holds q)) was) ≡ true)
  kept p i = below_among fault (filter (λ q. not (holds q)) was) p (rw is at i)

  pub open_among : EachPlace now (λ p. is_in p was ≡ true)
  open_among p i = filtered_in (λ q. not (holds q)) p was (kept p i)

  pub open_low : EachPlace now (λ p. is_below fault p ≡ true)
  open_low p i = below_low fault (filter (λ q. not (holds q)) was) p (rw is at i)

  pub open_lacks : EachPlace now (λ p. holds p ≡ false)
  open_lacks p i = not-true (holds p) (filter_passes was (λ q. not (holds q)) p (kept p i))

  pub open_rest : (p : ℕ) → is_in p was ≡ true → is_below fault p ≡ true → holds p ≡ false → is_in p now ≡ true
  open_rest p i low none = rw is (below_in fault (filter (λ q. not (holds q)) was) p (filter_in was (λ q. not (holds q)) p i (ap not none)) low)

  pub open_few : length now ≤ length was
  open_few = let e = ap (λ (l : List ℕ). length l) is in omega (arith, e, below_short fault (filter (λ q. not (holds q)) was), filter_short (λ q. not (holds q)) was)

-- ---- the first fault

pub no_fault_over : (sel : List ℕ) (f : ℕ → Option EntryFault) → EachPlace sel (λ p. f p ≡ None) → fault_over f sel ≡ None
no_fault_over [] f none = refl
no_fault_over (p ∷ sel) f none = ap (λ o. fault_before p o (fault_over f sel)) (none p (first_in p sel)) ∙ no_fault_over sel f (λ q i. none q (rest_in q p sel i))

first_here : (p : ℕ) (sel : List ℕ) (f : ℕ → Option EntryFault) (x : PlaceFault) → f x.place ≡ Some x.kind → (b : Bool) → nat_eq x.place p ≡ b → (b || is_in x.place sel) ≡ true → (is_in x.place sel ≡ true → f p ≡ None) → (is_in x.place sel ≡ true → Some x ≡ fault_over f sel)
    → Some x ≡ fault_before p (f p) (fault_over f sel)
first_here p sel f x h b e k none rest = grind (arith, Decides-eqb)

first_over : (sel : List ℕ) (f : ℕ → Option EntryFault) (x : PlaceFault) → AreRising sel → is_in x.place sel ≡ true → f x.place ≡ Some x.kind → EachPlace sel (λ p. nat_lt p x.place ≡ true → f p ≡ None) → Some x ≡ fault_over f sel
first_over [] f x rising among at below = cc among
first_over (p ∷ sel) f x rising among at below =
    first_here p sel f x at (nat_eq x.place p) refl among (λ h. below p (first_in p sel) (lt-ltb p x.place (rising.0 x.place h))) (λ h. first_over sel f x rising.1 h at (λ q i. below q (rest_in q p sel i)))

-- a fault of one of the places below which none has one is the first
pub fault_first : (fault : Option PlaceFault) (sel : List ℕ) (f : ℕ → Option EntryFault) → AreRising sel → IsFaultOf f sel fault → EachPlace sel (λ p. is_below fault p ≡ true → f p ≡ None) → fault ≡ fault_over f sel
fault_first fault sel f rising is none = grind (arith, no_fault_over, first_over)

-- what is known of the first fault of a list
pub over_first : (sel : List ℕ) (f : ℕ → Option EntryFault) → IsFaultOf f sel (fault_over f sel)
over_first [] f = tt
over_first (p ∷ sel) f = grind (arith, rest_in, first_in, over_first sel f)

-- a filter by what holds of each place
pub filter_none : (f : ℕ → Bool) (sel : List ℕ) → EachPlace sel (λ p. f p ≡ false) → filter f sel ≡ []
filter_none f [] each = refl
filter_none f (p ∷ sel) each = ap (λ b. cond b (p ∷ filter f sel) (filter f sel)) (each p (first_in p sel)) ∙ filter_none f sel (λ q i. each q (rest_in q p sel i))

-- what a slice leaves in its vector
pub written : {A : Type 0} (n : ℕ) (new seen old : List A) → length new ≡ length seen → length seen ≡ n → take n (new ++ drop (length new) old) ≡ new
written n new seen old same many = grind (arith, take-append_seam)

-- ---- an evaluation

same_given : {y z : ℤ} → ◌≡◌ {A = Outcome ℕ ℤ} (Gives y) (Gives z) → y ≡ z
same_given e = cc e

-- what came to a value was selected
pub given_among : (f : ℕ → Outcome ℕ Value) (sel left : List ℕ) → left ≡ given_in f sel → (p : ℕ) → is_in p left ≡ true → is_in p sel ≡ true
given_among f sel left is p h = filtered_in (λ q. is_given (f q)) p sel (subst (λ (l : List ℕ). is_in p l ≡ true) is h)

abbrev lane_of : ColType → ℕ → List ℤ → List (List ℤ) → List Bool → List Bool → LaneView
lane_of k count numbers vectors tried held = record { kind = k; count = count; numbers = numbers; vectors = vectors; tried = tried; held = held }

module _
    {k : ColType} {count : ℕ} {numbers0 : List ℤ} {vectors0 : List (List ℤ)} {tried0 held0 : List Bool} {v : LaneView} (view_is : lane_of k count numbers0 vectors0 tried0 held0 ≡ v)
    (lane : IsLane (lane_of k count numbers0 vectors0 tried0 held0))
    {sel : List ℕ} (inside : EachPlace sel (λ p. p < v.count)) (unknown : EachPlace sel (λ p. is_held v p ≡ false)) (tried : List Bool) (tried_at : (p : ℕ) → is_marked tried p ≡ (is_in p sel || is_marked tried0 p))
    (long_tried : length tried ≡ length tried0)
    {numbers : List ℤ} {vectors : List (List ℤ)} (w : AreWritten sel numbers0 numbers vectors0 vectors)
  where
    not_selected : (p : ℕ) → is_marked held0 p ≡ true → is_in p sel ≡ false
    not_selected p was = false_from_ne_true (is_in p sel) (λ i. cc (was, ap (λ (l : LaneView). is_held l p) view_is, unknown p i))

    -- what was held is held as it was
    kept_value : (p : ℕ) → is_marked held0 p ≡ true → value_for k vectors (at_place numbers p) ≡ value_for k vectors0 (at_place numbers0 p)
    kept_value p was = ap (value_for k vectors) (w.others p (not_selected p was)) ∙ value_more k vectors0 vectors (at_place numbers0 p) w.kept (lane.there p was)

    kept_there : (p : ℕ) → is_marked held0 p ≡ true → HasNumbered k vectors (at_place numbers p)
    kept_there p was = subst (HasNumbered k vectors) (sym (w.others p (not_selected p was))) (there_more k vectors0 vectors (at_place numbers0 p) w.kept (lane.there p was))

    kept_exact : is_vector k ≡ false → (p : ℕ) → is_marked held0 p ≡ true → lane_number (value_for k vectors (at_place numbers p)) ≡ at_place numbers p
    kept_exact scalar p was = ap lane_number (kept_value p was) ∙ lane.exact scalar p was ∙ sym (w.others p (not_selected p was))

    behind : (p : ℕ) → count ≤ p → is_marked tried p ≡ false
    behind p far = grind (arith, or_from, false_from_ne_true)

    was_not : (p : ℕ) → is_marked tried p ≡ false → is_marked held0 p ≡ false
    was_not p none = lane.begun p (right_false (is_in p sel) (is_marked tried0 p) (sym (tried_at p) ∙ none))

    begun_at : (held : List Bool) → count_by (λ b. b) tried ≡ count_by (λ b. b) tried0 + count_by (λ p. not (is_marked tried0 p)) sel
        → IsBegunAt sel (lane_of k count numbers0 vectors0 tried0 held0) (lane_of k count numbers vectors tried held)
    begun_at held newly = record { same = record { kind = refl; room = w.long }; count = refl; tried = tried_at; newly = newly }

    -- memory was wanted
    pub lane_begun : IsLane (lane_of k count numbers vectors tried held0)
    lane_begun = grind (arith, behind, was_not, kept_exact, kept_there)

    pub begun_after : count_by (λ b. b) tried ≡ count_by (λ b. b) tried0 + count_by (λ p. not (is_marked tried0 p)) sel → IsBegun sel v (lane_of k count numbers vectors tried held0)
    begun_after newly = subst (λ (l : LaneView). IsBegun sel l (lane_of k count numbers vectors tried held0)) view_is (record { begun = begun_at held0 newly; held = λ p. refl; kept = kept_value })

    -- all places came to something
    module _
        {f : ℕ → Outcome ℕ Value} {left : List ℕ} (left_is : left ≡ given_in f sel) (held : List Bool) (held_at : (p : ℕ) → is_marked held p ≡ (is_in p left || is_marked held0 p)) (long_held : length held ≡ length held0)
        (value : EachPlace left (λ p. HasNumber v.kind (f p) vectors (at_place numbers p)))
      where
        number : (p : ℕ) → is_in p left ≡ true → HasNumber k (f p) vectors (at_place numbers p)
        number p h = subst (λ (x : ColType). HasNumber x (f p) vectors (at_place numbers p)) (sym (ap (λ (l : LaneView). l.kind) view_is)) (value p h)

        was_held : (p : ℕ) → is_in p left ≡ false → is_marked held p ≡ true → is_marked held0 p ≡ true
        was_held p out is = ap (λ b. b || is_marked held0 p) (sym out) ∙ sym (held_at p) ∙ is

        exact_at : is_vector k ≡ false → (p : ℕ) → is_marked held p ≡ true → (b : Bool) → is_in p left ≡ b → lane_number (value_for k vectors (at_place numbers p)) ≡ at_place numbers p
        exact_at scalar p is b h = grind (arith, number, read_back, number_read, kept_exact, was_held)

        there_at : (p : ℕ) → is_marked held p ≡ true → (b : Bool) → is_in p left ≡ b → HasNumbered k vectors (at_place numbers p)
        there_at p is b h = grind (arith, number, is_there, kept_there, was_held)

        pub lane_after : IsLane (lane_of k count numbers vectors tried held)
        lane_after = grind (arith, behind, or_from, filtered_out, left_false, was_not, exact_at, there_at)

        pub evaluated_after : {stops more : List Stopped} → IsPermutation (stops ++ stops_in f sel) more → count_by (λ b. b) tried ≡ count_by (λ b. b) tried0 + count_by (λ p. not (is_marked tried0 p)) sel
            → IsEvaluated f sel left v (lane_of k count numbers vectors tried held) stops more
        evaluated_after joined newly = grind (arith, begun_at, number, read_back, kept_value)

-- ---- at all places at once

scalar_number : (k : ColType) (f : ℕ → Outcome ℕ Value) (p : ℕ) (vectors : List (List ℤ)) (z : ℤ) → is_vector k ≡ false → f p ≡ Gives (lane_value k z) → lane_outcome (f p) ≡ Gives z → HasNumber k (f p) vectors z
scalar_number k f p vectors z scalar gives exact = grind (arith, same_given)

module _ {k : ColType} {f : ℕ → Outcome ℕ Value} {sel left : List ℕ} {numbers0 numbers : List ℤ} {stops more : List Stopped} (come : HasValues k f sel left numbers0 numbers stops more) (vectors : List (List ℤ)) where
  pub scalar_written : length numbers ≡ length numbers0 → AreWritten sel numbers0 numbers vectors vectors
  scalar_written long = record { long = long; others = come.others; kept = kept_all vectors vectors refl }

  pub scalar_values : {own : ColType} → k ≡ own → is_vector own ≡ false → EachPlace left (λ p. HasNumber own (f p) vectors (at_place numbers p))
  scalar_values same scalar p h = subst (λ (x : ColType). HasNumber x (f p) vectors (at_place numbers p)) same (scalar_number k f p vectors (at_place numbers p) (ap is_vector same ∙ scalar) (come.values p h) (come.exact p h))

-- ---- at one place after another

module _
    {k : ColType} {f : ℕ → Outcome ℕ Value} {sel : List ℕ} {numbers : List ℤ} {vectors : List (List ℤ)} {marks : List Bool} {stops more : List Stopped} (come : HaveCome k f sel numbers vectors marks stops more)
  where
    pub each_value : {own : ColType} → k ≡ own → {left : List ℕ} → left ≡ given_in f sel → EachPlace left (λ p. HasNumber own (f p) vectors (at_place numbers p))
    each_value same is = grind (arith, filtered_in, filter_passes)

    pub each_joined : IsPermutation (stops ++ stops_in f sel) more
    each_joined = rw come.stopped (IsPermutation-refl _)

-- of which nothing is known, it is a lane
pub unknown_lane : (l : LaneView) (size : ℕ) → room_of l ≤ MAX_PLACES → length l.tried ≡ room_of l → length l.held ≡ room_of l → l.count ≤ room_of l → IsUnknown size l → IsLane l
unknown_lane l size small long_tried long_held within unknown = grind (arith, behind)

-- ---- marks of places, one after another, and of a whole block without being written: counts

-- one for each that is true
abbrev one : Bool → ℕ
one b = cond b 1 0

-- how many marks there are after one was set
count_set : (marks : List Bool) (q : ℕ) → q < length marks → count_by (λ b. b) (set marks q true) ≡ count_by (λ b. b) marks + one (not (is_marked marks q))
count_set marks q inside = grind (arith, sum_by-set one marks q true false inside)

-- where nothing is marked
pub count_none : (marks : List Bool) → ((p : ℕ) → is_marked marks p ≡ false) → count_by (λ b. b) marks ≡ 0
count_none [] h = refl
count_none (m ∷ marks) h = omega (arith, sum_by-cons one m marks, ap one (h 0), count_none marks (λ p. h (suc p)))

-- ---- rising places

apart : (q x : ℕ) (rest : Bool) → x < q → rest ≡ false → (nat_eq q x || rest) ≡ false
apart q x rest above h = grind (arith, eqb_tells)

-- a place of the list is none of those before it
pub not_before : (places : List ℕ) (i : ℕ) → AreRising places → i < length places → is_in (get_or places i 0) (take i places) ≡ false
not_before [] i rising inside = absurd (omega (arith, inside))
not_before (x ∷ places) zero rising inside = refl
not_before (x ∷ places) (suc i) rising inside =
    let below : i < length places = omega (arith, inside) in
    apart (get_or places i 0) x (is_in (get_or places i 0) (take i places)) (rising.0 (get_or places i 0) (is_in_at places i 0 below)) (not_before places i rising.1 below)

-- ---- the loop

-- the first so many places of a list were marked
pub record IsMarkedTo (places : List ℕ) (before marks : List Bool) (i : ℕ) : Type 0 where
  pub long : length marks ≡ length before
  pub marked : (p : ℕ) → is_marked marks p ≡ (if is_in p (take i places) then true else is_marked before p)
  pub newly : count_by (λ b. b) marks ≡ count_by (λ b. b) before + count_by (λ p. not (is_marked before p)) (take i places)

pub marked_to_none : (places : List ℕ) (before : List Bool) → IsMarkedTo places before before 0
marked_to_none places before = record { long = refl; marked = λ p. refl; newly = omega arith }

pub mark_one : (places : List ℕ) (before marks : List Bool) (i q : ℕ) → IsMarkedTo places before marks i → AreRising places → i < length places → q ≡ get_or places i 0 → q < length before → IsMarkedTo places before (set marks q true) (i + 1)
mark_one places before marks i q so_far rising inside read room =
    let within : q < length marks = omega (arith, so_far.long) in
    let fresh : is_in q (take i places) ≡ false = ap (λ n. is_in n (take i places)) read ∙ not_before places i rising inside in
    let as_was : is_marked marks q ≡ is_marked before q = so_far.marked q ∙ ap (λ b. if b then true else is_marked before q) fresh in
    let here : one (not (is_marked marks q)) ≡ one (not (is_marked before (get_or places i 0))) = ap (λ b. one (not b)) as_was ∙ ap (λ n. one (not (is_marked before n))) read in
    record {
      long = length-set marks q true ∙ so_far.long;
      marked = mark_more places i q true before marks so_far.marked inside read within;
      newly = omega (arith, count_set marks q within, here, so_far.newly, sum_by_more (λ p. one (not (is_marked before p))) places i 0 inside);
    }

either : (b c : Bool) → (if b then true else c) ≡ (b || c)
either b c = grind arith

pub marked_all : (places : List ℕ) (before marks : List Bool) (i p : ℕ) → IsMarkedTo places before marks i → take i places ≡ places → is_marked marks p ≡ (is_in p places || is_marked before p)
marked_all places before marks i p so_far all = so_far.marked p ∙ either (is_in p (take i places)) (is_marked before p) ∙ ap (λ l. is_in p l || is_marked before p) all

pub newly_all : (places : List ℕ) (before marks : List Bool) (i : ℕ) → IsMarkedTo places before marks i → take i places ≡ places → count_by (λ b. b) marks ≡ count_by (λ b. b) before + count_by (λ p. not (is_marked before p)) places
newly_all places before marks i so_far all = so_far.newly ∙ ap (λ l. count_by (λ b. b) before + count_by (λ p. not (is_marked before p)) l) all

-- ---- The marks of a block, of which all may be set without being written: a list with its first places marked

pub marked_long : (marks : List Bool) (n : ℕ) → length (marked_to n marks) ≡ length marks
marked_long marks zero = refl
marked_long [] (suc n) = refl
marked_long (m ∷ marks) (suc n) = ap suc (marked_long marks n)

pub marked_below : (marks : List Bool) (n p : ℕ) → p < n → n ≤ length marks → is_marked (marked_to n marks) p ≡ true
marked_below marks zero p low within = absurd (omega (arith, low))
marked_below [] (suc n) p low within = absurd (omega (arith, within))
marked_below (m ∷ marks) (suc n) zero low within = refl
marked_below (m ∷ marks) (suc n) (suc p) low within = marked_below marks n p (omega (arith, low)) (omega (arith, within))

-- one more
pub marked_set : (marks : List Bool) (n : ℕ) → n < length marks → set (marked_to n marks) n true ≡ marked_to (n + 1) marks
marked_set [] n inside = absurd (omega (arith, inside))
marked_set (m ∷ marks) zero inside = refl
marked_set (m ∷ marks) (suc n) inside = rw add-one (ap (λ l. true ∷ l) (rw add-one at (marked_set marks n (omega (arith, inside)))))

marked_so_far : (marks : List Bool) (count n : ℕ) → count ≤ length marks → n ≤ count → IsMarkedTo (range_with_len 0 count) marks (marked_to n marks) n
marked_so_far marks count zero within low = marked_to_none (range_with_len 0 count) marks
marked_so_far marks count (suc n) within low =
    let inside : n < length (range_with_len 0 count) = omega (arith, length-range_with_len 0 count, low) in
    let at : n ≡ get_or (range_with_len 0 count) n 0 = (let e = get_or-range_with_len 0 count n 0 (omega (arith, low)) in omega (arith, e)) in
    let next = mark_one (range_with_len 0 count) marks (marked_to n marks) n n (marked_so_far marks count n within (omega (arith, low))) (rising_range count (range_with_len 0 count) refl) inside at (omega (arith, within, low)) in
    rw (marked_set marks n (omega (arith, within, low)), add-one) at next

-- ---- the whole block is marked

module _ (count : ℕ) (marks : List Bool) (sel : List ℕ) (within : count ≤ length marks) (whole : sel ≡ range_with_len 0 count) where
  pub whole_marked : (p : ℕ) → is_marked (marked_to count marks) p ≡ (is_in p sel || is_marked marks p)
  whole_marked p =
      marked_all (range_with_len 0 count) marks (marked_to count marks) count p (marked_so_far marks count count within (omega arith)) (take_all count (range_with_len 0 count) (omega (arith, length-range_with_len 0 count))) ∙ ap (λ l. is_in p l || is_marked marks p) (sym whole)

  pub whole_newly : count_by (λ b. b) (marked_to count marks) ≡ count_by (λ b. b) marks + count_by (λ p. not (is_marked marks p)) sel
  whole_newly =
      newly_all (range_with_len 0 count) marks (marked_to count marks) count (marked_so_far marks count count within (omega arith)) (take_all count (range_with_len 0 count) (omega (arith, length-range_with_len 0 count)))
      ∙ ap (λ l. count_by (λ b. b) marks + count_by (λ p. not (is_marked marks p)) l) (sym whole)

-- ---- all of it was

pub still_marked : (marks : List Bool) (sel : List ℕ) → EachPlace sel (λ p. is_marked marks p ≡ true) → (p : ℕ) → is_marked marks p ≡ (is_in p sel || is_marked marks p)
still_marked marks sel each p = grind arith

pub none_newly : (marks : List Bool) (sel : List ℕ) → EachPlace sel (λ p. is_marked marks p ≡ true) → count_by (λ b. b) marks ≡ count_by (λ b. b) marks + count_by (λ p. not (is_marked marks p)) sel
none_newly marks sel each = omega (arith, length-filter (λ p. not (is_marked marks p)) sel, ap (λ (l : List ℕ). length l) (filter_none (λ p. not (is_marked marks p)) sel (λ p i. ap not (each p i))))

-- ---- as they are seen

module _ (e : Extent) (count : ℕ) (written : List Bool) (v : MarksView) (view_is : ◌≡◌ {A = MarksView} (record { count = count; marks = marks_of e count written }) v) (are : AreWrittenMarks e count written) where
  pub nothing_is : e ≡ Extent.Nothing → v.marks ≡ written
  nothing_is h = ap (λ (x : MarksView). x.marks) (sym view_is) ∙ ap (λ (x : Extent). marks_of x count written) h

  pub nothing_seen : e ≡ Extent.Nothing → (p : ℕ) → is_marked v.marks p ≡ false
  nothing_seen h p = ap (λ l. is_marked l p) (nothing_is h) ∙ subst (λ (x : Extent). IsBare x written) h are.bare p

  pub all_seen : e ≡ Extent.All → (p : ℕ) → p < v.count → is_marked v.marks p ≡ true
  all_seen h p low = grind (arith, marked_below)

  pub long_seen : length written ≡ length v.marks
  long_seen = grind (arith, marked_long)

-- ---- the lanes of all keys, one after another: lanes that are made

-- so many lanes were made
pub record AreMade (kinds : List ColType) (room i : ℕ) (ls : List LaneView) : Type 0 where
  pub kinds_are : kinds_of ls ≡ take i kinds
  pub rooms : HaveRoom room ls
  pub unknown : AreUnknown 0 ls

pub made_more : (kinds : List ColType) (room i : ℕ) (ls : List LaneView) (l : LaneView) (d : ColType) → AreMade kinds room i ls → i < length kinds → l.kind ≡ get_or kinds i d → room_of l ≡ room → IsUnknown 0 l → AreMade kinds room (i + 1) (ls ++ l ∷ [])
made_more kinds room i ls l d made inside kind has_room unknown = record {
  kinds_are = map_next (λ (x : LaneView). x.kind) ls l ∙ ap (λ ks. ks ++ l.kind ∷ []) made.kinds_are ∙ ap (λ k. take i kinds ++ k ∷ []) kind ∙ sym (take_more kinds i d inside);
  rooms = All-push (λ x. room_of x ≡ room) ls l made.rooms has_room;
  unknown = All-push (IsUnknown 0) ls l made.unknown unknown;
}

-- ---- lanes that begin a block

-- the first so many lanes began it
pub record AreBegunTo (count : ℕ) (before : List LaneView) (i : ℕ) (ls : List LaneView) : Type 0 where
  pub many : length ls ≡ length before
  pub kinds_are : kinds_of ls ≡ kinds_of before
  pub rooms_are : rooms_of ls ≡ rooms_of before
  pub enough : All (λ l. count ≤ room_of l) ls
  pub begun : AllWithin (IsUnknown count) ls 0 i

pub begun_more : (count i : ℕ) (before ls : List LaneView) (l d : LaneView) → AreBegunTo count before i ls → i < length ls → IsSameLane (get_or ls i d) l → IsUnknown count l → AreBegunTo count before (i + 1) (set ls i l)
begun_more count i before ls l d so_far inside same unknown = record {
  many = length-set ls i l ∙ so_far.many;
  kinds_are = map-set_same (λ (x : LaneView). x.kind) ls i l d same.kind ∙ so_far.kinds_are;
  rooms_are = map-set_same room_of ls i l d same.room ∙ so_far.rooms_are;
  enough = All-set (λ x. count ≤ room_of x) ls i l (omega (arith, same.room, so_far.enough i d inside)) so_far.enough;
  begun = AllWithin-more_set ls i l inside (IsUnknown count) so_far.begun unknown;
}

-- ---- stops of a group, one after another: the least fault, the places, and what is noted

no_fault : (p : ℕ) (s : Stopped) → fault_of s.stop ≡ None → IsNotBelow p s
no_fault p s none k h = absurd (cc (none, h))

lower : (p q : ℕ) → p ≤ q → (s : Stopped) → IsNotBelow q s → IsNotBelow p s
lower p q le s h k is = let above : q ≤ s.place = h k is in omega arith

pub least_more : (xs : List Stopped) (least : Option PlaceFault) (p : ℕ) (stop : ScalarStop) → IsLeastFault xs least → IsLeastFault (xs ++ stopped p stop ∷ []) (lesser_fault least p stop)
least_more xs None p (Need c) h = All-push (λ s. fault_of s.stop ≡ None) xs (stopped p (Need c)) h refl
least_more xs (Some f) p (Need c) h = (Contains-append_left xs (stopped p (Need c) ∷ []) (stopped f.place (Fault f.kind)) h.0, All-push (IsNotBelow f.place) xs (stopped p (Need c)) h.1 (no_fault f.place (stopped p (Need c)) refl))
least_more xs None p (Fault k) h = (
  Contains-push xs (stopped p (Fault k)),
  All-push (IsNotBelow p) xs (stopped p (Fault k)) (λ i d inside. no_fault p (get_or xs i d) (h i d inside)) (λ e is. omega arith),
)
least_more xs (Some f) p (Fault k) h = by (nat_le f.place p) refl
  where
    by : (b : Bool) → nat_le f.place p ≡ b → IsLeastFault (xs ++ stopped p (Fault k) ∷ []) (if b then Some f else Some (fault_at p k))
    by true le = (
      Contains-append_left xs (stopped p (Fault k) ∷ []) (stopped f.place (Fault f.kind)) h.0,
      All-push (IsNotBelow f.place) xs (stopped p (Fault k)) h.1 (λ e is. leb-true f.place p le),
    )
    by false gt = (
      Contains-push xs (stopped p (Fault k)),
      All-push (IsNotBelow p) xs (stopped p (Fault k)) (λ i d inside. lower p f.place (let above : p < f.place = leb-false f.place p gt in omega arith) (get_or xs i d) (h.1 i d inside)) (λ e is. omega arith),
    )

pub least_next : (stops : List Stopped) (i : ℕ) (d : Stopped) (least : Option PlaceFault) → i < length stops → IsLeastFault (take i stops) least → IsLeastFault (take (i + 1) stops) (lesser_fault least (get_or stops i d).place (get_or stops i d).stop)
least_next stops i d least inside h =
    subst (λ (xs : List Stopped). IsLeastFault xs (lesser_fault least (get_or stops i d).place (get_or stops i d).stop)) (sym (take_more stops i d inside))
    (least_more (take i stops) least (get_or stops i d).place (get_or stops i d).stop h)

-- What is said of one answer alone
pub on_err : {A E P : Type 0} (r : Result A E) → P → OnErr r P
on_err r p = grind arith

-- ---- the stops of a selection

-- why an outcome stops
abbrev pub told_stop : Outcome ℕ Value → Option ScalarStop
told_stop (Gives v) = None
told_stop (Faults k) = Some (Fault k)
told_stop (Needs c) = Some (Need c)

stop_first : (p : ℕ) (a : ScalarStop) (o : Outcome ℕ Value) (rest : List Stopped) → told_stop o ≡ Some a → with_stop p o rest ≡ stopped p a ∷ rest
stop_first p a o rest is = grind arith

stop_behind : (p : ℕ) (o : Outcome ℕ Value) (rest : List Stopped) (x : Stopped) → Contains rest x → Contains (with_stop p o rest) x
stop_behind p (Gives v) rest x h = h
stop_behind p (Faults k) rest x h = Contains-append_right (stopped p (Fault k) ∷ []) rest x h
stop_behind p (Needs c) rest x h = Contains-append_right (stopped p (Need c) ∷ []) rest x h

module _ (f : ℕ → Outcome ℕ Value) where
  abbrev IsTold : List ℕ → Stopped → Type 0
  IsTold sel x = (is_in x.place sel ≡ true) × (told_stop (f x.place) ≡ Some x.stop)

  each_told : (ps sel : List ℕ) → EachPlace ps (λ p. is_in p sel ≡ true) → All (IsTold sel) (stops_in f ps)
  each_told [] sel each = All-nil (IsTold sel)
  each_told (p ∷ ps) sel each = here (f p) refl (each_told ps sel (λ q i. each q (rest_in q p ps i)))
    where
      here : (o : Outcome ℕ Value) → f p ≡ o → All (IsTold sel) (stops_in f ps) → All (IsTold sel) (with_stop p o (stops_in f ps))
      here (Gives v) is rest = rest
      here (Faults k) is rest = All-cons (IsTold sel) _ _ (each p (first_in p ps), ap told_stop is) rest
      here (Needs c) is rest = All-cons (IsTold sel) _ _ (each p (first_in p ps), ap told_stop is) rest

  -- a stop is that of its place
  pub stop_told : (sel : List ℕ) (more : List Stopped) → IsPermutation (stops_in f sel) more → (x : Stopped) → Contains more x → IsTold sel x
  stop_told sel more joined x = All-contains (IsTold sel) more x (All-permutation (IsTold sel) _ more joined (each_told sel sel (λ p i. i)))

  some_there : (ps : List ℕ) (p : ℕ) (a : ScalarStop) → is_in p ps ≡ true → told_stop (f p) ≡ Some a → Contains (stops_in f ps) (stopped p a)
  some_there [] p a among is = cc among
  some_there (q ∷ ps) p a among is = go (nat_eq p q) refl among (λ h. some_there ps p a h is)
    where
      go : (b : Bool) → nat_eq p q ≡ b → (b || is_in p ps) ≡ true → (is_in p ps ≡ true → Contains (stops_in f ps) (stopped p a)) → Contains (with_stop q (f q) (stops_in f ps)) (stopped p a)
      go true e h rest = subst (λ (n : ℕ). Contains (with_stop n (f n) (stops_in f ps)) (stopped p a)) ((Decides-eqb p q).0 e) (rw (stop_first p a (f p) (stops_in f ps) is) (0, omega arith, refl))
      go false e h rest = stop_behind q (f q) (stops_in f ps) (stopped p a) (rest h)

  -- each place that stops has its stop
  pub stop_there : (sel : List ℕ) (more : List Stopped) → IsPermutation (stops_in f sel) more → (p : ℕ) (a : ScalarStop) → is_in p sel ≡ true → told_stop (f p) ≡ Some a → Contains more (stopped p a)
  stop_there sel more joined p a among is = Contains-permutation _ more _ joined (some_there sel p a among is)

-- ---- What is noted of stops, one after another.

long_noted : (needs : List ℕ) (q : ℕ) (stop : ScalarStop) → length (noted_at needs q stop) ≡ length needs
long_noted needs q stop = grind (arith, length-set)

stays_at : (needs : List ℕ) (p c q : ℕ) (stop : ScalarStop) → need_at needs p ≡ c → (q ≡ p → stop ≡ Need c) → need_at (noted_at needs q stop) p ≡ c
stays_at needs p c q stop was only = grind (arith, cases_eq p q, cases_lt q (length needs), get_or-set_same, get_or-set_other, get_or_past, length-set)

-- what is noted of a place stays, where its stops need no other version
pub stays : (xs : List Stopped) (needs : List ℕ) (p c : ℕ) → need_at needs p ≡ c → ((x : Stopped) → Contains xs x → x.place ≡ p → x.stop ≡ Need c) → need_at (noted_in needs xs) p ≡ c
stays [] needs p c was only = was
stays (x ∷ xs) needs p c was only =
    stays xs (noted_at needs x.place x.stop) p c (stays_at needs p c x.place x.stop was (only x (0, omega arith, refl))) (λ y k. only y (Contains-append_right (x ∷ []) xs y k))

-- each need is noted
pub noted_is : (xs : List Stopped) (needs : List ℕ) (p c : ℕ) → p < length needs → Contains xs (stopped p (Need c)) → ((x : Stopped) → Contains xs x → x.place ≡ p → x.stop ≡ Need c) → need_at (noted_in needs xs) p ≡ c
noted_is [] needs p c inside at only = absurd (omega (arith, at.1))
noted_is (x ∷ xs) needs p c inside at only = go at.0 at.1 at.2 (λ there. noted_is xs (noted_at needs x.place x.stop) p c (omega (arith, long_noted needs x.place x.stop, inside)) there (λ y k. only y (Contains-append_right (x ∷ []) xs y k)))
  where
    go : (k : ℕ) → k < length (x ∷ xs) → get_or (x ∷ xs) k (stopped p (Need c)) ≡ stopped p (Need c) → (Contains xs (stopped p (Need c)) → need_at (noted_in needs (x ∷ xs)) p ≡ c) → need_at (noted_in needs (x ∷ xs)) p ≡ c
    go zero l e behind = stays xs (noted_at needs x.place x.stop) p c (ap (λ (s : Stopped). need_at (noted_at needs s.place s.stop) p) e ∙ get_or-set_same needs p c 0 inside) (λ y k. only y (Contains-append_right (x ∷ []) xs y k))
    go (suc k) l e behind = behind (k, omega (arith, l), e)

-- ---- marks of those that wait for another version

pub marked_more : (places : List ℕ) (q : ℕ) (marks : List Bool) (f : ℕ → Bool) → EachPlace places (λ p. is_marked marks p ≡ f p) → q < length marks → EachPlace (places ++ q ∷ []) (λ p. is_marked (set marks q (f q)) p ≡ f p)
marked_more places q marks f so_far inside p h = grind (arith, in_more, get_or-set_same, get_or-set_other)

pub marked_at : (places : List ℕ) (i : ℕ) (marks : List Bool) (f : ℕ → Bool) → i < length places → EachPlace (take i places) (λ p. is_marked marks p ≡ f p) → get_or places i 0 < length marks → EachPlace (take (i + 1) places) (λ p. is_marked (set marks (get_or places i 0) (f (get_or places i 0))) p ≡ f p)
marked_at places i marks f inside so_far room p h = marked_more (take i places) (get_or places i 0) marks f so_far room p (subst (λ (l : List ℕ). is_in p l ≡ true) (take_more places i 0 inside) h)
