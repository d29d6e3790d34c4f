-- The hands of views, seats and shares as they are made and as they are handed back.
use Rattle.lemmas.proofs.{◌≡◌, ◌≢◌, ℕ, zero, suc, ◌+◌, List, [], ◌∷◌, ◌++◌, length, set, map, get_or, replicate, sym, ap, ◌∙◌, subst, arith, append_assoc, append-nil, length-append, IsPermutation, ◌-◌, ◌%◌, ◌^◌, ◌<◌, refl, Some, slice_index, slice_set, All-cons, All-nil, All-permutation, All-tail, concat, concat_is, flat_map-append, IsPermutation-append_comm, IsPermutation-append_left, IsPermutation-append_right, IsPermutation-cons, IsPermutation-map, IsPermutation-refl, IsPermutation-sym, IsPermutation-to_front, IsPermutation-trans, IsStrictlyIncreasing, length-flat_map, length_permutation, map-append, map-range_with_len_more, nil_from_length, range_with_len, set_comm, sum_by-cons, sum_by-IsPermutation, All, All-pop, get_or-map, length-map, length-replicate}
use mathlib.Core.Option.{some, some-injective, some-ne-none}
use lib.ListN.{get_elem?}
use Rattle.atomic_table.proofs.Lists.{set_else}
use Rattle.rdf_values.specs.{below, DrawnBy, times}
use Rattle.rdf_values.proofs.UnionLemmas.{first_rises, length-below, counts_by_drawn, drawn_by_counts, inside_once, once_next, rises_push, times_push, none_rises}
use Rattle.slot_words.specs.{hands_in, many_in, first_alone, others}
use Rattle.slot_words.proofs.Joining.{stands_there}
use Rattle.atomic_table.specs.Seated.{TableId}
use Rattle.atomic_table.specs.Table.{State, Me, Splits, Joins, Enters, Allows, keeps}

module _ {H : Type 0} where
  -- ---- a view and the hands of the others

  pub record IsAmong (views : List (List H)) (id : ℕ) (v : List H) : Type 0 where
    pub rest : List H
    pub are : IsPermutation (hands_in views) (v ++ rest)
    pub changed : (w : List H) → IsPermutation (hands_in (set views id w)) (w ++ rest)

  to_front : (u v rest l : List H) → IsPermutation l (v ++ rest) → IsPermutation (u ++ l) (v ++ (u ++ rest))
  to_front u v rest l p = IsPermutation-trans _ (u ++ (v ++ rest)) _ (IsPermutation-append_right u l (v ++ rest) p)
      (subst (λ m. IsPermutation m (v ++ (u ++ rest))) (append_assoc u v rest)
      (subst (IsPermutation ((u ++ v) ++ rest)) (append_assoc v u rest) (IsPermutation-append_left rest (u ++ v) (v ++ u) (IsPermutation-append_comm u v))))

  pub among : (views : List (List H)) (id : ℕ) (v : List H) → get_elem? views id ≡ some v → IsAmong views id v
  among [] id v at = absurd (some-ne-none v (sym at))
  among (u ∷ us) zero v at = record {
    rest = hands_in us;
    are = subst (λ w. IsPermutation (u ++ hands_in us) (w ++ hands_in us)) (some-injective u v at) (IsPermutation-refl _);
    changed = λ w. IsPermutation-refl (w ++ hands_in us);
  }
  among (u ∷ us) (suc i) v at = let a = among us i v at in record { rest = u ++ a.rest; are = to_front u v a.rest (hands_in us) a.are; changed = λ w. to_front u w a.rest (hands_in (set us i w)) (a.changed w) }

  -- where one view has as many hands as all, it has all
  pub all_in_one : (views : List (List H)) (id : ℕ) (v : List H) → get_elem? views id ≡ some v → length (hands_in views) ≡ length v → IsPermutation (hands_in views) v
  all_in_one views id v at whole =
      let a = among views id v at in
      let none = nil_from_length a.rest (omega (arith, length_permutation (hands_in views) (v ++ a.rest) a.are, length-append v a.rest)) in
      subst (IsPermutation (hands_in views)) (ap (λ l. v ++ l) none ∙ append-nil v) a.are

  -- a view deals its first hand to a new one
  pub dealt : (views : List (List H)) (id : ℕ) (h : H) (hs : List H) → get_elem? views id ≡ some (h ∷ hs) → IsPermutation (hands_in views) (hands_in (set views id hs ++ (h ∷ []) ∷ []))
  dealt views id h hs at =
      let a = among views id (h ∷ hs) at in
      let left = hands_in (set views id hs) in
      subst (IsPermutation (hands_in views)) (sym (flat_map-append (λ v. v) (set views id hs) ((h ∷ []) ∷ [])))
      (IsPermutation-trans _ (h ∷ left) _ (IsPermutation-trans _ (h ∷ (hs ++ a.rest)) _ a.are (IsPermutation-cons h _ _ (IsPermutation-sym _ _ (a.changed hs)))) (IsPermutation-sym _ _ (IsPermutation-to_front left h)))

  -- a view comes that has no hand
  pub entered : (views : List (List H)) → hands_in (views ++ [] ∷ []) ≡ hands_in views
  entered views = flat_map-append (λ v. v) views ([] ∷ []) ∙ append-nil (hands_in views)

  -- a view takes in another
  pub taken : (views : List (List H)) (id other : ℕ) (v w : List H) → get_elem? views id ≡ some v → other ≢ id → get_elem? (set views id (w ++ v)) other ≡ some w
      → IsPermutation (hands_in views) (hands_in (set (set views id (w ++ v)) other []))
  taken views id other v w at apart there =
      let o = among views other w (sym (set_else views id other (w ++ v) apart) ∙ there) in
      let a = among (set views other []) id v (set_else views other id [] (λ e. apart (sym e)) ∙ at) in
      let rest : IsPermutation o.rest (v ++ a.rest) = IsPermutation-trans _ _ _ (IsPermutation-sym _ _ (o.changed [])) a.are in
      subst (λ l. IsPermutation (hands_in views) (hands_in l)) (set_comm views other id [] (w ++ v) apart)
      (IsPermutation-trans _ ((w ++ v) ++ a.rest) _ (subst (IsPermutation (hands_in views)) (sym (append_assoc w v a.rest)) (IsPermutation-trans _ (w ++ o.rest) _ o.are (IsPermutation-append_right w _ _ rest))) (IsPermutation-sym _ _ (a.changed (w ++ v))))

-- ---- numbers that lists share out

module _ (d : List ℕ) (rest : List (List ℕ)) (m : ℕ) (drawn : DrawnBy (d ∷ rest) m) where
  pub next_rises : (n : ℕ) → m ≡ n → IsStrictlyIncreasing (d ++ n ∷ [])
  next_rises n is = subst (λ k. IsStrictlyIncreasing (d ++ k ∷ [])) is
      (rises_push d m (first_rises d rest drawn.rising) (λ k e lt. inside_once (get_or d k e) m (omega (arith, stands_there d k e lt, sum_by-cons (times (get_or d k e)) d rest, (counts_by_drawn (d ∷ rest) m drawn).1 (get_or d k e)))))

  -- one of them has the next number too
  pub next_drawn : (n k : ℕ) → m ≡ n → n + 1 ≡ k → DrawnBy ((d ++ n ∷ []) ∷ rest) k
  next_drawn n k is next = subst (DrawnBy ((d ++ n ∷ []) ∷ rest)) next (drawn_by_counts ((d ++ n ∷ []) ∷ rest) (n + 1) (
    All-cons IsStrictlyIncreasing (d ++ n ∷ []) rest (next_rises n is) (All-tail IsStrictlyIncreasing d rest drawn.rising),
    λ x. rw (← is) omega (arith, sum_by-cons (times x) d rest, sum_by-cons (times x) (d ++ m ∷ []) rest, times_push x d m, once_next x m, (counts_by_drawn (d ∷ rest) m drawn).1 x),
  ))

pub many_drawn : (lists : List (List ℕ)) (m : ℕ) → DrawnBy lists m → many_in lists ≡ m
many_drawn lists m d = sym (ap length (concat_is lists) ∙ length-flat_map (λ l. l) lists) ∙ sym (length_permutation (concat lists) (below m) d.each_once) ∙ length-below m

module _ {H : Type 0} (drawn : H → List ℕ) where
  pub none_shared : (h : H) (n : ℕ) → drawn h ≡ [] → DrawnBy (map drawn (replicate n h)) 0
  none_shared h zero none = record { rising = All-nil IsStrictlyIncreasing; each_once = IsPermutation-refl [] }
  none_shared h (suc n) none =
      let rest = none_shared h n none in
      let lists = map drawn (replicate n h) in
      subst (λ l. DrawnBy (l ∷ lists) 0) (sym none) record { rising = All-cons IsStrictlyIncreasing [] lists none_rises rest.rising; each_once = rest.each_once }

  pub shared_again : (m : ℕ) (hands now : List H) → IsPermutation hands now → DrawnBy (map drawn hands) m → DrawnBy (map drawn now) m
  shared_again m hands now same d =
      let p = IsPermutation-map drawn hands now same in
      drawn_by_counts (map drawn now) m (
        All-permutation IsStrictlyIncreasing (map drawn hands) (map drawn now) p d.rising,
        λ x. sum_by-IsPermutation (times x) (map drawn hands) (map drawn now) p ∙ (counts_by_drawn (map drawn hands) m d).1 x,
      )

-- ---- lists of tokens, as they are made and as they are handed back

module _ {S : Type 0} where
  -- one more by its number
  pub dealt_more : (fresh : ℕ → S) (n : ℕ) (tokens : List S) (s : S) → tokens ≡ map fresh (range_with_len 0 n) → s ≡ fresh n → tokens ++ s ∷ [] ≡ map fresh (range_with_len 0 (n + 1))
  dealt_more fresh n tokens s before is = (λ i. before i ++ is i ∷ []) ∙ sym (map-range_with_len_more fresh 0 n n (omega arith))

  -- the last one first
  pub taken_next : {B : Type 0} (f : S → B) (tokens rest : List S) (s : S) (v w all : List B) → tokens ≡ rest ++ s ∷ [] → v ≡ f s ∷ [] → map f tokens ++ w ≡ all → map f rest ++ (v ++ w) ≡ all
  taken_next f tokens rest s v w all is one before = sym (append_assoc (map f rest) v w) ∙ ap (λ u. (map f rest ++ u) ++ w) one ∙ ap (λ u. u ++ w) (sym (ap (map f) is ∙ map-append f rest (s ∷ []))) ∙ before

-- ---- Seats and shares as they are made and as they are handed back, under a rule that says nothing of the hands' order.

-- a word after one more draw
abbrev pub bump : ℕ → ℕ
bump n = (n + 1) % 2 ^ 64

module _ {H : Type 0} (Rule : List ℕ → List H → Type 0) (again : (words : List ℕ) (hands now : List H) → IsPermutation hands now → Rule words hands → Rule words now) where
  abbrev Holds : State ℕ (List H) → Type 0
  Holds s = Rule s.words (hands_in s.views)

  deal : (id : ℕ) (h : H) (hs : List H) → Splits Holds id (h ∷ hs) hs (h ∷ [])
  deal id h hs s rule at = again s.words _ _ (dealt s.views id h hs at) rule

  -- a view is cut in two
  pub deals : (id : ℕ) (v : List H) → 0 < length v → Splits Holds id v (others v) (first_alone v)
  deals id v some_hand = grind (arith, deal)

  -- a view takes in another
  pub gathers : (id : ℕ) (v : List H) (other : ℕ) (w : List H) → Joins Holds id v other w (w ++ v) []
  gathers id v other w s rule at apart there = again s.words _ _ (taken s.views id other v w at apart there) rule

  -- a view comes that has no hand
  pub enters : (slots i : ℕ) → Enters Holds slots i (λ n v. let me : Me ℕ (List H) = (v, []) in me ≡ ([], []))
  enters slots i s rule len fits = ([], subst (Rule s.words) (sym (entered s.views)) rule, refl)

  -- a seat's one hand is the first of those in the rule, and the word i becomes f of what it was
  abbrev pub Keeps : H → ℕ → (ℕ → ℕ) → (ℕ → Me ℕ (List H) → Type 0) → List H → List ℕ → Type 0
  Keeps h i f then rest words = (g : H) × Rule (slice_set words i (f (slice_index words i))) (g ∷ rest) × then (slice_index words i) (g ∷ [], [])

  -- then so it is at the table
  pub steps : (places id : ℕ) (me : Me ℕ (List H)) (h : H) (i : ℕ) (f : ℕ → ℕ) (then : ℕ → Me ℕ (List H) → Type 0) → me ≡ (h ∷ [], [])
      → ((words : List ℕ) (rest : List H) → Rule words (h ∷ rest) → Keeps h i f then rest words) → Allows Holds places id me i f then
  steps places id me h i f then is keep = subst (λ (m : Me ℕ (List H)). Allows Holds places id m i f then) (sym is)
      (λ s rule len at fits.
      let a = among s.views id (h ∷ []) at in
      let now = keep s.words a.rest (again s.words _ _ a.are rule) in
      (now.0 ∷ [], keeps, tt, again _ _ _ (IsPermutation-sym _ _ (a.changed (now.0 ∷ []))) now.1, now.2))

module _ {S H : Type 0} where
  -- what holds of each one's hand
  pub all_seen : (hand : S → H) (P : H → Type 0) (tokens : List S) → All P (map hand tokens) → All (λ s. P (hand s)) tokens
  all_seen hand P tokens each k d lt = subst P (get_or-map hand tokens k d (hand d) lt) (each k (hand d) (omega (arith, length-map tokens hand)))

  -- the first n were made, and so many hands are left
  pub record IsDealing (fresh : ℕ → S) (h : H) (table : TableId) (left n : ℕ) (made : List S) (at : TableId) (me : Me ℕ (List H)) : Type 0 where
    pub of : at ≡ table
    pub undealt : me ≡ (replicate left h, [])
    pub dealt : made ≡ map fresh (range_with_len 0 n)

  module _ (fresh : ℕ → S) (h : H) (table : TableId) (left n : ℕ) (made : List S) (at : TableId) (me : Me ℕ (List H)) (d : IsDealing fresh h table left n made at me) where
    pub many_left : length me.0 ≡ left
    many_left = ap (λ m. length m.0) d.undealt ∙ length-replicate _ _

    pub one_dealt : 0 < left → first_alone me.0 ≡ h ∷ []
    one_dealt some_hand = ap (λ m. first_alone m.0) d.undealt ∙ (let left_is : left ≡ suc (left - 1) = omega arith in ap (λ n. first_alone (replicate n h)) left_is)

    pub next_dealt : (fewer : ℕ) (now : List S) (s : S) (at' : TableId) (me' : Me ℕ (List H)) → left ≡ suc fewer → at' ≡ at → me' ≡ (others me.0, me.1) → now ≡ made ++ s ∷ [] → s ≡ fresh n → IsDealing fresh h table fewer (n + 1) now at' me'
    next_dealt fewer now s at' me' less same rest more is = grind (arith, dealt, dealt_more)

  -- the hands of those that are left and of those that were taken in are the hands of all
  pub record IsGathering (hand : S → H) (place : S → TableId) (table : TableId) (all left : List S) (at : TableId) (me : Me ℕ (List H)) : Type 0 where
    pub of : at ≡ table
    pub bare : me.1 ≡ []
    pub hands : map hand left ++ me.0 ≡ map hand all
    pub rest : All (λ s. place s ≡ table) left

  module _ (hand : S → H) (place : S → TableId) (table : TableId) (all : List S) where
    pub none_gathered : (at : TableId) (me : Me ℕ (List H)) → at ≡ table → me ≡ ([], []) → All (λ s. place s ≡ table) all → IsGathering hand place table all all at me
    none_gathered at me of none each = record { of = of; bare = ap (λ m. m.1) none; hands = ap (λ m. map hand all ++ m.0) none ∙ append-nil (map hand all); rest = each }

    module _ (left rest : List S) (s : S) (at : TableId) (me : Me ℕ (List H)) (g : IsGathering hand place table all left at me) (is : left ≡ rest ++ s ∷ []) where
      pub next_of : place s ≡ table
      next_of = (All-pop (λ s. place s ≡ table) left rest (Some s) is g.rest).1

      pub next_gathered : (v : List H) (at' : TableId) (me' : Me ℕ (List H)) → v ≡ hand s ∷ [] → at' ≡ at → me' ≡ (v ++ me.0, me.1) → IsGathering hand place table all rest at' me'
      next_gathered v at' me' one same now = record {
        of = same ∙ g.of;
        bare = ap (λ m. m.1) now ∙ g.bare;
        hands = ap (λ m. map hand rest ++ m.0) now ∙ taken_next hand left rest s v me.0 (map hand all) is one g.hands;
        rest = (All-pop (λ s. place s ≡ table) left rest (Some s) is g.rest).0;
      }

    pub all_gathered : (left : List S) (at : TableId) (me : Me ℕ (List H)) → IsGathering hand place table all left at me → length left ≡ 0 → me.0 ≡ map hand all
    all_gathered left at me g none = ap (λ l. map hand l ++ me.0) (sym (nil_from_length left none)) ∙ g.hands
