-- Each step at the table keeps what the rules say of the claims, the bar and the book.
use Rattle.lemmas.proofs.{◌≡◌, ℕ, ◌+◌, ◌^◌, ◌<◌, ◌≤◌, min, List, [], ◌∷◌, ◌++◌, map, ltb, Option, None, Some, ap, ◌∙◌, subst, arith, IsPermutation, zero, suc, length, get_or, refl, ◌%◌, sym, length-append, append-nil, slice_index, ◌-◌, drop, take, true, false, ap₂, append_assoc, nat_lt, slice_get, option_map, All, All-cons, All-head, All-permutation, All-tail, All-weaker, cond_both, IfSome_then, IsStrictlyIncreasing, length_permutation, ltb-false, ltb-true, sum_by-cons, sum_by-IsPermutation, sum_by-le, cases_lt, Contains, Contains-permutation, IsPermutation-map, All-replicate, common_steps, cond-true, length-replicate, lt-ltb, All-map, length-map, length-range_with_len, range_with_len, drop_more, get_or_from_slice_get, IsPartitionPoint, map-append, drop_all, same_some, slice_get-map, slice_get_within, zip, before_or_last, get_or_default, slice_get-get_or, something_at}
use Rattle.rdf_values.specs.{DrawnBy}
use Rattle.rdf_values.proofs.UnionLemmas.{first_rises}
use Rattle.slot_words.specs.declared.seat.ClaimHand.{ClaimHand}
use Rattle.slot_words.specs.{IsClaimed, IsHand, kept_count, IsBarred, IsOver, look, lower, AreClaimed, Claimed, empty_hand, hand_of, Looked, Lowered, ClaimsSeen, fresh_seat, fresh_seats, IsReady, SeatSeen, added, added_in, AreOf, cluster_in, HaveNumbers, piece_in, AreTrails, HaveAllTrails, trails_at}
use Rattle.slot_words.specs.Seats.{draw}
use Rattle.slot_words.proofs.Hands.{next_rises, next_drawn, shared_again, all_in_one, none_shared, Keeps, bump, steps}
use mathlib.Core.Option.{some, none, some-injective}
use lib.ListN.{get_elem?}
use Rattle.atomic_table.specs.Table.{Me, step, Final, Seen, Allows}
use Rattle.slot_words.specs.Claiming.{opening_hands, Drew}
use Rattle.std.proofs.lemmas.List.{map_more}
use Rattle.merge_core.specs.{Noted}
use Rattle.slot_words.proofs.Noting.{kept_both}
use Rattle.rdf_model.specs.declared.loop_facts.LoopFacts.{LoopFacts}
use Rattle.loop_pieces.specs.{ArePartialLines, LoopPiece, PartialLine, WatchPiece}

-- ---- each step keeps what the rule says of the claim word

abbrev pub drawn_by : ClaimHand → List ℕ
drawn_by h = h.drawn

abbrev kept_in : ClaimHand → ℕ
kept_in h = kept_count h.kept

later : (clusters w v : ℕ) (h : ClaimHand) → w ≤ v → IsHand clusters w h → IsHand clusters v h
later clusters w v h le i = record { same = i.same; past = IfSome_then h.kept i.past (λ k p. (p.0, omega (arith, p.1))) }

-- the hand after a draw is one of two
pub drawn_hand : (P : ClaimHand → Type 0) (h : ClaimHand) (n : ℕ) → (n < h.clusters → P record h { drawn = h.drawn ++ n ∷ []; looked = None }) → (h.clusters ≤ n → P record h { kept = Some n; looked = None }) → P (draw h n)
drawn_hand P h n hit miss = cond_both (ltb n h.clusters) _ _ P (λ t. hit (ltb-true n h.clusters t)) (λ f. miss (ltb-false n h.clusters f))

module _ (clusters slots n : ℕ) (h : ClaimHand) (rest : List ClaimHand) (c : IsClaimed clusters slots n (h ∷ rest)) where
  my_hand : IsHand clusters n h
  my_hand = All-head (IsHand clusters n) h rest c.each

  their_hands : All (IsHand clusters n) rest
  their_hands = All-tail (IsHand clusters n) h rest c.each

  pub drawn_rises : IsStrictlyIncreasing (draw h n).drawn
  drawn_rises = let same = my_hand.same in drawn_hand (λ g. IsStrictlyIncreasing g.drawn) h n
      (λ lt. next_rises h.drawn (map drawn_by rest) (min n clusters) c.shared n (omega arith))
      (λ _. first_rises h.drawn (map drawn_by rest) c.shared.rising)

  -- a hand that differs in what it knows of the bar
  pub same_claimed : (looked passed lowered : Option ℕ) → IsClaimed clusters slots n (record h { looked = looked; passed = passed; lowered = lowered } ∷ rest)
  same_claimed looked passed lowered = record { small = c.small; many = c.many; shared = c.shared; room = c.room; each = All-cons (IsHand clusters n) _ rest record { same = my_hand.same; past = my_hand.past } their_hands }

  pub drawn_keeps : h.kept ≡ None → IsClaimed clusters slots (n + 1) (draw h n ∷ rest)
  drawn_keeps free =
      let same = my_hand.same in
      let more = All-weaker (IsHand clusters n) (IsHand clusters (n + 1)) (λ u. later clusters n (n + 1) u (omega arith)) rest their_hands in
      let room = c.room ∙ ap (λ k. min n clusters + k) (sum_by-cons kept_in h rest) in
      let none : kept_in h ≡ 0 = ap kept_count free in
      drawn_hand (λ g. IsClaimed clusters slots (n + 1) (g ∷ rest)) h n
      (λ lt. record {
        small = c.small;
        many = c.many;
        shared = next_drawn h.drawn (map drawn_by rest) (min n clusters) c.shared n _ (omega arith) (omega arith);
        room = omega (arith, room, sum_by-cons kept_in (record h { drawn = h.drawn ++ n ∷ []; looked = None }) rest);
        each = All-cons (IsHand clusters (n + 1)) _ rest record { same = same; past = (later clusters n (n + 1) h (omega arith) my_hand).past } more;
      })
      (λ le. record {
        small = c.small;
        many = c.many;
        shared = subst (DrawnBy (map drawn_by (h ∷ rest))) (omega arith) c.shared;
        room = omega (arith, room, sum_by-cons kept_in (record h { kept = Some n; looked = None }) rest);
        each = All-cons (IsHand clusters (n + 1)) _ rest record { same = same; past = (omega arith, omega arith) } more;
      })

-- the word never wraps
pub word_fits : (clusters slots n : ℕ) (hands : List ClaimHand) → IsClaimed clusters slots n hands → n + 1 < 2 ^ 64
word_fits clusters slots n hands c = omega (arith, sum_by-le kept_in 1 hands (λ k d lt. grind arith), c.many, c.room, c.small)

pub claimed_again : (clusters slots n : ℕ) (hands now : List ClaimHand) → IsPermutation hands now → IsClaimed clusters slots n hands → IsClaimed clusters slots n now
claimed_again clusters slots n hands now same c = record {
  small = c.small;
  many = length_permutation hands now same ∙ c.many;
  shared = shared_again drawn_by (min n clusters) hands now same c.shared;
  room = omega (arith, c.room, sum_by-IsPermutation kept_in hands now same);
  each = All-permutation (IsHand clusters n) hands now same c.each;
}

lower_still : (a b : ℕ) (h : ClaimHand) → a ≤ b → IsOver b h → IsOver a h
lower_still a b h le o = record {
  looked = IfSome_then h.looked o.looked (λ n k. omega (arith, k));
  passed = IfSome_then h.passed o.passed (λ p k. (omega (arith, k.0), k.1, k.2));
  lowered = IfSome_then h.lowered o.lowered (λ n k. omega (arith, k));
}

abbrev lowered_by : ClaimHand → Option ℕ
lowered_by h = h.lowered

module _ (clusters b : ℕ) (h : ClaimHand) (rest : List ClaimHand) (c : IsBarred clusters b (h ∷ rest)) where
  mine : IsOver b h
  mine = All-head (IsOver b) h rest c.each

  theirs : All (IsOver b) rest
  theirs = All-tail (IsOver b) h rest c.each

  pub draw_barred : (n : ℕ) → h.passed ≡ None → IsBarred clusters b (draw h n ∷ rest)
  draw_barred n unpassed =
      let over : (kept : Option ℕ) (drawn : List ℕ) → IsOver b record h { drawn = drawn; kept = kept; looked = None } = λ kept drawn. record { looked = tt; passed = rw unpassed tt; lowered = mine.lowered } in
      drawn_hand (λ g. IsBarred clusters b (g ∷ rest)) h n
      (λ _. record { most = c.most; least = c.least; each = All-cons (IsOver b) _ rest (over _ _) theirs })
      (λ _. record { most = c.most; least = c.least; each = All-cons (IsOver b) _ rest (over _ _) theirs })

  pub look_barred : h.passed ≡ None → 0 < length h.drawn → IsBarred clusters b (look h b ∷ rest)
  look_barred unpassed some_drawn =
      let over : IsOver b (look h b) = record { looked = omega arith; passed = grind (arith, common_steps); lowered = mine.lowered } in
      record { most = c.most; least = c.least; each = All-cons (IsOver b) (look h b) rest over theirs }

  pub lower_barred : (n : ℕ) → h.lowered ≡ None → IsBarred clusters (min b n) (lower h n ∷ rest)
  lower_barred n unlowered = record {
    most = (let m = c.most in omega arith);
    least = λ less. grind (arith, cases_lt n b, c.least, still);
    each = All-cons (IsOver (min b n)) (lower h n) rest record { looked = under.looked; passed = under.passed; lowered = omega arith }
        (All-weaker (IsOver b) (IsOver (min b n)) (λ u o. lower_still (min b n) b u (omega arith) o) rest theirs);
  }
    where
      under : IsOver (min b n) h
      under = lower_still (min b n) b h (omega arith) mine

      -- another hand lowered the bar to b
      still : (k : ℕ) → k < length (map lowered_by (h ∷ rest)) → get_or (map lowered_by (h ∷ rest)) k (Some b) ≡ Some b → Contains (map lowered_by (lower h n ∷ rest)) (Some b)
      still zero lt is = absurd (cc)
      still (suc k) lt is = (suc k, omega arith, is)

pub barred_again : (clusters b : ℕ) (hands now : List ClaimHand) → IsPermutation hands now → IsBarred clusters b hands → IsBarred clusters b now
barred_again clusters b hands now same c = record {
  most = c.most;
  least = λ lt. Contains-permutation (map lowered_by hands) (map lowered_by now) (Some b) (IsPermutation-map lowered_by hands now same) (c.least lt);
  each = All-permutation (IsOver b) hands now same c.each;
}

-- ---- Each step at the table keeps the rule.

-- a seat with one hand
abbrev Alone : Me ℕ (List ClaimHand) → Type 0
Alone me = me ≡ (hand_of me.0 ∷ [], [])

-- the rule says nothing of the hands' order
pub again : (key : ℕ × ℕ) (words : List ℕ) (hands now : List ClaimHand) → IsPermutation hands now → AreClaimed key words hands → AreClaimed key words now
again key words hands now same claimed =
    (claimed.0, claimed.1, claimed.2, claimed_again key.0 key.1 claimed.0 hands now same claimed.3, barred_again key.0 claimed.1 hands now same claimed.4)

pub draws : (key : ℕ × ℕ) (places id : ℕ) (me : Me ℕ (List ClaimHand)) → Alone me → (hand_of me.0).kept ≡ None → (hand_of me.0).passed ≡ None
    → Allows (Claimed key) places id me 0 bump (Drew (step places 0 1 0 none) me)
draws key places id me is free unpassed = let h = hand_of me.0 in let then = Drew (step places 0 1 0 none) me in steps (AreClaimed key) (again key) places id me h 0 bump then is (λ words rest r.
    let w = r.0 in
    let room = word_fits key.0 key.1 w (h ∷ rest) r.3 in
    let next : (w + 1) % 2 ^ 64 ≡ w + 1 = omega arith in
    subst (Keeps (AreClaimed key) (again key) h 0 bump then rest) (sym r.2) (
      draw h w,
      (w + 1, r.1, ap (λ n. n ∷ r.1 ∷ []) next, drawn_keeps key.0 key.1 w h rest r.3 free, draw_barred key.0 r.1 h rest r.4 w unpassed),
      (refl, drawn_rises key.0 key.1 w h rest r.3),
    ))

pub looks : (key : ℕ × ℕ) (places id : ℕ) (me : Me ℕ (List ClaimHand)) → Alone me → (hand_of me.0).passed ≡ None → 0 < length (hand_of me.0).drawn
    → Allows (Claimed key) places id me 1 (λ n. n) (Looked (step places 1 0 0 none) me)
looks key places id me is unpassed some_drawn = let h = hand_of me.0 in let then = Looked (step places 1 0 0 none) me in steps (AreClaimed key) (again key) places id me h 1 (λ n. n) then is (λ words rest r.
    subst (Keeps (AreClaimed key) (again key) h 1 (λ n. n) then rest) (sym r.2)
    (look h r.1, (r.0, r.1, refl, same_claimed key.0 key.1 r.0 h rest r.3 (Some r.1) (look h r.1).passed h.lowered, look_barred key.0 r.1 h rest r.4 unpassed some_drawn), refl))

pub lowers : (key : ℕ × ℕ) (places id to : ℕ) (me : Me ℕ (List ClaimHand)) → Alone me → (hand_of me.0).lowered ≡ None
    → Allows (Claimed key) places id me 1 (λ n. min n to) (Lowered (step places 1 to 0 none) me)
lowers key places id to me is unlowered = let h = hand_of me.0 in let then = Lowered (step places 1 to 0 none) me in steps (AreClaimed key) (again key) places id me h 1 (λ n. min n to) then is (λ words rest r.
    subst (Keeps (AreClaimed key) (again key) h 1 (λ n. min n to) then rest) (sym r.2)
    (lower h to, (r.0, min r.1 to, refl, same_claimed key.0 key.1 r.0 h rest r.3 h.looked h.passed (Some to), lower_barred key.0 r.1 h rest r.4 to unlowered), refl))

-- at first no hand did anything
pub opens : (key : ℕ × ℕ) → key.0 < 2 ^ 32 → key.1 < 2 ^ 32 → AreClaimed key (0 ∷ key.0 ∷ []) (opening_hands key ++ [])
opens key few few' = subst (AreClaimed key (0 ∷ key.0 ∷ [])) (sym (append-nil (opening_hands key))) (
  0,
  key.0,
  refl,
  record {
    small = (few, few');
    many = length-replicate _ _;
    shared = subst (DrawnBy (map drawn_by (opening_hands key))) (omega arith) (none_shared drawn_by (empty_hand key.0) key.1 refl);
    room = omega (arith, sum_by-le (λ (h : ClaimHand). kept_count h.kept) 0 (opening_hands key) (All-replicate (λ (h : ClaimHand). kept_count h.kept ≤ 0) key.1 (empty_hand key.0) (omega arith)));
    each = All-replicate (IsHand key.0 0) key.1 (empty_hand key.0) record { same = refl; past = tt };
  },
  record { most = omega arith; least = λ lt. absurd (omega arith); each = All-replicate (IsOver key.0) key.1 (empty_hand key.0) record { looked = tt; passed = tt; lowered = tt } },
)

-- what the last state of the table says of the hands of a view that has all
pub finished : (key : ℕ × ℕ) (id : ℕ) (v : List ClaimHand) (words xs : List ℕ) (word bar : ℕ) → Final (Seen (Claimed key) id v) words xs → get_elem? words 0 ≡ some word → get_elem? words 1 ≡ some bar → length v ≡ key.1
    → IsClaimed key.0 key.1 word v × IsBarred key.0 bar v
finished key id v words xs word bar final read read' whole =
    let r = again key _ _ v (all_in_one final.0.views id v final.1.1 (final.1.0.3.many ∙ sym whole)) final.1.0 in
    let is : r.0 ≡ word = some-injective r.0 word (ap (λ ws. get_elem? ws 0) (sym r.2 ∙ final.2) ∙ read) in
    let is' : r.1 ≡ bar = some-injective r.1 bar (ap (λ ws. get_elem? ws 1) (sym r.2 ∙ final.2) ∙ read') in
    (subst (λ n. IsClaimed key.0 key.1 n v) is r.3, subst (λ n. IsBarred key.0 n v) is' r.4)

-- a seat that drew a cluster may look
pub may_look : (h : ClaimHand) (n : ℕ) (me : Me ℕ (List ClaimHand)) → me ≡ (draw h n ∷ [], []) → n < h.clusters → h.passed ≡ None → (me ≡ (hand_of me.0 ∷ [], [])) × ((hand_of me.0).passed ≡ None) × (0 < length (hand_of me.0).drawn)
may_look h n me is lt unpassed = subst (λ (m : Me ℕ (List ClaimHand)). (m ≡ (hand_of m.0 ∷ [], [])) × ((hand_of m.0).passed ≡ None) × (0 < length (hand_of m.0).drawn)) (sym is)
    (refl, drawn_hand (λ g. g.passed ≡ None) h n (λ _. unpassed) (λ _. unpassed), drawn_hand (λ g. 0 < length g.drawn) h n (λ _. omega (arith, length-append h.drawn (n ∷ []))) (λ le. absurd (omega arith)))

-- a rising list has no more numbers than stand below its last
pub rising_room : (xs : List ℕ) (n : ℕ) → IsStrictlyIncreasing (xs ++ n ∷ []) → length xs ≤ n
rising_room xs n up =
    let most = at_least (xs ++ n ∷ []) up (length xs) (omega (arith, length-append xs (n ∷ []))) in
    grind (arith, common_steps)
  where
    at_least : (ys : List ℕ) → IsStrictlyIncreasing ys → (k : ℕ) → k < length ys → k ≤ slice_index ys k
    at_least ys up zero lt = omega arith
    at_least ys up (suc k) lt = grind (arith, at_least ys up k, up k)

pub draw_room : (h : ClaimHand) (n : ℕ) → n < h.clusters → IsStrictlyIncreasing (draw h n).drawn → length h.drawn ≤ n
draw_room h n lt up = rising_room h.drawn n (subst (λ (g : ClaimHand). IsStrictlyIncreasing g.drawn) (cond-true (ltb n h.clusters) _ _ (lt-ltb n h.clusters lt)) up)

-- ---- Seats that did nothing.

pub seats_many : (c : ClaimsSeen) (n : ℕ) (seats : List SeatSeen) → seats ≡ fresh_seats c n → length seats ≡ n
seats_many c n seats is = ap length is ∙ length-map (range_with_len 0 n) (fresh_seat c) ∙ length-range_with_len 0 n

pub seats_ready : (c : ClaimsSeen) (n : ℕ) (seats : List SeatSeen) → seats ≡ fresh_seats c n → All (IsReady c) seats
seats_ready c n seats is =
    subst (All (IsReady c)) (sym is)
    (All-map (IsReady c) (fresh_seat c) (range_with_len 0 n) (λ k d lt. record { of = (refl, refl); undrawn = refl; unkept = refl; unpassed = refl; unlowered = refl }))

-- ---- the entries whose number is between two bounds, trail by trail: one trail

-- of numbers, the m ones from place s on are those that are less than a bound, but not less than a lower one
pub record IsStretch (ns : List ℕ) (low bound s m : ℕ) : Type 0 where
  pub fits : s + m ≤ length ns
  pub before : (k : ℕ) → k < s → get_or ns k 0 < low
  pub inside : (k : ℕ) → s ≤ k → k < s + m → (low ≤ get_or ns k 0) × (get_or ns k 0 < bound)
  pub after : (k : ℕ) → s + m ≤ k → k < length ns → bound ≤ get_or ns k 0

module _ (ns : List ℕ) (low high s e : ℕ) (le : low ≤ high) (start : IsPartitionPoint (λ y. nat_lt y low ≡ true) (λ y. nat_lt y low ≡ false) ns s)
    (end : IsPartitionPoint (λ y. nat_lt y high ≡ true) (λ y. nat_lt y high ≡ false) ns e) (within : s ≤ length ns) (within' : e ≤ length ns) where
  pub is_stretch : IsStretch ns low high s (e - s) × (s ≤ e)
  is_stretch = let in_order : s ≤ e = grind (arith, ltb-true, ltb-false, cases_lt) in grind (arith, ltb-true, ltb-false)

-- without the first number
shifted : (n : ℕ) (ns : List ℕ) (low high s m s' m' : ℕ) → s' ≡ s - 1 → suc (s' + m') ≡ s + m → IsStretch (n ∷ ns) low high s m → IsStretch ns low high s' m'
shifted n ns low high s m s' m' less same h = record {
  fits = (let f = h.fits in omega arith);
  before = λ k lt. h.before (suc k) (omega arith);
  inside = λ k le lt. h.inside (suc k) (omega arith) (omega arith);
  after = λ k le lt. h.after (suc k) (omega arith) (omega arith);
}

module _ {P : Type 0} where
  none_kept : (low high : ℕ) (ns : List ℕ) (ts : List P) → ((k : ℕ) → k < length ns → high ≤ get_or ns k 0) → added_in ns low high ts ≡ []
  none_kept low high (n ∷ ns) (t ∷ ts) h = grind (arith, common_steps, h 0, none_kept low high ns ts (λ k lt. h (suc k) (omega arith)))
  none_kept low high ns ts h = refl

  -- they stand together
  pub stretch : (ns : List ℕ) (low high : ℕ) (ts : List P) (s m : ℕ) → length ns ≡ length ts → IsStretch ns low high s m → take m (drop s ts) ≡ added_in ns low high ts
  stretch ns low high ts zero zero same h = sym (none_kept low high ns ts (λ k lt. h.after k (omega arith) lt))
  stretch [] low high ts s m same h = (let f = h.fits in grind (arith, common_steps))
  stretch (n ∷ ns) low high [] s m same h = absurd (omega arith)
  stretch (n ∷ ns) low high (t ∷ ts) (suc s) m same h = grind (arith, common_steps, h.before 0, stretch ns low high ts s m (omega arith) (shifted n ns low high (suc s) m s m (omega arith) (omega arith) h))
  stretch (n ∷ ns) low high (t ∷ ts) zero (suc m) same h = grind (arith, common_steps, h.inside 0, stretch ns low high ts zero m (omega arith) (shifted n ns low high zero (suc m) zero m (omega arith) (omega arith) h))

  -- ---- all trails, of which those from place i on are left

  module _ (os : List (List ℕ)) (ts : List (List (Noted P))) (have : HaveNumbers os ts) where
    pub as_many : length os ≡ length ts
    as_many = sym (length-map os length) ∙ ap length have ∙ length-map ts length

    pub as_long : (i : ℕ) (o : List ℕ) (t : List (Noted P)) → slice_get os i ≡ Some o → slice_get ts i ≡ Some t → length o ≡ length t
    as_long i o t at there =
        same_some (sym (slice_get-map length os i ∙ ap (option_map length) at) ∙ ap (λ l. slice_get l i) have ∙ slice_get-map length ts i ∙ ap (option_map length) there)

  abbrev left : List (List ℕ) → List (List (Noted P)) → ℕ → ℕ → ℕ → List (Noted P)
  left os ts low high i = added (drop i os) low high (drop i ts)

  -- so far there are the clusters and the pieces of these entries
  pub record AreSoFar (os : List (List ℕ)) (ts : List (List (Noted P))) (low high i : ℕ) (clusters : List ℕ) (pieces : List P) : Type 0 where
    pub here : List (Noted P)
    pub are : AreOf clusters pieces here
    pub whole : here ++ left os ts low high i ≡ added os low high ts

  pub trail_added : (os : List (List ℕ)) (ts : List (List (Noted P))) (low high i : ℕ) (o : List ℕ) (t : List (Noted P)) (clusters clusters' : List ℕ) (pieces pieces' : List P)
      → AreSoFar os ts low high i clusters pieces → slice_get os i ≡ Some o → slice_get ts i ≡ Some t
      → clusters' ≡ clusters ++ map cluster_in (added_in o low high t) → pieces' ≡ pieces ++ map piece_in (added_in o low high t) → AreSoFar os ts low high (i + 1) clusters' pieces'
  trail_added os ts low high i o t clusters clusters' pieces pieces' f at there c p =
      let more = added_in o low high t in
      let os_are = drop_more os i o (slice_get_within os i o at) ∙ ap (λ y. y ∷ drop (i + 1) os) (get_or_from_slice_get os i o o at) in
      let ts_are = drop_more ts i t (slice_get_within ts i t there) ∙ ap (λ y. y ∷ drop (i + 1) ts) (get_or_from_slice_get ts i t t there) in
      let split = ap₂ (λ x y. added x low high y) os_are ts_are ∙ kept_both low high (zip o t) _ in
      record {
        here = f.here ++ more;
        are = grind (arith, map-append, f.are.clusters_are, f.are.pieces_are);
        whole = append_assoc f.here more (left os ts low high (i + 1)) ∙ ap (λ l. f.here ++ l) (sym split) ∙ f.whole;
      }

  -- once all trails are gone through
  pub all_added : (os : List (List ℕ)) (ts : List (List (Noted P))) (low high i : ℕ) (clusters : List ℕ) (pieces : List P) → length os ≤ i → AreSoFar os ts low high i clusters pieces → AreOf clusters pieces (added os low high ts)
  all_added os ts low high i clusters pieces le f = subst (AreOf clusters pieces) (sym (append-nil f.here) ∙ ap (λ l. f.here ++ added l low high (drop i ts)) (sym (drop_all i os le)) ∙ f.whole) f.are

  -- one more entry was appended
  pub entry_appended : {B : Type 0} (f : Noted P → B) (old new all : List B) (entries : List (Noted P)) (i : ℕ) (e : Noted P)
      → i < length entries → e ≡ get_or entries i e → new ≡ all ++ f e ∷ [] → all ≡ old ++ map f (take i entries) → new ≡ old ++ map f (take (i + 1) entries)
  entry_appended f old new all entries i e lt is more before =
      more ∙ ap (λ l. l ++ f e ∷ []) before ∙ append_assoc old (map f (take i entries)) (f e ∷ []) ∙ ap (λ l. old ++ l) (ap (λ x. map f (take i entries) ++ f x ∷ []) is ∙ sym (map_more f entries i e lt))

-- ---- the watched results, one after another: their trails in the pieces, and their lines

module _ (facts : LoopFacts) (places : List ℕ) (dones : List (List ℕ)) (pieces : List LoopPiece) (have : HaveAllTrails facts places dones pieces) where
  -- each piece has a trail at each watched place
  pub trails_there : (w : ℕ) → w < length places → All (λ (p : LoopPiece). w < length p.trails.items) pieces
  trails_there w lt = λ k d inside.
      let many = (have.each k (get_or dones k []) (get_or pieces k d) (slice_get-get_or dones k [] (omega (arith, have.many))) (slice_get-get_or pieces k d inside)).many in
      omega (arith, many)

  -- the trails at a watched place
  pub trails_are : (w place : ℕ) → slice_get places w ≡ Some place → AreTrails facts place dones (trails_at w pieces)
  trails_are w place at = record {
    many = length-map pieces (λ (p : LoopPiece). get_or p.trails.items w []) ∙ have.many;
    each = λ k done t a b.
        (let p = something_at pieces k (omega (arith, slice_get_within dones k done a, have.many)) in
        let its = have.each k done p.0 a p.1 in
        let there = slice_get-get_or p.0.trails.items w [] (omega (arith, its.many, slice_get_within places w place at)) in
        let same = sym (slice_get-map (λ (q : LoopPiece). get_or q.trails.items w []) pieces k ∙ ap (option_map (λ (q : LoopPiece). get_or q.trails.items w [])) p.1) ∙ b in
        its.each w place t at (there ∙ same));
  }

-- the trail of that number of a piece
pub trail_there : (w i : ℕ) (os : List (List ℕ)) (pieces : List LoopPiece) (p : LoopPiece) (t trail : List (Noted WatchPiece)) → HaveNumbers os (trails_at w pieces) → All (λ (q : LoopPiece). w < length q.trails.items) pieces → i < length os
    → t ≡ get_or (get_or pieces i p).trails.items w t → trail ≡ t → slice_get (trails_at w pieces) i ≡ Some trail
trail_there w i os pieces p t trail have there lt is same = grind (arith, as_many, length-map, slice_get-map, slice_get-get_or, get_or_default)

-- the lines of the results before place w
pub record AreLinesUpTo (facts : LoopFacts) (places : List ℕ) (sets : List (List ℕ)) (w : ℕ) (all : List (List PartialLine)) : Type 0 where
  pub many : length all ≡ w
  pub each : (i place : ℕ) (lines : List PartialLine) → slice_get places i ≡ Some place → slice_get all i ≡ Some lines → ArePartialLines facts place sets lines

pub more_lines : (facts : LoopFacts) (places : List ℕ) (sets : List (List ℕ)) (w place : ℕ) (all now : List (List PartialLine)) (lines : List PartialLine)
    → AreLinesUpTo facts places sets w all → slice_get places w ≡ Some place → ArePartialLines facts place sets lines → now ≡ all ++ lines ∷ [] → AreLinesUpTo facts places sets (w + 1) now
more_lines facts places sets w place all now lines h at one is = record {
  many = ap length is ∙ omega (arith, length-append all (lines ∷ []), h.many);
  each = λ i other ls a b. grind (arith, before_or_last all lines i ls, h.each i other ls a, h.many, same_some, at, is, b, one);
}
