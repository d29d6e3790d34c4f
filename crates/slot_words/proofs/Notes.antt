-- A noting keeps the rule of the book's word.
use Rattle.lemmas.proofs.{◌≡◌, ℕ, map, ◌+◌, ◌*◌, ◌%◌, ◌^◌, ◌<◌, ◌≤◌, List, [], ◌∷◌, ◌++◌, length, refl, sym, ap, ◌∙◌, subst, arith, length-append, append-nil, mul-le-mul_right, IsPermutation, All-cons, All-permutation, All-replicate, All-tail, length-replicate, length_permutation, sum_by-le}
use mathlib.Core.Option.{none}
use Rattle.atomic_table.specs.Table.{Me, step, Final, Seen, Allows}
use Rattle.rdf_values.specs.{DrawnBy}
use Rattle.rdf_values.proofs.UnionLemmas.{sum_by-map}
use Rattle.slot_words.specs.declared.seat.NoteHand.{NoteHand}
use Rattle.slot_words.specs.{AreNotings, hand_with, IsNoted, many_in, Noted}
use Rattle.slot_words.specs.Noting.{Drew, draw, opening_hands}
use Rattle.slot_words.proofs.Hands.{all_in_one, many_drawn, next_drawn, next_rises, none_shared, shared_again, Keeps, bump, steps}

abbrev pub noted_by : NoteHand → List ℕ
noted_by h = h.drawn

-- the rule says nothing of the hands' order
pub again : (key : ℕ × ℕ) (words : List ℕ) (hands now : List NoteHand) → IsPermutation hands now → AreNotings key words hands → AreNotings key words now
again key words hands now same noted =
    let c = noted.2 in
    let fits = All-permutation (λ k. length k.drawn ≤ key.0) hands now same c.fits in
    (noted.0, noted.1, record { small = c.small; many = length_permutation hands now same ∙ c.many; shared = shared_again noted_by noted.0 hands now same c.shared; fits = fits })

pub notes : (key : ℕ × ℕ) (places id : ℕ) (me : Me ℕ (List NoteHand)) (numbers : List ℕ) → me ≡ (hand_with numbers ∷ [], []) → length numbers < key.0
    → Allows (Noted key) places id me 0 bump (Drew (step places 0 1 0 none) me)
notes key places id me numbers is room = let then = Drew (step places 0 1 0 none) me in steps (AreNotings key) (again key) places id me (hand_with numbers) 0 bump then is (λ words rest r.
    let w = r.0 in
    let c = r.2 in
    let hands = hand_with numbers ∷ rest in
    let rows : length hands * key.0 ≤ 16 * key.0 = mul-le-mul_right key.0 (omega (arith, c.many, c.small.1)) in
    let next : (w + 1) % 2 ^ 64 ≡ w + 1 =
    omega (arith, sum_by-le (λ h. length h.drawn) key.0 hands c.fits, many_drawn (map noted_by hands) w c.shared, sum_by-map length noted_by hands, c.small.0) in
    let fits = λ (h : NoteHand). length h.drawn ≤ key.0 in
    let now = hand_with (numbers ++ w ∷ []) in
    let kept : IsNoted key.0 key.1 (w + 1) (now ∷ rest) = record {
      small = c.small;
      many = c.many;
      shared = next_drawn numbers (map noted_by rest) w c.shared w (w + 1) refl refl;
      fits = All-cons fits now rest (omega (arith, length-append numbers (w ∷ []))) (All-tail fits (hand_with numbers) rest c.fits);
    } in
    subst (Keeps (AreNotings key) (again key) (hand_with numbers) 0 bump then rest) (sym r.1)
    (now, (w + 1, ap (λ n. n ∷ []) next, kept), (ap (λ m. (draw m.0 w, m.1)) (sym is), next_rises numbers (map noted_by rest) w c.shared w refl)))

-- at first no hand did anything
pub opens : (key : ℕ × ℕ) → key.0 < 2 ^ 32 → key.1 ≤ 16 → AreNotings key (0 ∷ []) (opening_hands key ++ [])
opens key few few' = subst (AreNotings key (0 ∷ [])) (sym (append-nil (opening_hands key))) (
  0,
  refl,
  record {
    small = (few, few');
    many = length-replicate _ _;
    shared = none_shared noted_by (hand_with []) key.1 refl;
    fits = All-replicate (λ (h : NoteHand). length h.drawn ≤ key.0) key.1 (hand_with []) (omega arith);
  },
)

-- once one view has all hands, they share out the numbers drawn
pub closed : (key : ℕ × ℕ) (id : ℕ) (v : List NoteHand) (words xs : List ℕ) → Final (Seen (Noted key) id v) words xs → length v ≡ key.1 → DrawnBy (map noted_by v) (many_in (map noted_by v))
closed key id v words xs final whole =
    let noted = again key _ _ v (all_in_one final.0.views id v final.1.1 (final.1.0.2.many ∙ sym whole)) final.1.0 in
    subst (DrawnBy (map noted_by v)) (sym (many_drawn (map noted_by v) noted.0 noted.2.shared)) noted.2.shared
