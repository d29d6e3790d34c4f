-- Names between commas, part by part.
use Rattle.lemmas.proofs.{if◌then◌else◌, ◌≡◌, ◌<◌, ◌≤◌, ◌+◌, ℕ, List, [], ◌∷◌, ◌++◌, length, Bool, true, false, ◌&&◌, None, Some, Option, arith, refl, suc, ap, ◌∙◌, length-append, append-nil, MatchOption, cond, nat_le, nat_lt, position, after_first, before_first, Bor, drop_all, list_all, nat_tests, position_or_len, slice_split}
use Rattle.rdf_values.specs.{is_colon, is_name}
use Rattle.snapshot_plan.specs.{Under}
use Rattle.snapshot_plan.specs.declared.under.Under.TheVariants.{Varied}
use Rattle.snapshot_words.specs.{if_names, is_comma, names_of, varied_of}

-- the parts that are left
abbrev pub parts_of : Option (Bor (List ℕ)) → List (List ℕ)
parts_of None = []
parts_of (Some rest) = slice_split is_comma rest.now

abbrev pub size_of : Option (Bor (List ℕ)) → ℕ
size_of None = 0
size_of (Some rest) = suc (length rest.now)

-- the names that were read are the first parts, and those parts are left
pub record AreRead (text : List ℕ) (read left : List (List ℕ)) : Type 0 where
  pub parts : slice_split is_comma text ≡ read ++ left
  pub named : list_all is_name read ≡ true
  pub few : length read ≤ 64

pub parts_first : (o : Option (Bor (List ℕ))) (parts : List (List ℕ)) (part : List ℕ) (size : ℕ)
    → MatchOption o (parts ≡ part ∷ []) (λ rest. (parts ≡ part ∷ slice_split is_comma rest.now) × (length rest.now < size))
    → (parts ≡ part ∷ parts_of o) × (size_of o < suc size)
parts_first None parts part size h = (h, omega arith)
parts_first (Some rest) parts part size h = (h.0, omega arith)

pub nothing_read : (text : List ℕ) → AreRead text [] (slice_split is_comma text)
nothing_read text = record { parts = refl; named = refl; few = omega arith }

-- ---- lists of names

one_bad : (read : List (List ℕ)) (part : List ℕ) (left : List (List ℕ)) → is_name part ≡ false → list_all is_name (read ++ part ∷ left) ≡ false
one_bad [] part left p = rw p refl
one_bad (x ∷ xs) part left p = go (is_name x) (one_bad xs part left p)
  where
    go : (b : Bool) → list_all is_name (xs ++ part ∷ left) ≡ false → b && list_all is_name (xs ++ part ∷ left) ≡ false
    go true more = more
    go false more = refl

bad_and : (few : Bool) (parts : List (List ℕ)) (all : Bool) → all ≡ false → (if all && few then Some parts else None) ≡ None
bad_and few parts true e = absurd (cc e)
bad_and few parts false e = refl

and_bad : (few : Bool) (parts : List (List ℕ)) (all : Bool) → few ≡ false → (if all && few then Some parts else None) ≡ None
and_bad true parts all e = absurd (cc e)
and_bad false parts true e = refl
and_bad false parts false e = refl

and_both : (few : Bool) (parts : List (List ℕ)) (all : Bool) → all ≡ true → few ≡ true → (if all && few then Some parts else None) ≡ Some parts
and_both true parts true e f = refl
and_both true parts false e f = absurd (cc e)
and_both false parts all e f = absurd (cc f)

-- ---- the loop

pub bad_part : (text : List ℕ) (read left : List (List ℕ)) (part : List ℕ) → AreRead text read (part ∷ left) → is_name part ≡ false → names_of text ≡ None
unfolding names_of
bad_part text read left part r p =
    ap if_names r.parts ∙ bad_and (nat_le (length (read ++ part ∷ left)) 64) (read ++ part ∷ left) (list_all is_name (read ++ part ∷ left)) (one_bad read part left p)

pub too_many : (text : List ℕ) (read left : List (List ℕ)) (part : List ℕ) → AreRead text read (part ∷ left) → 64 ≤ length read → names_of text ≡ None
unfolding names_of
too_many text read left part r h =
    let long = length-append read (part ∷ left) in
    let over : nat_le (length (read ++ part ∷ left)) 64 ≡ false = grind (arith, nat_tests, long) in
    ap if_names r.parts ∙ and_bad (nat_le (length (read ++ part ∷ left)) 64) (read ++ part ∷ left) (list_all is_name (read ++ part ∷ left)) over

pub all_read : (text : List ℕ) (read : List (List ℕ)) → AreRead text read [] → names_of text ≡ Some read
unfolding names_of
all_read text read r =
    let within : nat_le (length read) 64 ≡ true = grind (arith, nat_tests, r.few) in
    ap if_names (r.parts ∙ append-nil read) ∙ and_both (nat_le (length read) 64) read (list_all is_name read) r.named within

-- ---- a variation

bad_tag : (name tag : List ℕ) → is_name tag ≡ false → varied_of name tag ≡ None
bad_tag name tag e = go (is_name name) (is_name tag) e
  where
    go : (a b : Bool) → b ≡ false → ◌≡◌ {A = Option Under} (if a && b then Some (Varied name tag) else None) None
    go true true e = absurd (cc e)
    go true false e = refl
    go false b e = refl

nothing_behind : (text : List ℕ) (b : Bool) → nat_lt (position_or_len is_colon text) (length text) ≡ b → cond b (Some (position_or_len is_colon text)) None ≡ None → after_first is_colon text ≡ []
nothing_behind text true l e = absurd (cc e)
nothing_behind text false l e = drop_all (position_or_len is_colon text + 1) text (grind (arith, nat_tests, l))

no_name : (tag : List ℕ) → tag ≡ [] → is_name tag ≡ false
unfolding is_name
no_name tag e = rw e refl

-- a word without a colon names no variation
pub no_colon : (text : List ℕ) → position is_colon text ≡ None → varied_of (before_first is_colon text) (after_first is_colon text) ≡ None
no_colon text e =
    bad_tag (before_first is_colon text) (after_first is_colon text) (no_name (after_first is_colon text) (nothing_behind text (nat_lt (position_or_len is_colon text) (length text)) refl e))
