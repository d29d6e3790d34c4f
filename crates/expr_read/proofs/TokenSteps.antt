-- The tokens of a text, one by one: how many bytes each takes, and what holds of it.
use Rattle.lemmas.proofs.{◌≡◌, ◌≤◌, ◌<◌, ◌+◌, ℕ, Bool, true, false, List, [], ◌∷◌, length, Option, Some, None, Ok, Err, arith, refl, sym, ap, subst, ◌∙◌, length-take, length-drop, ◌-◌, get_or, drop, take, take_while, nat_le, codes, ◌||◌, MatchResult, IfSome, if◌then◌else◌, suc, ◌++◌, add-zero, append_assoc, length-append, Result, zero, both_true, common_steps, drop_more, list_all, nat_tests, prefix_len, take_while-cons, append-nil, drop-drop, drop_all, and_from, prefix_len-le-length}
use Rattle.rdf_values.specs.{First, first_token, is_digit, is_name, is_word, is_word_byte, is_word_start, long_first, long_mark, long_marks, magnitude_of, mark_first, number_first, number_found, Refusal, same, short_first, short_mark, Token, word_first, and_then, before, from, is_blank, Placed, tokens_at, tokens_within, bare, behind, blanks, tokens}
use Rattle.rdf_values.specs.expressions.Tokens.{mark_in, too_many}
use Rattle.rdf_values.proofs.OneText.{magnitude_bound}
use Rattle.expr_read.specs.{is_valid, are_valid}

-- a token has at least one byte, no more than there are, and is valid; a refusal stands within them
abbrev pub IsFine : ℕ → First → Type 0
IsFine n first = MatchResult first (λ t. (0 < t.1) × (t.1 ≤ n) × (is_valid t.0 ≡ true)) (λ e. e.place ≤ n)

-- ---- runs

passes_by : (p : ℕ → Bool) (x : ℕ) (xs : List ℕ) (b : Bool) → p x ≡ b → list_all p xs ≡ true → list_all p (if b then x ∷ xs else []) ≡ true
passes_by p x xs b e h = grind arith

pub run_passes : (p : ℕ → Bool) (xs : List ℕ) → list_all p (take_while p xs) ≡ true
run_passes p [] = refl
run_passes p (x ∷ xs) = rw take_while-cons (passes_by p x (take_while p xs) (p x) refl (run_passes p xs))

pub word_run : (c : ℕ) (cs : List ℕ) → is_word_start c ≡ true → take_while is_word_byte (c ∷ cs) ≡ c ∷ take_while is_word_byte cs
word_run c cs h = let first : is_word_byte c ≡ true = ap (λ (b : Bool). b || is_digit c) h in rw (take_while-cons, first) refl

pub run_size : (p : ℕ → Bool) (xs : List ℕ) → length (take_while p xs) ≤ length xs
run_size p xs = omega (arith, length-take {A = ℕ})

run_begins : (p : ℕ → Bool) (x : ℕ) (xs : List ℕ) → p x ≡ true → 0 < length (take_while p (x ∷ xs))
run_begins p x xs h = rw h (omega (arith, length-take {A = ℕ} (1 + prefix_len p xs) (x ∷ xs)))

-- ---- words, numbers and marks

named : (w : List ℕ) → is_word w ≡ true → nat_le (length w) 64 ≡ true → same w (codes "true") ≡ false → same w (codes "false") ≡ false → is_name w ≡ true
unfolding is_name
named w h few t f = rw (h, few, t, f) refl

word_fine : (w : List ℕ) (n : ℕ) (b : Bool) → nat_le (length w) 64 ≡ b → 0 < length w → length w ≤ n → is_word w ≡ true → IsFine n (word_first w)
unfolding word_first
word_fine w n b e h k r = grind (arith, named, nat_tests)

number_fine : (size n : ℕ) (o : Option ℕ) → ((m : ℕ) → o ≡ Some m → m ≤ 9223372036854775807) → 0 < size → size ≤ n → IsFine n (number_found size o)
number_fine size n o low h k = grind (arith, nat_tests)

run_fine : (ds : List ℕ) (n : ℕ) → 0 < length ds → length ds ≤ n → IsFine n (number_first ds)
unfolding number_first
run_fine ds n h k = number_fine (length ds) n (magnitude_of 9223372036854775807 ds) (λ m e. magnitude_bound 9223372036854775807 m ds e) h k

abbrev IsValidMark : Option Token → Type 0
IsValidMark o = IfSome o (λ t. is_valid t ≡ true)

abbrev are_marks : List (List ℕ × Token) → Bool
are_marks ms = list_all (λ m. is_valid m.1) ms

mark_valid : (ms : List (List ℕ × Token)) (text : List ℕ) → are_marks ms ≡ true → IsValidMark (mark_in ms text)
mark_valid [] text h = tt
mark_valid (m ∷ ms) text h = let p = both_true (is_valid m.1) (are_marks ms) h in grind (arith, p.0, mark_valid ms text p.1)

short_fine : (c n : ℕ) → IsFine (n + 1) (short_first (short_mark c))
unfolding short_mark
short_fine c n = grind (arith, mark_valid)

long_fine : (c d n : ℕ) → IsFine (n + 2) (long_first c (long_mark c d))
unfolding long_mark
long_fine c d n = by_mark (long_mark c d) (mark_valid long_marks (c ∷ d ∷ []) refl)
  where
    by_mark : (o : Option Token) → IsValidMark o → IsFine (n + 2) (long_first c o)
    by_mark None v = let e : n + 2 ≡ (n + 1) + 1 = omega arith in rw e (short_fine c (n + 1))
    by_mark (Some t) v = (omega arith, omega arith, v)

mark_fine : (c : ℕ) (cs : List ℕ) → IsFine (length cs + 1) (mark_first c cs)
mark_fine c [] = short_fine c 0
mark_fine c (d ∷ cs) = let e : length (d ∷ cs) + 1 ≡ length cs + 2 = omega arith in rw e (long_fine c d (length cs))

-- ---- the first token

pub first_word : (c : ℕ) (cs : List ℕ) → is_word_start c ≡ true → first_token c cs ≡ word_first (take_while is_word_byte (c ∷ cs))
unfolding first_token
first_word c cs e = ap (λ (b : Bool). if b then word_first (take_while is_word_byte (c ∷ cs)) else (if is_digit c then number_first (take_while is_digit (c ∷ cs)) else mark_first c cs)) e

pub first_number : (c : ℕ) (cs : List ℕ) → is_word_start c ≡ false → is_digit c ≡ true → first_token c cs ≡ number_first (take_while is_digit (c ∷ cs))
unfolding first_token
first_number c cs e h = grind arith

pub first_mark : (c : ℕ) (cs : List ℕ) → is_word_start c ≡ false → is_digit c ≡ false → first_token c cs ≡ mark_first c cs
unfolding first_token
first_mark c cs e h = rw (e, h) refl

fine_by : (c : ℕ) (cs : List ℕ) (b d : Bool) → is_word_start c ≡ b → is_digit c ≡ d → IsFine (length cs + 1) (first_token c cs)
fine_by c cs true d e h = grind (arith, first_word, word_fine, run_begins, run_size, word_run, run_passes)
fine_by c cs false true e h =
    subst (IsFine (length cs + 1)) (sym (first_number c cs e h)) (run_fine (take_while is_digit (c ∷ cs)) (length cs + 1) (run_begins is_digit c cs h) (omega (arith, run_size is_digit (c ∷ cs))))
fine_by c cs false false e h = subst (IsFine (length cs + 1)) (sym (first_mark c cs e h)) (mark_fine c cs)

pub fine : (c : ℕ) (cs : List ℕ) → IsFine (length cs + 1) (first_token c cs)
fine c cs = fine_by c cs (is_word_start c) (is_digit c) refl refl

-- what a slice of the text from the place on begins with
abbrev pub IsAt : List ℕ → ℕ → First → Type 0
IsAt text i f = (c : ℕ) (cs : List ℕ) → take (length text - i) (drop i text) ≡ c ∷ cs → f ≡ first_token c cs

here : (text : List ℕ) (i : ℕ) (f : First) → i < length text → IsAt text i f → first_token (get_or text i 0) (drop (i + 1) text) ≡ f
here text i f h e = sym (e (get_or text i 0) (drop (i + 1) text) (rw (← drop_more text i 0 h) (grind (arith, common_steps))))

fine_at : (text : List ℕ) (i : ℕ) (f : First) → i < length text → IsAt text i f → IsFine (length text - i) f
fine_at text i f h e =
    let n : length text - i ≡ length (drop (i + 1) text) + 1 = omega (arith, length-drop (i + 1) text) in
    rw (← here text i f h e, n) (fine (get_or text i 0) (drop (i + 1) text))

pub token_sized : (text : List ℕ) (i : ℕ) (t : Token × ℕ) → i < length text → IsAt text i (Ok t) → (0 < t.1) × (i + t.1 ≤ length text)
token_sized text i t h e = let k = fine_at text i (Ok t) h e in (k.0, omega (arith, k.1))

pub refusal_sized : (text : List ℕ) (i : ℕ) (e : Refusal) → i < length text → IsAt text i (Err e) → i + e.place ≤ length text
refusal_sized text i r h e = let k = fine_at text i (Err r) h e in omega (arith, k)

-- ---- One more token of a text.

pub before_more : (ts us : List Placed) (r : Result (List Placed) Refusal) → before ts (before us r) ≡ before (ts ++ us) r
before_more ts us (Ok vs) = ap Ok (sym (append_assoc ts us vs))
before_more ts us (Err e) = refl

pub before_none : (r : Result (List Placed) Refusal) → before [] r ≡ r
before_none r = grind arith

-- ---- at the first byte

pub first_blank : (most place c : ℕ) (cs : List ℕ) → is_blank c ≡ true → tokens_within most place (c ∷ cs) ≡ tokens_within most (place + 1) cs
first_blank most place c cs b = grind arith

begins : (most place c : ℕ) (cs : List ℕ) → is_blank c ≡ false → tokens_within most place (c ∷ cs) ≡ tokens_at most place (c ∷ cs)
begins most place c cs b = rw (b, add-zero) refl

at_first : (most place c : ℕ) (cs : List ℕ) (f : First) → first_token c cs ≡ f → tokens_at (suc most) place (c ∷ cs) ≡ and_then place f (λ size. tokens_within most (place + size) (drop size (c ∷ cs)))
unfolding tokens_at
at_first most place c cs f e = rw e refl

pub first_found : (most place c : ℕ) (cs : List ℕ) (t : Token × ℕ) → is_blank c ≡ false → first_token c cs ≡ Ok t
    → tokens_within (suc most) place (c ∷ cs) ≡ before (record { token = t.0; place = place } ∷ []) (tokens_within most (place + t.1) (drop t.1 (c ∷ cs)))
first_found most place c cs t b e = begins (suc most) place c cs b ∙ at_first most place c cs (Ok t) e

first_bad : (most place c : ℕ) (cs : List ℕ) (r : Refusal) → is_blank c ≡ false → first_token c cs ≡ Err r → tokens_within (suc most) place (c ∷ cs) ≡ Err (from place r)
first_bad most place c cs r b e = begins (suc most) place c cs b ∙ at_first most place c cs (Err r) e

at_limit : (place c : ℕ) (cs : List ℕ) → tokens_at 0 place (c ∷ cs) ≡ Err (too_many place (first_token c cs))
unfolding tokens_at
at_limit place c cs = refl

first_many : (place c : ℕ) (cs : List ℕ) → is_blank c ≡ false → tokens_within 0 place (c ∷ cs) ≡ Err (too_many place (first_token c cs))
first_many place c cs b = begins 0 place c cs b ∙ at_limit place c cs

pub none_within : (most place : ℕ) → tokens_within most place [] ≡ Ok []
unfolding tokens_at
none_within most place = refl

-- ---- at a place of a text, after the tokens found

-- the tokens of a text, of which some were found, and those that may still come begin at the place
abbrev pub goes_on : List Placed → List ℕ → ℕ → Result (List Placed) Refusal
goes_on found text i = before found (tokens_within (256 - length found) i (drop i text))

pub step_blank : (found : List Placed) (text : List ℕ) (i : ℕ) → i < length text → is_blank (get_or text i 0) ≡ true → goes_on found text i ≡ goes_on found text (i + 1)
step_blank found text i h b = rw (drop_more text i 0 h) (ap (before found) (first_blank (256 - length found) i (get_or text i 0) (drop (i + 1) text) b))

pub step_bad : (found : List Placed) (text : List ℕ) (i : ℕ) (e : Refusal) → i < length text → is_blank (get_or text i 0) ≡ false
    → IsAt text i (Err e) → length found < 256
    → goes_on found text i ≡ Err (record { cause = e.cause; place = i + e.place })
step_bad found text i e h b f few =
    let room : 256 - length found ≡ suc (255 - length found) = omega arith in
    rw (drop_more text i 0 h, room) (ap (before found) (first_bad (255 - length found) i (get_or text i 0) (drop (i + 1) text) e b (here text i (Err e) h f)))

pub step_many : (found : List Placed) (text : List ℕ) (i : ℕ) (f : First) → i < length text → is_blank (get_or text i 0) ≡ false
    → IsAt text i f → length found ≡ 256
    → goes_on found text i ≡ Err (too_many i f)
step_many found text i f h b e full = let first = here text i f h e in grind (arith, drop_more, first_many)

pub step_token : (found : List Placed) (text : List ℕ) (i : ℕ) (t : Token × ℕ) → i < length text → is_blank (get_or text i 0) ≡ false
    → IsAt text i (Ok t) → length found < 256
    → goes_on found text i ≡ goes_on (found ++ record { token = t.0; place = i } ∷ []) text (i + t.1)
step_token found text i t h b f few =
    let this : List Placed = record { token = t.0; place = i } ∷ [] in
    let room : 256 - length found ≡ suc (256 - length (found ++ this)) = omega (arith, length-append found this) in
    let left = 256 - length (found ++ this) in
    let first = first_found left i (get_or text i 0) (drop (i + 1) text) t b (here text i (Ok t) h f) in
    let there : drop t.1 (drop i text) ≡ drop (i + t.1) text = drop-drop t.1 i text in
    rw (drop_more text i 0 h, room) (ap (before found) first)
    ∙ before_more found this _
    ∙ ap (λ (xs : List ℕ). before (found ++ this) (tokens_within left (i + t.1) xs)) (ap (drop t.1) (sym (drop_more text i 0 h)) ∙ there)

pub at_end : (found : List Placed) (text : List ℕ) (i : ℕ) → length text ≤ i → goes_on found text i ≡ Ok found
at_end found text i h = rw (drop_all i text h) (ap (before found) (none_within (256 - length found) i) ∙ ap Ok (append-nil found))

-- ---- the tokens of a text are at most 256 and stand in it; their words are names, and their numbers have 64 bits. A refusal stands in the text, or at its end

-- each token stands before a place, or at it
pub data StandBelow (end : ℕ) : List Placed → Type 0 where
  no_tokens : StandBelow end []
  more_tokens : {t : Placed} {ts : List Placed} → t.place ≤ end → StandBelow end ts → StandBelow end (t ∷ ts)

-- tokens are valid, stand there, and are so many at most; a refusal stands there
abbrev pub AreFine : ℕ → ℕ → Result (List Placed) Refusal → Type 0
AreFine most end tokens = MatchResult tokens (λ ts. (are_valid (bare ts) ≡ true) × (length ts ≤ most) × StandBelow end ts) (λ e. e.place ≤ end)

before_fine : (most end : ℕ) (t : Placed) (tokens : Result (List Placed) Refusal) → is_valid t.token ≡ true → t.place ≤ end → AreFine most end tokens → AreFine (suc most) end (before (t ∷ []) tokens)
before_fine most end t (Ok ts) v h k = (and_from (is_valid t.token) (are_valid (bare ts)) v k.0, omega (arith, k.1), more_tokens h k.2)
before_fine most end t (Err e) v h k = k

-- what is behind a token and the blanks after it ends where the text does
same_end : (place size : ℕ) (text : List ℕ) → size ≤ length text → (place + size + blanks (drop size text)) + length (behind size text) ≡ place + length text
same_end place size text h =
    let fewer = prefix_len-le-length is_blank (drop size text) in
    omega (arith, length-drop size text, length-drop (blanks (drop size text)) (drop size text), fewer)

then_fine : (most place : ℕ) (text : List ℕ) (f : First) (others : ℕ → Result (List Placed) Refusal) → IsFine (length text) f
    → ((size : ℕ) → size ≤ length text → AreFine most (place + length text) (others size)) → AreFine (suc most) (place + length text) (and_then place f others)
then_fine most place text f others h k = grind (arith, before_fine)

tokens_fine : (most place : ℕ) (text : List ℕ) → AreFine most (place + length text) (tokens_at most place text)
unfolding tokens_at
tokens_fine most place [] = (refl, omega arith, no_tokens)
tokens_fine zero place (c ∷ text) = grind (arith, fine)
tokens_fine (suc most) place (c ∷ text) =
    let there : ℕ → ℕ = λ size. place + size + blanks (drop size (c ∷ text)) in
    let first : IsFine (length (c ∷ text)) (first_token c text) = let e : length (c ∷ text) ≡ length text + 1 = omega arith in rw e (fine c text) in
    then_fine most place (c ∷ text) (first_token c text) (λ size. tokens_at most (there size) (behind size (c ∷ text))) first
    (λ size h. subst (λ (end : ℕ). AreFine most end (tokens_at most (there size) (behind size (c ∷ text)))) (same_end place size (c ∷ text) h) (tokens_fine most (there size) (behind size (c ∷ text))))

pub all_fine : (text : List ℕ) → AreFine 256 (length text) (tokens text)
all_fine text =
    let end : (0 + blanks text) + length (behind 0 text) ≡ length text = omega (arith, length-drop (blanks text) text, prefix_len-le-length is_blank text) in
    subst (λ (n : ℕ). AreFine 256 n (tokens text)) end (tokens_fine 256 (0 + blanks text) (behind 0 text))

pub valid_tokens : (text : List ℕ) (ts : List Placed) → tokens text ≡ Ok ts → are_valid (bare ts) ≡ true
valid_tokens text ts e = let h = rw e at (all_fine text) in h.0
