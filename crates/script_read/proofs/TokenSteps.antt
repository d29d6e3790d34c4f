-- One more token of a line, its words and integers.
use Rattle.lemmas.proofs.{◌≡◌, ◌∙◌, ◌+◌, ℕ, Bool, true, List, [], ◌∷◌, length, get_or, take, drop, ◌-◌, suc, arith, refl, ap, sym, subst, ◌==◌, ◌||◌, take_while, if◌then◌else◌, ◌≤◌, ◌<◌, ◌++◌, Ok, Err, append_assoc, length-drop, Result, Option, ◌&&◌, ℤ, nat_lt, length-prefix_len, nat_tests, take_rest, append-nil, drop-drop, drop_all, drop_more, list_all}
use Rattle.rdf_values.specs.{integer_lexeme, integer_of, is_blank, is_digit, is_word, is_word_byte, is_word_start, lexeme, word_lexeme, Bad, between, Blank, Comment, content_of, Found, is_name, Lexeme, LineToken, mark_lexeme, PlacedToken, string_lexeme, tokens_from, with_lexeme, with_token}
use Rattle.expr_read.proofs.TokenSteps.{run_passes, word_run, run_size as run_short}
use Rattle.rdf_values.proofs.ScriptSteps.{tokens_behind}

-- ---- runs

take_run : (p : ℕ → Bool) (xs : List ℕ) (n : ℕ) → n ≡ length (take_while p xs) → take n xs ≡ take_while p xs
take_run p xs n e = rw (e, length-prefix_len) refl

-- the word that a text begins with
pub word_taken : (text : List ℕ) (n : ℕ) → is_word_start (get_or text 0 0) ≡ true → n ≡ length (take_while is_word_byte text) → is_word (take n text) ≡ true
word_taken [] n h e = cc h
word_taken (c ∷ cs) n h e = rw (take_run is_word_byte (c ∷ cs) n e, word_run c cs h, h) (run_passes is_word_byte cs)

-- ---- lexemes

-- what begins a word is no blank and no comment
before_word : {A : Type 0} (c : ℕ) (x y z w : A) → is_word_start c ≡ true → (if is_blank c then x else (if c == 35 then y else (if is_word_start c then z else w))) ≡ z
before_word c x y z w h = grind (arith, nat_tests)

before_integer : {A : Type 0} (c : ℕ) (x y v z w : A) → (is_digit c || c == 45) ≡ true
    → (if is_blank c then x else (if c == 35 then y else (if is_word_start c then v else (if is_digit c || c == 45 then z else w)))) ≡ z
before_integer c x y v z w h = grind (arith, nat_tests)

first_word : (place c : ℕ) (cs : List ℕ) → is_word_start c ≡ true → lexeme place c cs ≡ word_lexeme (c ∷ take_while is_word_byte cs)
unfolding lexeme
first_word place c cs h = before_word c _ _ _ _ h

first_integer : (place c : ℕ) (cs : List ℕ) → (is_digit c || c == 45) ≡ true → lexeme place c cs ≡ integer_lexeme (length (take_while is_digit cs)) (integer_of (c ∷ take_while is_digit cs))
unfolding lexeme
first_integer place c cs h = before_integer c _ _ _ _ _ h

pub lexeme_word : (place n c : ℕ) (text cs : List ℕ) → text ≡ c ∷ cs → is_word_start (get_or text 0 0) ≡ true → n ≡ length (take_while is_word_byte text)
    → word_lexeme (take n text) ≡ lexeme place c cs
lexeme_word place n c text cs s h e = grind (arith, take_run, word_run, first_word)

integer_run : (n c : ℕ) (cs : List ℕ) → n ≡ length (take_while is_digit cs) → take (1 + n) (c ∷ cs) ≡ c ∷ take_while is_digit cs
integer_run n c cs e = let more : 1 + n ≡ suc n = omega arith in rw more (ap (λ (ds : List ℕ). c ∷ ds) (take_run is_digit cs n e))

pub lexeme_integer : (place n c : ℕ) (text cs : List ℕ) → text ≡ c ∷ cs → (is_digit (get_or text 0 0) || get_or text 0 0 == 45) ≡ true
    → n ≡ length (take_while is_digit (take (length text - 1) (drop 1 text))) → integer_lexeme (length (take (1 + n) text) - 1) (integer_of (take (1 + n) text)) ≡ lexeme place c cs
lexeme_integer place n c text cs s h e =
    let starts : (is_digit c || c == 45) ≡ true = rw s at h in
    let size : n ≡ length (take_while is_digit cs) = rw s at (e ∙ ap (λ (t : List ℕ). length (take_while is_digit t)) (take_rest text 1)) in
    let one : length (c ∷ take_while is_digit cs) - 1 ≡ length (take_while is_digit cs) = omega arith in
    rw (s, integer_run n c cs size, one) (sym (first_integer place c cs starts))

-- ---- One more token of a line: how many bytes a lexeme has

-- the lexeme has no more than so many bytes behind its first
abbrev IsWithin : ℕ → Lexeme → Type 0
IsWithin most Blank = Unit {0}
IsWithin most Comment = Unit {0}
IsWithin most Bad = Unit {0}
IsWithin most (Found token more) = more ≤ most

fits_or : (most : ℕ) (b : Bool) (x y : Lexeme) → IsWithin most x → IsWithin most y → IsWithin most (if b then x else y)
fits_or most b x y h k = grind arith

word_fits : (c : ℕ) (cs : List ℕ) → IsWithin (length cs) (word_lexeme (c ∷ take_while is_word_byte cs))
unfolding word_lexeme
word_fits c cs = let short = run_short is_word_byte cs in fits_or (length cs) (is_name (c ∷ take_while is_word_byte cs)) _ _ (omega arith) tt

integer_fits : (most more : ℕ) (z : Option ℤ) → more ≤ most → IsWithin most (integer_lexeme more z)
integer_fits most more z h = grind arith

string_by : (most size : ℕ) (token : LineToken) (b : Bool) → IsWithin most (if nat_lt size most && b then Found token (size + 1) else Bad)
string_by most size token b = grind (arith, nat_tests, fits_or)

string_fits : (place : ℕ) (cs : List ℕ) → IsWithin (length cs) (string_lexeme place cs)
unfolding string_lexeme
string_fits place cs = string_by (length cs) (length (content_of cs)) _ (list_all (between 32 126) (content_of cs))

mark_fits : (most c : ℕ) → IsWithin most (mark_lexeme c)
mark_fits most c = grind (arith, fits_or)

lexeme_fits : (place c : ℕ) (cs : List ℕ) → IsWithin (length cs) (lexeme place c cs)
unfolding lexeme
lexeme_fits place c cs =
    let most = length cs in
    fits_or most (is_blank c) _ _ tt (fits_or most (c == 35) _ _ tt (fits_or most (is_word_start c) _ _ (word_fits c cs)
    (fits_or most (is_digit c || c == 45) _ _ (integer_fits most _ _ (run_short is_digit cs)) (fits_or most (c == 34) _ _ (string_fits place cs) (mark_fits most c)))))

-- ---- at a place of a line, after the tokens found

abbrev pub before : List PlacedToken → Result (List PlacedToken) ℕ → Result (List PlacedToken) ℕ
before ts (Ok us) = Ok (ts ++ us)
before ts (Err p) = Err p

-- the tokens of a line, of which some were found, and the next byte stands at the place
abbrev pub goes_on : List PlacedToken → List ℕ → ℕ → Result (List PlacedToken) ℕ
goes_on found line i = before found (tokens_from (drop i line) 0 i)

before_token : (found : List PlacedToken) (t : LineToken) (i : ℕ) (r : Result (List PlacedToken) ℕ) → before found (with_token t i r) ≡ before (found ++ record { token = t; place = i } ∷ []) r
before_token found t i (Ok ts) = ap Ok (sym (append_assoc found _ ts))
before_token found t i (Err p) = refl

at_first : (place c : ℕ) (cs : List ℕ) (x : Lexeme) → lexeme place c cs ≡ x → tokens_from (c ∷ cs) 0 place ≡ with_lexeme place x (λ more. tokens_from cs more (place + 1))
unfolding tokens_from
at_first place c cs x e = rw e refl

-- what stands at the place
abbrev pub IsAt : List ℕ → ℕ → Lexeme → Type 0
IsAt line i x = (c : ℕ) (cs : List ℕ) → drop i line ≡ c ∷ cs → x ≡ lexeme i c cs

here : (line : List ℕ) (i : ℕ) (x : Lexeme) → i < length line → IsAt line i x → lexeme i (get_or line i 0) (drop (i + 1) line) ≡ x
here line i x h e = sym (e _ _ (drop_more line i 0 h))

pub at_place : (found : List PlacedToken) (line : List ℕ) (i : ℕ) (x : Lexeme) → i < length line → IsAt line i x
    → goes_on found line i ≡ before found (with_lexeme i x (λ more. tokens_from (drop (i + 1) line) more (i + 1)))
at_place found line i x h e = rw (drop_more line i 0 h) (ap (before found) (at_first i (get_or line i 0) (drop (i + 1) line) x (here line i x h e)))

pub step_comment : (found : List PlacedToken) (line : List ℕ) (i : ℕ) → i < length line → IsAt line i Comment → goes_on found line i ≡ Ok found
step_comment found line i h e = at_place found line i Comment h e ∙ ap Ok (append-nil found)

-- the bytes of a token stand in the line
pub token_within : (line : List ℕ) (i : ℕ) (t : LineToken) (more : ℕ) → i < length line → IsAt line i (Found t more) → i + (1 + more) ≤ length line
token_within line i t more h e =
    let short = subst (IsWithin (length (drop (i + 1) line))) (here line i (Found t more) h e) (lexeme_fits i (get_or line i 0) (drop (i + 1) line)) in
    omega (arith, short, length-drop (i + 1) line)

pub step_token : (found : List PlacedToken) (line : List ℕ) (i : ℕ) (t : LineToken) (more : ℕ) → i < length line → IsAt line i (Found t more)
    → goes_on found line i ≡ goes_on (found ++ record { token = t; place = i } ∷ []) line (i + (1 + more))
step_token found line i t more h e =
    let short : more ≤ length (drop (i + 1) line) = let all = token_within line i t more h e in omega (arith, all, length-drop (i + 1) line) in
    let there : i + 1 + more ≡ i + (1 + more) = omega arith in
    let behind = tokens_behind (drop (i + 1) line) more (i + 1) short in
    at_place found line i (Found t more) h e
    ∙ before_token found t i _
    ∙ ap (before (found ++ record { token = t; place = i } ∷ [])) (behind ∙ rw (drop-drop more (i + 1) line, there) refl)

pub at_end : (found : List PlacedToken) (line : List ℕ) (i : ℕ) → length line ≤ i → goes_on found line i ≡ Ok found
unfolding tokens_from
at_end found line i h = rw (drop_all i line h) (ap Ok (append-nil found))
