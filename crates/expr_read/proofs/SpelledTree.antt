-- Texts that spell tokens, and the canonical text of an expression.
use Rattle.lemmas.proofs.{◌≡◌, ◌+◌, ◌∙◌, ℕ, suc, Bool, true, false, List, [], ◌∷◌, ◌++◌, length, Ok, arith, refl, sym, ap, subst, append_assoc, add-zero, zero-add, nat_eq, length-append, ◌≤◌, ◌<◌, ◌^◌, ℤ, pos, negsuc, Some, not, codes, take_while, nat_le, ◌&&◌, ◌||◌, decimal, add-one, ◌-◌, zero, all_ascii_digits, both_true, decimal_nonempty, digits_decimal, eqb-true, lt-leb, leb-true, list_all, map-append, nat_tests, not-true, prefix_len, right_false, signed_decimal, take-append_seam, append-nil, leb-false, le-leb, drop-append_seam}
use Rattle.rdf_values.specs.{bare, before, BinOp, first_token, is_blank, is_digit, is_name, is_word, is_word_byte, is_word_start, long_mark, magnitude_of, Mark, number_first, Op, op_text, Placed, Punct, same, short_mark, Token, tokens_within, truth_text, word_first, word_token, args_text, args_tokens, Bin, Call, Col, Cond, enclosed, End, in_parens, level_of, Lit, More, more_text, more_tokens, NamedTree, NamedTrees, Neg, Not, Pick, text_of, tokens_of, tree_level, binary, conditional, last_argument, minus_sign, more_arguments, name, no_arguments, not_sign, number, parenthesized, pick, Reads, ReadsArgs, tighter, tokens_at_level, truth}
use Rattle.rdf_values.specs.expressions.Tokens.{Word, Truth, Number}
use Rattle.expr_read.proofs.TokenSteps.{before_more, before_none, first_blank, first_found, first_word, first_number}
use Rattle.rdf_values.proofs.OneText.{magnitude_decimal, own}
use Rattle.expr_read.specs.{is_number}
use Rattle.rdf_values.specs.expressions.Grammar.{call}
use Rattle.expr_read.proofs.WholeReads.{level_low}
use Rattle.rdf_values.specs.expressions.Expressions as e

-- before the rest, the text spells these tokens
pub record Spells (text : List ℕ) (ts : List Token) (rest : List ℕ) : Type 0 where
  pub spells : (most place : ℕ) → (ps : List Placed) × (bare ps ≡ ts) × (tokens_within (length ts + most) place (text ++ rest) ≡ before ps (tokens_within most (place + length text) rest))

pub joined : {a b : List ℕ} {ts us : List Token} {rest : List ℕ} → Spells a ts (b ++ rest) → Spells b us rest → Spells (a ++ b) (ts ++ us) rest
joined {a} {b} {ts} {us} {rest} x y = record {
  spells = λ most place.
      let p = x.spells (length us + most) place in
      let q = y.spells most (place + length a) in
      let room : length (ts ++ us) + most ≡ length ts + (length us + most) = omega (arith, length-append ts us) in
      let there : (place + length a) + length b ≡ place + length (a ++ b) = omega (arith, length-append a b) in
      (p.0 ++ q.0, map-append (λ (k : Placed). k.token) p.0 q.0 ∙ (λ i. p.1 i ++ q.1 i), rw (append_assoc, room) (p.2 ∙ ap (before p.0) q.2 ∙ before_more p.0 q.0 _ ∙ rw there refl));
}

pub token : (c : ℕ) (cs : List ℕ) (t : Token) (rest : List ℕ) → is_blank c ≡ false → first_token c (cs ++ rest) ≡ Ok (t, suc (length cs)) → Spells (c ∷ cs) (t ∷ []) rest
token c cs t rest blank first = record {
  spells = λ most place.
      let p : List Placed = record { token = t; place = place } ∷ [] in
      let room : length (t ∷ []) + most ≡ suc most = omega arith in
      (p, refl, rw room (first_found most place c (cs ++ rest) (t, suc (length cs)) blank first ∙ ap (λ (xs : List ℕ). before p (tokens_within most (place + suc (length cs)) xs)) (drop-append_seam cs rest)));
}

pub blank : (rest : List ℕ) → Spells (32 ∷ []) [] rest
blank rest = record { spells = λ most place. ([], refl, rw zero-add (first_blank most place 32 rest refl ∙ sym (before_none (tokens_within most (place + 1) rest)))) }

pub nothing : (rest : List ℕ) → Spells [] [] rest
nothing rest = record { spells = λ most place. ([], refl, rw (zero-add, add-zero) (sym (before_none (tokens_within most place rest)))) }

pub spells_as : {text : List ℕ} {ts us : List Token} {rest : List ℕ} → ts ≡ us → Spells text ts rest → Spells text us rest
spells_as {text} {ts} {us} {rest} e k = subst (λ (x : List Token). Spells text x rest) e k

-- no byte of a word comes first
abbrev pub is_apart : List ℕ → Bool
is_apart [] = true
is_apart (c ∷ cs) = not (is_word_byte c)

-- no `=` comes first
abbrev pub is_unequal : List ℕ → Bool
is_unequal [] = true
is_unequal (c ∷ cs) = not (nat_eq c 61)

-- ---- the texts of operators and marks

pub minus : (rest : List ℕ) → Spells (45 ∷ []) (Op BinOp.Sub ∷ []) rest
unfolding first_token long_mark short_mark
minus rest = grind (arith, token)

pub open_paren : (rest : List ℕ) → Spells (40 ∷ []) (Punct Mark.Open ∷ []) rest
unfolding first_token long_mark short_mark
open_paren rest = grind (arith, token)

pub close_paren : (rest : List ℕ) → Spells (41 ∷ []) (Punct Mark.Close ∷ []) rest
unfolding first_token long_mark short_mark
close_paren rest = grind (arith, token)

pub open_bracket : (rest : List ℕ) → Spells (91 ∷ []) (Punct Mark.OpenBracket ∷ []) rest
unfolding first_token long_mark short_mark
open_bracket rest = grind (arith, token)

pub close_bracket : (rest : List ℕ) → Spells (93 ∷ []) (Punct Mark.CloseBracket ∷ []) rest
unfolding first_token long_mark short_mark
close_bracket rest = grind (arith, token)

pub comma : (rest : List ℕ) → Spells (codes ", ") (Punct Mark.Comma ∷ []) rest
unfolding first_token long_mark short_mark
comma rest = joined (token 44 [] (Punct Mark.Comma) (32 ∷ rest) refl refl) (blank rest)

pub question : (rest : List ℕ) → Spells (codes " ? ") (Punct Mark.Question ∷ []) rest
unfolding first_token long_mark short_mark
question rest = joined (blank (63 ∷ 32 ∷ rest)) (joined (token 63 [] (Punct Mark.Question) (32 ∷ rest) refl refl) (blank rest))

pub colon : (rest : List ℕ) → Spells (codes " : ") (Punct Mark.Colon ∷ []) rest
unfolding first_token long_mark short_mark
colon rest = joined (blank (58 ∷ 32 ∷ rest)) (joined (token 58 [] (Punct Mark.Colon) (32 ∷ rest) refl refl) (blank rest))

short : (c : ℕ) (o : BinOp) (rest : List ℕ) → is_blank c ≡ false → first_token c (32 ∷ rest) ≡ Ok (Op o, 1) → Spells (32 ∷ c ∷ 32 ∷ []) (Op o ∷ []) rest
short c o rest b e = joined (blank (c ∷ 32 ∷ rest)) (joined (token c [] (Op o) (32 ∷ rest) b e) (blank rest))

long : (c d : ℕ) (o : BinOp) (rest : List ℕ) → is_blank c ≡ false → first_token c (d ∷ 32 ∷ rest) ≡ Ok (Op o, 2) → Spells (32 ∷ c ∷ d ∷ 32 ∷ []) (Op o ∷ []) rest
long c d o rest b e = joined (blank (c ∷ d ∷ 32 ∷ rest)) (joined (token c (d ∷ []) (Op o) (32 ∷ rest) b e) (blank rest))

pub operator : (o : BinOp) (rest : List ℕ) → Spells (op_text o) (Op o ∷ []) rest
unfolding first_token long_mark short_mark
operator o rest = grind (arith, short, long)

-- ---- words

abbrev pub stops : (ℕ → Bool) → List ℕ → Type 0
stops p [] = Unit {0}
stops p (c ∷ cs) = p c ≡ false

run_is : (p : ℕ → Bool) (cs rest : List ℕ) → list_all p cs ≡ true → stops p rest → prefix_len p (cs ++ rest) ≡ length cs
run_is p (c ∷ cs) rest h k =
    let here = both_true (p c) (list_all p cs) h in
    let first : p c ≡ true = here.0 in
    rw (first, run_is p cs rest here.1 k) (omega arith)
run_is p cs rest h k = grind arith

pub taken : (p : ℕ → Bool) (cs rest : List ℕ) → list_all p cs ≡ true → stops p rest → take_while p (cs ++ rest) ≡ cs
taken p cs rest h k = rw (run_is p cs rest h k) (take-append_seam cs rest)

apart_stops : (rest : List ℕ) → is_apart rest ≡ true → stops is_word_byte rest
apart_stops rest h = grind (arith, not-true)

short_word : (w : List ℕ) → length w ≤ 64 → word_first w ≡ Ok (word_token w, length w)
unfolding word_first
short_word w h = let fits : nat_le (length w) 64 ≡ true = grind (arith, nat_tests) in rw fits refl

pub word : (c : ℕ) (cs rest : List ℕ) → is_word_start c ≡ true → list_all is_word_byte cs ≡ true → length (c ∷ cs) ≤ 64 → is_apart rest ≡ true → Spells (c ∷ cs) (word_token (c ∷ cs) ∷ []) rest
word c cs rest start all few apart =
    let whole : list_all is_word_byte (c ∷ cs) ≡ true = ap (λ (b : Bool). (b || is_digit c) && list_all is_word_byte cs) start ∙ all in
    token c cs (word_token (c ∷ cs)) rest (grind (arith, eqb-true))
    (first_word c (cs ++ rest) start ∙ ap word_first (taken is_word_byte (c ∷ cs) rest whole (apart_stops rest apart)) ∙ short_word (c ∷ cs) few)

pub spells_truth : (b : Bool) (rest : List ℕ) → is_apart rest ≡ true → Spells (truth_text b) (Truth b ∷ []) rest
spells_truth true rest h = word 116 (codes "rue") rest refl refl (omega arith) h
spells_truth false rest h = word 102 (codes "alse") rest refl refl (omega arith) h

pub bang : (rest : List ℕ) → is_unequal rest ≡ true → Spells (codes "!") (Punct Mark.Bang ∷ []) rest
unfolding first_token long_mark short_mark
bang rest h = grind (arith, token, not-true)

name_parts : (x : List ℕ) → is_name x ≡ true → (is_word x ≡ true) × (nat_le (length x) 64 ≡ true) × (not (same x (codes "true")) ≡ true) × (not (same x (codes "false")) ≡ true)
unfolding is_name
name_parts x h = grind arith

name_token : (x : List ℕ) → is_name x ≡ true → word_token x ≡ Word x
name_token x h =
    let p = name_parts x h in
    rw (not-true (same x (codes "true")) p.2, not-true (same x (codes "false")) p.3) refl

pub spells_name : (x rest : List ℕ) → is_name x ≡ true → is_apart rest ≡ true → Spells x (Word x ∷ []) rest
spells_name [] rest h apart = let p = name_parts [] h in cc (p.0)
spells_name (c ∷ cs) rest h apart =
    let p = name_parts (c ∷ cs) h in
    let word_of = both_true (is_word_start c) (list_all is_word_byte cs) p.0 in
    let few : length (c ∷ cs) ≤ 64 = let k = p.1 in grind (arith, nat_tests) in
    subst (λ (t : Token). Spells (c ∷ cs) (t ∷ []) rest) (name_token (c ∷ cs) h) (word c cs rest word_of.0 word_of.1 few apart)

unequal_by : (c : ℕ) (b : Bool) → nat_eq c 61 ≡ b → is_word_start c ≡ true → not (nat_eq c 61) ≡ true
unequal_by c b e h = grind (arith, eqb-true)

pub name_head : (x rest : List ℕ) → is_name x ≡ true → is_unequal (x ++ rest) ≡ true
name_head [] rest h = let p = name_parts [] h in cc (p.0)
name_head (c ∷ cs) rest h =
    let p = name_parts (c ∷ cs) h in
    unequal_by c _ refl (both_true (is_word_start c) (list_all is_word_byte cs) p.0).0

-- ---- numbers

apart_digit : (rest : List ℕ) → is_apart rest ≡ true → stops is_digit rest
apart_digit rest h = grind (arith, right_false, not-true)

unequal : (n m : ℕ) → n < m → nat_eq n m ≡ false
unequal n m h = grind (arith, nat_tests)

over : (n m : ℕ) → m < n → nat_eq n m ≡ false
over n m h = grind (arith, nat_tests)

no_word : (c : ℕ) → 48 ≤ c → c ≤ 57 → is_word_start c ≡ false
no_word c low high = rw (lt-leb 97 c (omega arith), lt-leb 65 c (omega arith), unequal c 95 (omega arith)) refl

found : (ds : List ℕ) (n : ℕ) → magnitude_of 9223372036854775807 ds ≡ Some n → number_first ds ≡ Ok (Number (pos n), length ds)
unfolding number_first
found ds n h = rw h refl

digits_token : (ds : List ℕ) (n : ℕ) (rest : List ℕ) → 0 < length ds → all_ascii_digits ds ≡ true → magnitude_of 9223372036854775807 ds ≡ Some n → is_apart rest ≡ true → Spells ds (Number (pos n) ∷ []) rest
digits_token [] n rest some all value apart = absurd (omega arith)
digits_token (c ∷ cs) n rest some all value apart =
    let first : is_digit c ≡ true = (both_true (is_digit c) (list_all is_digit cs) all).0 in
    let range = both_true (nat_le 48 c) (nat_le c 57) first in
    let low : 48 ≤ c = leb-true 48 c range.0 in
    let high : c ≤ 57 = leb-true c 57 range.1 in
    token c cs (Number (pos n)) rest (rw (over c 32 (omega arith), over c 9 (omega arith)) refl)
    (first_number c (cs ++ rest) (no_word c low high) first ∙ ap number_first (taken is_digit (c ∷ cs) rest all (apart_digit rest apart)) ∙ found (c ∷ cs) n value)

decimal_number : (n : ℕ) (rest : List ℕ) → n < 2 ^ 63 → is_apart rest ≡ true → Spells (signed_decimal (pos n)) (Number (pos n) ∷ []) rest
decimal_number n rest h apart = digits_token (decimal n) n rest (decimal_nonempty n (omega arith)) (digits_decimal own n (omega arith)) (magnitude_decimal 9223372036854775807 n (omega arith) (omega arith)) apart

below : (n : ℕ) → is_number (pos n) ≡ true → n < 2 ^ 63
below n h = grind (arith, nat_tests)

-- the text of a number that can be read
pub spells_number : (z : ℤ) (rest : List ℕ) → is_number z ≡ true → is_apart rest ≡ true → Spells (signed_decimal z) (Number z ∷ []) rest
spells_number (pos n) rest h apart = decimal_number n rest (below n h) apart
spells_number (negsuc n) rest h apart = cc h

head_digits : (ds rest : List ℕ) → 0 < length ds → all_ascii_digits ds ≡ true → is_unequal (ds ++ rest) ≡ true
head_digits [] rest some all = absurd (omega arith)
head_digits (c ∷ cs) rest some all = grind (arith, both_true, leb-true, unequal)

pub number_head : (z : ℤ) (rest : List ℕ) → is_number z ≡ true → is_unequal (signed_decimal z ++ rest) ≡ true
number_head z rest h = grind (arith, below, head_digits, decimal_nonempty, digits_decimal, own)

-- ---- The canonical text of an expression spells its canonical tokens.

abbrev mutual
  -- its names and numbers can be read
  pub IsReadable : NamedTree → Type 0
  IsReadable (Lit z) = is_number z ≡ true
  IsReadable (e.Truth b) = Unit {0}
  IsReadable (Col x) = is_name x ≡ true
  IsReadable (Neg a) = IsReadable a
  IsReadable (Not a) = IsReadable a
  IsReadable (Bin o a b) = IsReadable a × IsReadable b
  IsReadable (Cond c a b) = IsReadable c × IsReadable a × IsReadable b
  IsReadable (Pick v i) = IsReadable v × IsReadable i
  IsReadable (Call f args) = (is_name f ≡ true) × AreReadable args

  pub AreReadable : NamedTrees → Type 0
  AreReadable End = Unit {0}
  AreReadable (More a rest) = IsReadable a × AreReadable rest

enclosed_spells : (b : Bool) (text : List ℕ) (ts : List Token) (rest : List ℕ) → is_apart rest ≡ true → ((rest : List ℕ) → is_apart rest ≡ true → Spells text ts rest) → Spells (in_parens b text) (enclosed b ts) rest
enclosed_spells true text ts rest h k = k rest h
enclosed_spells false text ts rest h k = subst (λ (x : List ℕ). Spells x (Punct Mark.Open ∷ (ts ++ Punct Mark.Close ∷ [])) rest) refl (joined (open_paren ((text ++ 41 ∷ []) ++ rest)) (joined (k (41 ∷ rest) refl) (close_paren rest)))

head_enclosed : (b : Bool) (text : List ℕ) → ((rest : List ℕ) → is_unequal (text ++ rest) ≡ true) → (rest : List ℕ) → is_unequal (in_parens b text ++ rest) ≡ true
head_enclosed b text h rest = grind arith

head_tree : (a : NamedTree) → IsReadable a → (rest : List ℕ) → is_unequal (text_of a ++ rest) ≡ true
head_tree (Lit z) r rest = number_head z rest r
head_tree (e.Truth true) r rest = refl
head_tree (e.Truth false) r rest = refl
head_tree (Col x) r rest = name_head x rest r
head_tree (Neg a) r rest = refl
head_tree (Not a) r rest = refl
head_tree (Bin o a b) r rest = simp append_assoc (head_enclosed (nat_le (level_of o) (tree_level a)) (text_of a) (head_tree a r.0) _)
head_tree (Cond c a b) r rest = simp append_assoc (head_enclosed (nat_le 1 (tree_level c)) (text_of c) (head_tree c r.0) _)
head_tree (Pick v i) r rest = simp append_assoc (head_enclosed (nat_le 8 (tree_level v)) (text_of v) (head_tree v r.0) _)
head_tree (Call f args) r rest = simp append_assoc (name_head f _ r.0)

apart_op : (o : BinOp) (rest : List ℕ) → is_apart (op_text o ++ rest) ≡ true
apart_op o rest = grind arith

apart_more : (args : NamedTrees) (rest : List ℕ) → is_apart rest ≡ true → is_apart (more_text args ++ rest) ≡ true
apart_more End rest h = h
apart_more (More a more) rest h = refl

mutual
  pub spells_tree : (a : NamedTree) → IsReadable a → (rest : List ℕ) → is_apart rest ≡ true → Spells (text_of a) (tokens_of a) rest
  spells_tree (Lit z) r rest h = spells_number z rest r h
  spells_tree (e.Truth b) r rest h = spells_truth b rest h
  spells_tree (Col x) r rest h = spells_name x rest r h
  spells_tree (Neg a) r rest h = joined (minus _) (enclosed_spells (nat_le 7 (tree_level a)) (text_of a) (tokens_of a) rest h (spells_tree a r))
  spells_tree (Not a) r rest h = joined (bang _ (head_enclosed (nat_le 7 (tree_level a)) (text_of a) (head_tree a r) rest)) (enclosed_spells (nat_le 7 (tree_level a)) (text_of a) (tokens_of a) rest h (spells_tree a r))
  spells_tree (Bin o a b) r rest h =
      let same : nat_le (level_of o + 1) (tree_level b) ≡ nat_le (suc (level_of o)) (tree_level b) = ap (λ (n : ℕ). nat_le n (tree_level b)) (add-one (level_of o)) in
      let right = subst (λ (d : Bool). Spells (in_parens (nat_le (level_of o + 1) (tree_level b)) (text_of b)) (enclosed d (tokens_of b)) rest) same (enclosed_spells (nat_le (level_of o + 1) (tree_level b)) (text_of b) (tokens_of b) rest h (spells_tree b r.1)) in
      spells_as (simp append_assoc)
      (joined (joined (enclosed_spells (nat_le (level_of o) (tree_level a)) (text_of a) (tokens_of a) _ (apart_op o _) (spells_tree a r.0)) (operator o _)) right)
  spells_tree (Cond c a b) r rest h =
      spells_as (simp append_assoc)
      (joined (joined (joined (joined (enclosed_spells (nat_le 1 (tree_level c)) (text_of c) (tokens_of c) _ refl (spells_tree c r.0)) (question _)) (spells_tree a r.1 _ refl)) (colon _)) (spells_tree b r.2 rest h))
  spells_tree (Pick v i) r rest h =
      spells_as (simp append_assoc)
      (joined (joined (joined (enclosed_spells (nat_le 8 (tree_level v)) (text_of v) (tokens_of v) _ refl (spells_tree v r.0)) (open_bracket _)) (spells_tree i r.1 _ refl)) (close_bracket rest))
  spells_tree (Call f args) r rest h =
      spells_as (simp append_assoc) (joined (joined (joined (spells_name f _ r.0 refl) (open_paren _)) (spells_args args r.1 _ refl)) (close_paren rest))

  spells_args : (args : NamedTrees) → AreReadable args → (rest : List ℕ) → is_apart rest ≡ true → Spells (args_text args) (args_tokens args) rest
  spells_args End r rest h = nothing rest
  spells_args (More a more) r rest h = joined (spells_tree a r.0 (more_text more ++ rest) (apart_more more rest h)) (spells_more more r.1 rest h)

  spells_more : (args : NamedTrees) → AreReadable args → (rest : List ℕ) → is_apart rest ≡ true → Spells (more_text args) (more_tokens args) rest
  spells_more End r rest h = nothing rest
  spells_more (More a more) r rest h =
      spells_as (simp append_assoc) (joined (joined (comma _) (spells_tree a r.0 (more_text more ++ rest) (apart_more more rest h))) (spells_more more r.1 rest h))

-- ---- the canonical tokens read as the tree, and no tokens that do are fewer

-- an expression reads at each looser level
looser_by : (k n : ℕ) (ts : List Token) (a : NamedTree) → Reads (k + n) ts a → Reads n ts a
looser_by zero n ts a r = subst (λ (m : ℕ). Reads m ts a) (zero-add n) r
looser_by (suc k) n ts a r = let e : suc k + n ≡ suc (k + n) = omega arith in looser_by k n ts a (tighter (subst (λ (m : ℕ). Reads m ts a) e r))

pub at_looser : (n m : ℕ) (ts : List Token) (a : NamedTree) → n ≤ m → Reads m ts a → Reads n ts a
at_looser n m ts a h r = let e : m ≡ (m - n) + n = omega arith in looser_by (m - n) n ts a (subst (λ (k : ℕ). Reads k ts a) e r)

-- in parentheses or not, it reads where the level is asked for
enclosed_reads : (n : ℕ) (a : NamedTree) (ts : List Token) (b : Bool) → nat_le n (tree_level a) ≡ b → n ≤ 9 → Reads (tree_level a) ts a → Reads n (enclosed b ts) a
enclosed_reads n a ts true h k r = at_looser n (tree_level a) ts a (leb-true n (tree_level a) h) r
enclosed_reads n a ts false h k r = at_looser n 9 _ a k (parenthesized (at_looser 0 (tree_level a) ts a (omega arith) r) refl)

mutual
  reads_inner : (a : NamedTree) → Reads (tree_level a) (tokens_of a) a
  reads_inner (Lit z) = number
  reads_inner (e.Truth b) = truth
  reads_inner (Col x) = name
  reads_inner (Neg a) = minus_sign (enclosed_reads 7 a (tokens_of a) _ refl (omega arith) (reads_inner a))
  reads_inner (Not a) = not_sign (enclosed_reads 7 a (tokens_of a) _ refl (omega arith) (reads_inner a))
  reads_inner (Bin o a b) =
      binary (enclosed_reads (level_of o) a (tokens_of a) _ refl (omega (arith, level_low o)) (reads_inner a))
      (enclosed_reads (suc (level_of o)) b (tokens_of b) _ refl (omega (arith, level_low o)) (reads_inner b)) refl refl
  reads_inner (Cond c a b) =
      conditional (enclosed_reads 1 c (tokens_of c) _ refl (omega arith) (reads_inner c)) (at_looser 0 (tree_level a) (tokens_of a) a (omega arith) (reads_inner a)) (at_looser 0 (tree_level b) (tokens_of b) b (omega arith) (reads_inner b)) refl
  reads_inner (Pick v i) = pick (enclosed_reads 8 v (tokens_of v) _ refl (omega arith) (reads_inner v)) (at_looser 0 (tree_level i) (tokens_of i) i (omega arith) (reads_inner i)) refl
  reads_inner (Call f args) = call (reads_args args) refl

  reads_args : (args : NamedTrees) → ReadsArgs (args_tokens args) args
  reads_args End = no_arguments
  reads_args (More a End) = rw append-nil (last_argument (at_looser 0 (tree_level a) (tokens_of a) a (omega arith) (reads_inner a)))
  reads_args (More a (More b rest)) = more_arguments (at_looser 0 (tree_level a) (tokens_of a) a (omega arith) (reads_inner a)) (reads_args (More b rest)) refl

-- the canonical tokens read as the tree
pub reads_shown : (n : ℕ) (a : NamedTree) → n ≤ 9 → Reads n (tokens_at_level n a) a
reads_shown n a h = enclosed_reads n a (tokens_of a) _ refl h (reads_inner a)

-- ---- no tokens that read as the tree are fewer

abbrev extra : Bool → ℕ
extra true = 0
extra false = 2

enclosed_size : (b : Bool) (ts : List Token) → length (enclosed b ts) ≡ length ts + extra b
enclosed_size true ts = sym (add-zero (length ts))
enclosed_size false ts = omega (arith, length-append ts (Punct Mark.Close ∷ []))

extra_low : (b : Bool) → extra b ≤ 2
extra_low b = grind arith

extra_looser : (n l : ℕ) (b d : Bool) → nat_le n l ≡ b → nat_le (suc n) l ≡ d → extra b ≤ extra d
extra_looser n l b d h k = grind (arith, leb-false, leb-true)

shown_looser : (n : ℕ) (a : NamedTree) → length (tokens_at_level n a) ≤ length (tokens_at_level (suc n) a)
shown_looser n a = omega (arith, enclosed_size (nat_le n (tree_level a)) (tokens_of a), enclosed_size (nat_le (suc n) (tree_level a)) (tokens_of a), extra_looser n (tree_level a) _ _ refl refl)

shown_most : (n m : ℕ) (a : NamedTree) → length (tokens_at_level n a) ≤ length (tokens_at_level 0 a) + 2
shown_most n m a = omega (arith, enclosed_size (nat_le n (tree_level a)) (tokens_of a), enclosed_size (nat_le 0 (tree_level a)) (tokens_of a), extra_low (nat_le n (tree_level a)))

-- without parentheses where its own level is asked for
own_level : (n : ℕ) (a : NamedTree) → n ≤ tree_level a → length (tokens_at_level n a) ≡ length (tokens_of a)
own_level n a h = rw (le-leb n (tree_level a) h) refl

mutual
  fewest : {n : ℕ} {ts : List Token} {a : NamedTree} → Reads n ts a → length (tokens_at_level n a) ≤ length ts
  fewest number = omega arith
  fewest truth = omega arith
  fewest name = omega arith
  fewest (parenthesized {ts} {a = a} r e) = rw e (omega (arith, shown_most 9 0 a, fewest r, length-append ts (Punct Mark.Close ∷ [])))
  fewest (call r e) = omega (arith, ap length e, length-append {A = Token}, fewest_args r)
  fewest (pick {a = a} {b = b} r q e) = omega (arith, ap length e, length-append {A = Token}, fewest r, fewest q, own_level 0 b (omega arith))
  fewest (minus_sign {ts} {a} r) = omega (arith, fewest r)
  fewest (not_sign {ts} {a} r) = omega (arith, fewest r)
  fewest (binary {o} {n} {ts} {us} {a = a} {b = b} r q l e) =
      omega (arith, ap length e, length-append {A = Token}, fewest r, fewest q, own_level n (Bin o a b) (omega arith), ap (λ (m : ℕ). length (tokens_at_level m a)) l, ap (λ (m : ℕ). length (tokens_at_level (suc m) b)) l)
  fewest (conditional {c = c} {a = a} {b = b} r q s e) = omega (arith, ap length e, length-append {A = Token}, fewest r, fewest q, fewest s, own_level 0 a (omega arith), own_level 0 b (omega arith))
  fewest (tighter {n} {ts} {a} r) = omega (arith, shown_looser n a, fewest r)

  fewest_args : {ts : List Token} {args : NamedTrees} → ReadsArgs ts args → length (args_tokens args) ≤ length ts
  fewest_args no_arguments = omega arith
  fewest_args (last_argument {ts} {a} r) = omega (arith, length-append (tokens_of a) [], fewest r, own_level 0 a (omega arith))
  fewest_args (more_arguments {a = a} r q e) = omega (arith, ap length e, length-append {A = Token}, fewest r, fewest_args q, own_level 0 a (omega arith))

-- so a tree that was read from some tokens has no more canonical ones
pub no_fewer : (ts : List Token) (a : NamedTree) → Reads 0 ts a → length (tokens_at_level 0 a) ≤ length ts
no_fewer ts a r = fewest r

pub shown_whole : (a : NamedTree) → tokens_at_level 0 a ≡ tokens_of a
shown_whole a = ap (λ (b : Bool). enclosed b (tokens_of a)) (le-leb 0 (tree_level a) (omega arith))
