-- Tokens read as one tree, and as one value of a Vary: a machine that shifts and reduces comes to it.
use Rattle.lemmas.proofs.{◌≡◌, ◌<◌, ◌≤◌, ◌∙◌, ℕ, suc, true, List, [], ◌∷◌, ◌++◌, arith, refl, sym, ap, append_assoc, nat_eq, nat_le, if◌then◌else◌, lt-leb, le-leb, nat_tests}
use Rattle.rdf_values.specs.{Bin, binary, BinOp, Call, Col, Cond, conditional, End, last_argument, last_item, last_list, level_of, Lit, Mark, minus_sign, More, more_arguments, more_items, more_lists, name, NamedTree, NamedTrees, Neg, no_arguments, Not, not_sign, number, one_list, Op, parenthesized, Pick, pick, Punct, Reads, ReadsArgs, ReadsList, ReadsLists, ReadsValues, several_lists, tighter, Token, truth, VaryValues, vector}
use Rattle.rdf_values.specs.expressions.Expressions as e
use Rattle.rdf_values.specs.expressions.Tokens.{Word, Truth, Number}
use Rattle.rdf_values.specs.expressions.Grammar.{call}
use Rattle.rdf_values.specs.declared.scripts.statement.VaryValues.TheVariants.{Lists, Vector}
use Rattle.expr_read.proofs.WholeReads.{positive, level_low, level_high}

-- what waits for the tree that is being read
data Frame : Type 0 where
  Left : (a : NamedTree) (o : BinOp) → Frame
  Minus Bang Paren : Frame
  Bracket : (v : NamedTree) → Frame
  Ask : (c : NamedTree) → Frame
  Other : (c a : NamedTree) → Frame
  Args : (f : List ℕ) (before : List NamedTree) → Frame
  Items : (before : List NamedTree) → Frame
  Outer : (before : List (List NamedTree)) → Frame

-- a tree is wanted, or was read; in the values of a Vary also a list, or all lists, or a list is wanted
data State : Type 0 where
  Want : (frames : List Frame) → State
  Have : (a : NamedTree) (frames : List Frame) → State
  Closed : (es : List NamedTree) (frames : List Frame) → State
  Next : (before : List (List NamedTree)) → State
  All : (ls : List (List NamedTree)) → State

-- the tree with what waits for it at a level or tighter
abbrev reduce : ℕ → List Frame → NamedTree → NamedTree × List Frame
reduce n (Left a o ∷ fs) t = if nat_le n (level_of o) then reduce n fs (Bin o a t) else (t, Left a o ∷ fs)
reduce n (Minus ∷ fs) t = if nat_le n 7 then reduce n fs (Neg t) else (t, Minus ∷ fs)
reduce n (Bang ∷ fs) t = if nat_le n 7 then reduce n fs (Not t) else (t, Bang ∷ fs)
reduce n (Other c a ∷ fs) t = if nat_eq n 0 then reduce n fs (Cond c a t) else (t, Other c a ∷ fs)
reduce n fs t = (t, fs)

-- arguments after others
abbrev onto : List NamedTree → NamedTrees → NamedTrees
onto [] args = args
onto (a ∷ before) args = More a (onto before args)

abbrev stuck : State
stuck = Want []

abbrev on_side : BinOp → NamedTree × List Frame → State
on_side o (a, fs) = Want (Left a o ∷ fs)

abbrev on_index : NamedTree × List Frame → State
on_index (v, fs) = Want (Bracket v ∷ fs)

abbrev on_question : NamedTree × List Frame → State
on_question (c, fs) = Want (Ask c ∷ fs)

abbrev on_colon : NamedTree × List Frame → State
on_colon (a, Ask c ∷ fs) = Want (Other c a ∷ fs)
on_colon (a, fs) = stuck

abbrev on_close : NamedTree × List Frame → State
on_close (a, Paren ∷ fs) = Have a fs
on_close (a, Args f before ∷ fs) = Have (Call f (onto before (More a End))) fs
on_close (a, fs) = stuck

abbrev on_bracket : NamedTree × List Frame → State
on_bracket (i, Bracket v ∷ fs) = Have (Pick v i) fs
on_bracket (i, fs) = stuck

abbrev on_comma : NamedTree × List Frame → State
on_comma (a, Args f before ∷ fs) = Want (Args f (before ++ a ∷ []) ∷ fs)
on_comma (a, Items before ∷ fs) = Want (Items (before ++ a ∷ []) ∷ fs)
on_comma (a, fs) = stuck

abbrev on_end : NamedTree × List Frame → State
on_end (a, Items before ∷ fs) = Closed (before ++ a ∷ []) fs
on_end (a, fs) = stuck

abbrev on_brace : List Frame → State
on_brace [] = Want (Items [] ∷ [])
on_brace (Items [] ∷ []) = Want (Items [] ∷ Outer [] ∷ [])
on_brace fs = stuck

abbrev on_open : NamedTree → List Frame → State
on_open (Col f) fs = Want (Args f [] ∷ fs)
on_open t fs = stuck

abbrev at_once : List Frame → State
at_once (Args f before ∷ fs) = Have (Call f (onto before End)) fs
at_once fs = stuck

abbrev feed : State → Token → State
feed (Want fs) (Number z) = Have (Lit z) fs
feed (Want fs) (Truth b) = Have (e.Truth b) fs
feed (Want fs) (Word x) = Have (Col x) fs
feed (Want fs) (Op o) = Want (Minus ∷ fs)
feed (Want fs) (Punct Mark.Bang) = Want (Bang ∷ fs)
feed (Want fs) (Punct Mark.Open) = Want (Paren ∷ fs)
feed (Want fs) (Punct Mark.Close) = at_once fs
feed (Want fs) (Punct Mark.OpenBrace) = on_brace fs
feed (Have t fs) (Op o) = on_side o (reduce (level_of o) fs t)
feed (Have t fs) (Punct Mark.OpenBracket) = on_index (reduce 8 fs t)
feed (Have t fs) (Punct Mark.Question) = on_question (reduce 1 fs t)
feed (Have t fs) (Punct Mark.Colon) = on_colon (reduce 0 fs t)
feed (Have t fs) (Punct Mark.Close) = on_close (reduce 0 fs t)
feed (Have t fs) (Punct Mark.CloseBracket) = on_bracket (reduce 0 fs t)
feed (Have t fs) (Punct Mark.Comma) = on_comma (reduce 0 fs t)
feed (Have t fs) (Punct Mark.Open) = on_open t fs
feed (Have t fs) (Punct Mark.CloseBrace) = on_end (reduce 0 fs t)
feed (Closed es (Outer before ∷ [])) (Punct Mark.Comma) = Next (before ++ es ∷ [])
feed (Closed es (Outer before ∷ [])) (Punct Mark.CloseBrace) = All (before ++ es ∷ [])
feed (Next before) (Punct Mark.OpenBrace) = Want (Items [] ∷ Outer before ∷ [])
feed s t = stuck

abbrev feeds : State → List Token → State
feeds s [] = s
feeds s (t ∷ ts) = feeds (feed s t) ts

feeds_append : (s : State) (ts us : List Token) → feeds s (ts ++ us) ≡ feeds (feeds s ts) us
feeds_append s [] us = refl
feeds_append s (t ∷ ts) us = feeds_append (feed s t) ts us

through : (s s' : State) (ts us : List Token) → feeds s ts ≡ s' → feeds s (ts ++ us) ≡ feeds s' us
through s s' ts us e = feeds_append s ts us ∙ ap (λ (x : State). feeds x us) e

-- what waits is looser than an expression of the level
abbrev Loose : ℕ → List Frame → Type 0
Loose n (Left a o ∷ fs) = level_of o < n
Loose n (Minus ∷ fs) = 7 ≤ n
Loose n (Bang ∷ fs) = 7 ≤ n
Loose n fs = Unit {0}

looser : (n : ℕ) (fs : List Frame) → Loose n fs → Loose (suc n) fs
looser n fs h = grind (arith, Left)

-- such frames go on waiting
waits : (n : ℕ) (fs : List Frame) (t : NamedTree) → 1 ≤ n → n ≤ 6 → Loose n fs → reduce n fs t ≡ (t, fs)
waits n fs t low high h = grind (arith, Left, lt-leb, Other, positive)

waits_postfix : (fs : List Frame) (t : NamedTree) → reduce 8 fs t ≡ (t, fs)
waits_postfix [] t = refl
waits_postfix (Left a o ∷ fs) t = let far : level_of o < 8 = omega (arith, level_low o) in rw (lt-leb 8 (level_of o) far) refl
waits_postfix (f ∷ fs) t = refl

zero_is : (n : ℕ) → n ≤ 0 → nat_eq n 0 ≡ true
zero_is n h = grind (arith, nat_tests)

-- the machine has read the tree, where the frames wait for an expression of the level
record Built (n : ℕ) (fs : List Frame) (ts : List Token) (a : NamedTree) : Type 0 where
  top : NamedTree
  frames : List Frame
  state : feeds (Want fs) ts ≡ Have top frames
  folds : (m : ℕ) → m ≤ n → reduce m frames top ≡ reduce m fs a

onto_more : (before : List NamedTree) (a : NamedTree) (args : NamedTrees) → onto (before ++ a ∷ []) args ≡ onto before (More a args)
onto_more [] a args = refl
onto_more (b ∷ before) a args = ap (λ (x : NamedTrees). More b x) (onto_more before a args)

fed : (f : NamedTree × List Frame → State) {p q : NamedTree × List Frame} (us : List Token) → p ≡ q → feeds (f p) us ≡ feeds (f q) us
fed f us e = ap (λ (x : NamedTree × List Frame). feeds (f x) us) e

have : {n : ℕ} {fs : List Frame} {ts : List Token} {a : NamedTree} → feeds (Want fs) ts ≡ Have a fs → Built n fs ts a
have {fs = fs} {a = a} e = record { top = a; frames = fs; state = e; folds = λ m k. refl }

mutual
  built : {n : ℕ} {ts : List Token} {a : NamedTree} → Reads n ts a → (fs : List Frame) → Loose n fs → Built n fs ts a
  built number fs h = have refl
  built truth fs h = have refl
  built name fs h = have refl
  built (parenthesized {ts} r e) fs h =
      let x = built r (Paren ∷ fs) tt in
      have (rw e (through (Want (Paren ∷ fs)) _ ts _ x.state ∙ fed on_close [] (x.folds 0 (omega arith))))
  built (call {f} r e) fs h = have (rw e (built_args r f [] fs))
  built (pick {ts} {us} {a = a} r q e) fs h =
      let x = built r fs h in
      let y = built q (Bracket a ∷ fs) tt in
      let here : reduce 8 x.frames x.top ≡ (a, fs) = x.folds 8 (omega arith) ∙ waits_postfix fs a in
      have (rw e (through (Want fs) _ ts _ x.state ∙ fed on_index (us ++ Punct Mark.CloseBracket ∷ []) here ∙ through (Want (Bracket a ∷ fs)) _ us (Punct Mark.CloseBracket ∷ []) y.state ∙ fed on_bracket [] (y.folds 0 (omega arith))))
  built (minus_sign {a = a} r) fs h =
      let x = built r (Minus ∷ fs) (omega arith) in
      record { top = x.top; frames = x.frames; state = x.state; folds = λ m k. x.folds m k ∙ rw (le-leb m 7 k) refl }
  built (not_sign {a = a} r) fs h =
      let x = built r (Bang ∷ fs) (omega arith) in
      record { top = x.top; frames = x.frames; state = x.state; folds = λ m k. x.folds m k ∙ rw (le-leb m 7 k) refl }
  built (binary {o} {n} {ts} {us} {a = a} {b = b} r q l e) fs h =
      let x = built r fs h in
      let y = built q (Left a o ∷ fs) (omega arith) in
      let here : reduce (level_of o) x.frames x.top ≡ (a, fs) = rw l (x.folds n (omega arith) ∙ waits n fs a (omega (arith, level_high o)) (omega (arith, level_low o)) h) in
      record {
        top = y.top;
        frames = y.frames;
        state = rw e (through (Want fs) _ ts _ x.state ∙ fed (on_side o) us here ∙ y.state);
        folds = λ m k. y.folds m (omega arith) ∙ (let tight : m ≤ level_of o = omega arith in rw (le-leb m (level_of o) tight) refl);
      }
  built (conditional {ts} {us} {ws} {c = c} {a = a} {b = b} r q w e) fs h =
      let x = built r fs (looser 0 fs h) in
      let y = built q (Ask c ∷ fs) tt in
      let z = built w (Other c a ∷ fs) tt in
      let here : reduce 1 x.frames x.top ≡ (c, fs) = x.folds 1 (omega arith) ∙ waits 1 fs c (omega arith) (omega arith) (looser 0 fs h) in
      record {
        top = z.top;
        frames = z.frames;
        state = rw e (through (Want fs) _ ts _ x.state ∙ fed on_question (us ++ Punct Mark.Colon ∷ ws) here ∙ through (Want (Ask c ∷ fs)) _ us (Punct Mark.Colon ∷ ws) y.state ∙ fed on_colon ws (y.folds 0 (omega arith)) ∙ z.state);
        folds = λ m k. z.folds m k ∙ rw (zero_is m k) refl;
      }
  built (tighter {n} r) fs h = let x = built r fs (looser n fs h) in record { top = x.top; frames = x.frames; state = x.state; folds = λ m k. x.folds m (omega arith) }

  built_args : {ts : List Token} {args : NamedTrees} → ReadsArgs ts args → (f : List ℕ) (before : List NamedTree) (fs : List Frame) → feeds (Want (Args f before ∷ fs)) (ts ++ Punct Mark.Close ∷ []) ≡ Have (Call f (onto before args)) fs
  built_args no_arguments f before fs = refl
  built_args (last_argument {ts} {a} r) f before fs =
      let x = built r (Args f before ∷ fs) tt in
      through (Want (Args f before ∷ fs)) _ ts _ x.state ∙ fed on_close [] (x.folds 0 (omega arith))
  built_args (more_arguments {ts} {us} {a = a} {b = b} {args = args} r q e) f before fs =
      let x = built r (Args f before ∷ fs) tt in
      rw (e, append_assoc) (through (Want (Args f before ∷ fs)) _ ts _ x.state ∙ fed on_comma (us ++ Punct Mark.Close ∷ []) (x.folds 0 (omega arith)) ∙ built_args q f (before ++ a ∷ []) fs ∙ ap (λ (xs : NamedTrees). Have (Call f xs) fs) (onto_more before a (More b args)))

built_list : {ts : List Token} {es : List NamedTree} → ReadsList ts es → (before : List NamedTree) (fs : List Frame) (us : List Token)
    → feeds (Want (Items before ∷ fs)) (ts ++ Punct Mark.CloseBrace ∷ us) ≡ feeds (Closed (before ++ es) fs) us
built_list (last_item {ts} r) before fs us =
    let x = built r (Items before ∷ fs) tt in
    through (Want (Items before ∷ fs)) _ ts _ x.state ∙ fed on_end us (x.folds 0 (omega arith))
built_list (more_items {ts} {us = vs} {a = a} {es = es} r q e) before fs us =
    let x = built r (Items before ∷ fs) tt in
    rw (e, append_assoc) (through (Want (Items before ∷ fs)) _ ts _ x.state ∙ fed on_comma (vs ++ Punct Mark.CloseBrace ∷ us) (x.folds 0 (omega arith)) ∙ built_list q (before ++ a ∷ []) fs us
    ∙ ap (λ (xs : List NamedTree). feeds (Closed xs fs) us) (append_assoc before (a ∷ []) es))

-- lists, from where the `{` of the first is taken
built_lists : {ts : List Token} {ls : List (List NamedTree)} → ReadsLists ts ls → (s : State) (before : List (List NamedTree)) → feed s (Punct Mark.OpenBrace) ≡ Want (Items [] ∷ Outer before ∷ [])
    → feeds s (ts ++ Punct Mark.CloseBrace ∷ []) ≡ All (before ++ ls)
built_lists (last_list {ts} r e) s before h =
    rw (e, append_assoc) (ap (λ (x : State). feeds x (ts ++ Punct Mark.CloseBrace ∷ Punct Mark.CloseBrace ∷ [])) h ∙ built_list r [] (Outer before ∷ []) (Punct Mark.CloseBrace ∷ []))
built_lists (more_lists {ts} {us} {es = es} {ls = ls} r q e) s before h =
    let more = Punct Mark.Comma ∷ (us ++ Punct Mark.CloseBrace ∷ []) in
    rw (e, append_assoc) (ap (λ (x : State). feeds x (ts ++ Punct Mark.CloseBrace ∷ more)) h ∙ built_list r [] (Outer before ∷ []) more
    ∙ built_lists q (Next (before ++ es ∷ [])) (before ++ es ∷ []) refl ∙ ap All (append_assoc before (es ∷ []) ls))

abbrev value : State → VaryValues
value (Have a fs) = Vector (reduce 0 fs a).0
value (Closed es fs) = Lists (es ∷ [])
value (All ls) = Lists ls
value s = Lists []

valued : {ts : List Token} {v : VaryValues} → ReadsValues ts v → value (feeds (Want []) ts) ≡ v
valued (vector r) = let x = built r [] tt in ap value x.state ∙ ap (λ (p : NamedTree × List Frame). Vector p.0) (x.folds 0 (omega arith))
valued (one_list r e) = rw e (ap value (built_list r [] [] []))
valued (several_lists r e) = rw e (ap value (built_lists r (Want (Items [] ∷ [])) [] refl))

pub unique_values : (ts : List Token) (v w : VaryValues) → ReadsValues ts v → ReadsValues ts w → v ≡ w
unique_values ts v w r q = sym (valued r) ∙ valued q

pub unique : (ts : List Token) (a b : NamedTree) → Reads 0 ts a → Reads 0 ts b → a ≡ b
unique ts a b r q = let same : Vector a ≡ Vector b = unique_values ts _ _ (vector r) (vector q) in cc same
