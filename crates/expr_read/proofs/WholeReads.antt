-- Tokens that a scan takes whole, with nothing left open, read by the grammar: a descent from the left comes through them, or is stuck where the scan stops.
use Rattle.lemmas.proofs.{◌≡◌, ◌≤◌, ◌+◌, ℕ, Bool, true, false, List, [], ◌∷◌, Some, None, arith, refl, ap, nat_eq, nat_le, ◌<◌, ◌∙◌, suc, ℤ, ◌++◌, length, sym, subst, append_assoc, add-one, zero, inl, inr, append-nil, ◌⊎◌, not, lt-leb, leb-false, nat_tests, cases_eq, cases_Bool}
use Rattle.rdf_values.specs.{AfterName, BinOp, FirstArgument, InCall, InChoice, InIndex, InList, InParens, level_of, Mark, Op, OpenMark, Operand, Operator, operator, Placed, Punct, Refused, scan, scan_step, ScanState, Token, after_list, AfterBrace, AfterList, bare, begin_values, binary, conditional, End, InLists, last_argument, last_item, last_list, minus_sign, More, more_arguments, more_items, more_lists, name, NamedTree, NamedTrees, next_list, NextList, no_arguments, not_sign, Nothing, number, one_list, parenthesized, pick, Reads, ReadsArgs, several_lists, tighter, truth, vector, begin_expr, ReadsValues, VaryValues, Whole, ReadsList, ReadsLists}
use Rattle.expr_read.specs.{Begins, BeginsNot, continues, Stops, stuck_at, ends_at, in_list, Listing, Listings, Took, TookArgs, TookList, TookLists, TookValues, at_expr, at_item, at_more, IsStuckFrom}
use Rattle.rdf_values.specs.expressions.Tokens.{Word, Truth, Number}
use Rattle.rdf_values.specs.expressions.Grammar.{call}
use Rattle.rdf_values.specs.declared.scripts.statement.VaryValues.TheVariants.{Lists as ListsOf, Vector as VectorOf, Lists, Vector}
use Rattle.rdf_values.specs.expressions.Expressions as e

-- ---- how the scan goes over what is read, and where it stops

pub scan_after : {t : Token} {old new : List Placed} → (s s' : ScanState) → Begins t old new → scan_step s t ≡ Some s' → scan s old ≡ scan s' new
scan_after s s' b e = rw (b.is, e) refl

-- the first token isn't this one
pub first_is_not : (t : Token) (p : Placed) (ts : List Placed) → BeginsNot t (p ∷ ts) → p.token ≡ t → ⊥
first_is_not t p ts isnt e = isnt ts (record { place = p.place; is = ap (λ (k : Token). record { token = k; place = p.place } ∷ ts) e })

pub refused_at : (s : ScanState) (p : Placed) (ts : List Placed) → scan_step s p.token ≡ None → scan s (p ∷ ts) ≡ Refused p.place
refused_at s p ts e = rw e refl

-- where another token comes first, the scan goes on from one state as from the other
pub unless : (u : Token) (s s' : ScanState) (ts : List Placed) → scan s [] ≡ scan s' [] → ((t : Token) → (t ≡ u → ⊥) → scan_step s t ≡ scan_step s' t) → BeginsNot u ts → scan s ts ≡ scan s' ts
unless u s s' [] e step isnt = e
unless u s s' (p ∷ ts) e step isnt = rw (step p.token (first_is_not u p ts isnt)) refl

pub name_ends : (s : List OpenMark) (ts : List Placed) → BeginsNot (Punct Mark.Open) ts → scan (AfterName, s) ts ≡ scan (Operator, s) ts
name_ends [] ts isnt = unless (Punct Mark.Open) (AfterName, []) (Operator, []) ts refl (λ t no. grind arith) isnt
name_ends (o ∷ s) ts isnt = unless (Punct Mark.Open) (AfterName, o ∷ s) (Operator, o ∷ s) ts refl (λ t no. grind arith) isnt

pub argument_first : (s : List OpenMark) (ts : List Placed) → BeginsNot (Punct Mark.Close) ts → scan (FirstArgument, InCall ∷ s) ts ≡ scan (Operand, InCall ∷ s) ts
argument_first s ts isnt = unless (Punct Mark.Close) (FirstArgument, InCall ∷ s) (Operand, InCall ∷ s) ts refl (λ t no. grind arith) isnt

-- ---- where the scan stops

pub never : (n : ℕ) → nat_le 0 n ≡ false → ⊥
never n h = grind (arith, nat_tests)

-- the mark that closes what is open
abbrev pub closing : OpenMark → Mark
closing InParens = Mark.Close
closing InIndex = Mark.CloseBracket
closing InChoice = Mark.Colon
closing InCall = Mark.Close
closing o = Mark.CloseBrace

-- whether a comma may stand in it
abbrev pub takes_comma : OpenMark → Bool
takes_comma InCall = true
takes_comma InList = true
takes_comma o = false

inside_step : (o : OpenMark) (s : List OpenMark) (t : Token) → continues 0 t ≡ false → (t ≡ Punct (closing o) → ⊥) → (takes_comma o ≡ true → t ≡ Punct Mark.Comma → ⊥) → operator t (o ∷ s) ≡ None
inside_step o s t h isnt nor = grind (arith, never)

pub stuck_inside : (o : OpenMark) (s : List OpenMark) (ts : List Placed) → Stops 0 ts → BeginsNot (Punct (closing o)) ts
    → (takes_comma o ≡ true → BeginsNot (Punct Mark.Comma) ts) → scan (Operator, o ∷ s) ts ≡ stuck_at ts
stuck_inside o s [] h isnt nor = refl
stuck_inside o s (p ∷ ts) h isnt nor =
    refused_at (Operator, o ∷ s) p ts (inside_step o s p.token h (first_is_not (Punct (closing o)) p ts isnt) (λ e. first_is_not (Punct Mark.Comma) p ts (nor e)))

-- ---- where an expression stops

pub level_low : (o : BinOp) → level_of o ≤ 6
level_low o = grind arith

pub level_high : (o : BinOp) → 1 ≤ level_of o
level_high o = grind arith

pub positive : (n : ℕ) → 1 ≤ n → nat_eq n 0 ≡ false
positive n h = grind (arith, nat_tests)

pub stops_postfix : (n : ℕ) (ts : List Placed) → 7 ≤ n → n ≤ 8 → BeginsNot (Punct Mark.OpenBracket) ts → Stops n ts
stops_postfix n [] low high isnt = tt
stops_postfix n (p ∷ ts) low high isnt = grind (arith, lt-leb, level_low, positive, first_is_not)

sides_step : (n : ℕ) (t : Token) → 1 ≤ n → n ≤ 6 → continues (n + 1) t ≡ false → ((o : BinOp) → level_of o ≡ n → t ≡ Op o → ⊥) → continues n t ≡ false
sides_step n t low high h isnt = grind (arith, leb-false, lt-leb, positive)

pub stops_binary : (n : ℕ) (ts : List Placed) → 1 ≤ n → n ≤ 6 → Stops (n + 1) ts → ((o : BinOp) → level_of o ≡ n → BeginsNot (Op o) ts) → Stops n ts
stops_binary n [] low high h isnt = tt
stops_binary n (p ∷ ts) low high h isnt = sides_step n p.token low high h (λ o e. first_is_not (Op o) p ts (isnt o e))

pub stops_expr : (ts : List Placed) → Stops 1 ts → BeginsNot (Punct Mark.Question) ts → Stops 0 ts
stops_expr [] h isnt = tt
stops_expr (p ∷ ts) h isnt = grind (arith, leb-false, first_is_not)

-- ---- what was read, from what its parts read

pub bare_after : {t : Token} {old new : List Placed} → Begins t old new → bare old ≡ t ∷ bare new
bare_after b = ap bare b.is

pub fewer_after : {t : Token} {old new : List Placed} → Begins t old new → length new < length old
fewer_after b = omega (arith, ap length b.is)

pub took_tighter : {n : ℕ} {a : NamedTree} {old new : List Placed} → Took (suc n) a old new → Took n a old new
took_tighter k = record { tokens = k.tokens; split = k.split; reads = tighter k.reads; scans = k.scans; fewer = k.fewer }

pub took_next : {a : NamedTree} {old new : List Placed} → (n : ℕ) → Took (n + 1) a old new → Took (suc n) a old new
took_next {a} {old} {new} n k = subst (λ m. Took m a old new) (add-one n) k

-- tokens in a row, over which the scan comes from one state to another
record Part (from to : List OpenMark → ScanState) (ts : List Token) (old new : List Placed) : Type 0 where
  split : bare old ≡ ts ++ bare new
  scans : (s : List OpenMark) → scan (from s) old ≡ scan (to s) new
  fewer : length new < length old

one : {from to : List OpenMark → ScanState} {t : Token} {old new : List Placed} → Begins t old new → ((s : List OpenMark) → scan_step (from s) t ≡ Some (to s)) → Part from to (t ∷ []) old new
one {from} {to} b e = record { split = bare_after b; scans = λ s. scan_after (from s) (to s) b (e s); fewer = fewer_after b }

both : {from mid to : List OpenMark → ScanState} {ts us : List Token} {old next new : List Placed} → Part from mid ts old next → Part mid to us next new → Part from to (ts ++ us) old new
both {ts = ts} p q = record {
  split = p.split ∙ ap (λ vs. ts ++ vs) q.split ∙ simp append_assoc;
  scans = λ s. p.scans s ∙ q.scans s;
  fewer = omega (arith, p.fewer, q.fewer);
}

onward : {from mid to : List OpenMark → ScanState} {ts : List Token} {old new : List Placed} → Part from mid ts old new
    → ((s : List OpenMark) → scan (mid s) new ≡ scan (to s) new) → Part from to ts old new
onward p e = record { split = p.split; scans = λ s. p.scans s ∙ e s; fewer = p.fewer }

-- an expression in open marks
part : {n : ℕ} {a : NamedTree} {old new : List Placed} (under : List OpenMark → List OpenMark) (k : Took n a old new) → Part (λ s. (Operand, under s)) (λ s. (Operator, under s)) k.tokens old new
part under k = record { split = k.split; scans = λ s. k.scans (under s); fewer = k.fewer }

took : {n : ℕ} {a : NamedTree} {ts : List Token} {old new : List Placed} → Reads n ts a → Part (λ s. (Operand, s)) (λ s. (Operator, s)) ts old new → Took n a old new
took {ts = ts} r p = record { tokens = ts; split = p.split; reads = r; scans = p.scans; fewer = p.fewer }

pub took_number : {z : ℤ} {old new : List Placed} → Begins (Number z) old new → Took 9 (e.Lit z) old new
took_number b = took number (one b (λ s. refl))

pub took_truth : {v : Bool} {old new : List Placed} → Begins (Truth v) old new → Took 9 (e.Truth v) old new
took_truth b = took truth (one b (λ s. refl))

pub took_name : {x : List ℕ} {old new : List Placed} → Begins (Word x) old new → BeginsNot (Punct Mark.Open) new → Took 9 (e.Col x) old new
took_name b isnt = took name (onward (one b (λ s. refl)) (λ s. name_ends s _ isnt))

pub took_minus_sign : {a : NamedTree} {old mid new : List Placed} → Begins (Op BinOp.Sub) old mid → Took 7 a mid new → Took 7 (e.Neg a) old new
took_minus_sign b k = took (minus_sign k.reads) (both (one b (λ s. refl)) (part (λ s. s) k))

pub took_not_sign : {a : NamedTree} {old mid new : List Placed} → Begins (Punct Mark.Bang) old mid → Took 7 a mid new → Took 7 (e.Not a) old new
took_not_sign b k = took (not_sign k.reads) (both (one b (λ s. refl)) (part (λ s. s) k))

pub took_binary : {n : ℕ} {o : BinOp} {a c : NamedTree} {old mid next new : List Placed}
    → Took n a old mid → level_of o ≡ n → Begins (Op o) mid next → Took (suc n) c next new → Took n (e.Bin o a c) old new
took_binary k l b r = took (binary k.reads r.reads l refl) (both (part (λ s. s) k) (both (one b (λ s. refl)) (part (λ s. s) r)))

pub took_conditional : {t a c : NamedTree} {old m1 m2 m3 m4 new : List Placed}
    → Took 1 t old m1 → Begins (Punct Mark.Question) m1 m2 → Took 0 a m2 m3 → Begins (Punct Mark.Colon) m3 m4 → Took 0 c m4 new → Took 0 (e.Cond t a c) old new
took_conditional k b1 x b2 y =
    took (conditional k.reads x.reads y.reads refl)
    (both (part (λ s. s) k) (both (one b1 (λ s. refl)) (both (part (λ s. InChoice ∷ s) x) (both (one b2 (λ s. refl)) (part (λ s. s) y)))))

pub took_pick : {v i : NamedTree} {old m1 m2 m3 new : List Placed}
    → Took 8 v old m1 → Begins (Punct Mark.OpenBracket) m1 m2 → Took 0 i m2 m3 → Begins (Punct Mark.CloseBracket) m3 new → Took 8 (e.Pick v i) old new
took_pick k b1 x b2 = took (pick k.reads x.reads refl) (both (part (λ s. s) k) (both (one b1 (λ s. refl)) (both (part (λ s. InIndex ∷ s) x) (one b2 (λ s. refl)))))

pub took_parens : {a : NamedTree} {old m1 m2 new : List Placed} → Begins (Punct Mark.Open) old m1 → Took 0 a m1 m2 → Begins (Punct Mark.Close) m2 new → Took 9 a old new
took_parens b1 x b2 = took (parenthesized x.reads refl) (both (one b1 (λ s. refl)) (both (part (λ s. InParens ∷ s) x) (one b2 (λ s. refl))))

pub took_call_none : {f : List ℕ} {old m1 m2 new : List Placed} → Begins (Word f) old m1 → Begins (Punct Mark.Open) m1 m2 → Begins (Punct Mark.Close) m2 new → Took 9 (e.Call f End) old new
took_call_none b1 b2 b3 = took (call no_arguments refl) (both (one b1 (λ s. refl)) (both (one b2 (λ s. refl)) (one b3 (λ s. refl))))

pub took_call : {f : List ℕ} {args : NamedTrees} {old m1 m2 new : List Placed}
    → Begins (Word f) old m1 → Begins (Punct Mark.Open) m1 m2 → BeginsNot (Punct Mark.Close) m2 → TookArgs args m2 new → Took 9 (e.Call f args) old new
took_call b1 b2 isnt x = took (call x.reads refl) (both (one b1 (λ s. refl)) (both (onward (one b2 (λ s. refl)) (λ s. argument_first s _ isnt)) (inner x)))
  where
    inner : {r : NamedTrees} {old new : List Placed} (x : TookArgs r old new) → Part (λ s. (Operand, InCall ∷ s)) (λ s. (Operator, s)) (x.tokens ++ Punct Mark.Close ∷ []) old new
    inner x = record { split = x.split ∙ simp append_assoc; scans = x.scans; fewer = x.fewer }

pub took_last : {a : NamedTree} {old mid new : List Placed} → Took 0 a old mid → Begins (Punct Mark.Close) mid new → TookArgs (More a End) old new
took_last k b = record {
  tokens = k.tokens;
  split = k.split ∙ ap (λ ts. k.tokens ++ ts) (bare_after b);
  reads = last_argument k.reads;
  some = λ h. cc h;
  scans = λ s. k.scans (InCall ∷ s) ∙ scan_after (Operator, InCall ∷ s) (Operator, s) b refl;
  fewer = omega (arith, k.fewer, fewer_after b);
}

reads_more : {a : NamedTree} {ts us : List Token} → (r : NamedTrees) → (r ≡ End → ⊥) → Reads 0 ts a → ReadsArgs us r → ReadsArgs (ts ++ Punct Mark.Comma ∷ us) (More a r)
reads_more End some x y = absurd (some refl)
reads_more (More b r) some x y = more_arguments x y refl

pub took_more : {a : NamedTree} {r : NamedTrees} {old mid next new : List Placed}
    → Took 0 a old mid → Begins (Punct Mark.Comma) mid next → TookArgs r next new → TookArgs (More a r) old new
took_more {r = r} k b x = record {
  tokens = k.tokens ++ Punct Mark.Comma ∷ x.tokens;
  split = k.split ∙ ap (λ ts. k.tokens ++ ts) (bare_after b ∙ ap (λ ts. Punct Mark.Comma ∷ ts) x.split) ∙ simp append_assoc;
  reads = reads_more r x.some k.reads x.reads;
  some = λ h. cc h;
  scans = λ s. k.scans (InCall ∷ s) ∙ scan_after (Operator, InCall ∷ s) (Operand, InCall ∷ s) b refl ∙ x.scans s;
  fewer = omega (arith, k.fewer, fewer_after b, x.fewer);
}

-- the token that was seen comes first
pub begins_seen : {k t : Token} {old next new : List Placed} → k ≡ t → Begins k old next → new ≡ next → Begins t old new
begins_seen {k} {t} {old} {next} {new} e b same = record { place = b.place; is = b.is ∙ (λ i. record { token = e i; place = b.place } ∷ sym same i) }

-- ---- the values of a Vary

pub list_more : {items : List NamedTree} {a : NamedTree} {old m1 m2 new : List Placed} → Listing items old m1 → Took 0 a m1 m2 → Begins (Punct Mark.Comma) m2 new → Listing (items ++ a ∷ []) old new
list_more {items} {a} l k b = record {
  tokens = l.tokens ++ (k.tokens ++ Punct Mark.Comma ∷ []);
  split = l.split ∙ ap (λ ts. l.tokens ++ ts) (k.split ∙ ap (λ ts. k.tokens ++ ts) (bare_after b)) ∙ simp append_assoc;
  completes = λ us es r. simp append_assoc (l.completes (k.tokens ++ Punct Mark.Comma ∷ us) (a ∷ es) (more_items k.reads r refl));
  scans = λ s. l.scans s ∙ k.scans (InList ∷ s) ∙ scan_after (Operator, InList ∷ s) (Operand, InList ∷ s) b refl;
  within = omega (arith, l.within, k.fewer, fewer_after b);
}

pub list_done : {items : List NamedTree} {a : NamedTree} {old m1 m2 new : List Placed} → Listing items old m1 → Took 0 a m1 m2 → Begins (Punct Mark.CloseBrace) m2 new → TookList (items ++ a ∷ []) old new
list_done {items} {a} l k b = record {
  tokens = l.tokens ++ k.tokens;
  split = l.split ∙ ap (λ ts. l.tokens ++ ts) (k.split ∙ ap (λ ts. k.tokens ++ ts) (bare_after b)) ∙ simp append_assoc;
  reads = l.completes k.tokens (a ∷ []) (last_item k.reads);
  scans = λ s. l.scans s ∙ k.scans (InList ∷ s) ∙ scan_after (Operator, InList ∷ s) (after_list s) b refl;
  fewer = omega (arith, l.within, k.fewer, fewer_after b);
}

pub lists_more : {ls : List (List NamedTree)} {es : List NamedTree} {old m1 m2 m3 new : List Placed}
    → Listings ls old m1 → TookList es m1 m2 → Begins (Punct Mark.Comma) m2 m3 → Begins (Punct Mark.OpenBrace) m3 new → Listings (ls ++ es ∷ []) old new
lists_more {es = es} l k b c = record {
  tokens = l.tokens ++ (k.tokens ++ Punct Mark.CloseBrace ∷ Punct Mark.Comma ∷ Punct Mark.OpenBrace ∷ []);
  split = l.split ∙ ap (λ ts. l.tokens ++ ts) (k.split ∙ ap (λ ts. k.tokens ++ Punct Mark.CloseBrace ∷ ts) (bare_after b ∙ ap (λ ts. Punct Mark.Comma ∷ ts) (bare_after c))) ∙ simp append_assoc;
  completes = λ us rest r. simp append_assoc (l.completes (k.tokens ++ Punct Mark.CloseBrace ∷ Punct Mark.Comma ∷ Punct Mark.OpenBrace ∷ us) (es ∷ rest) (more_lists k.reads r refl));
  scans = l.scans ∙ k.scans (InLists ∷ []) ∙ scan_after (AfterList, InLists ∷ []) (NextList, InLists ∷ []) b refl ∙ scan_after (NextList, InLists ∷ []) in_list c refl;
}

pub lists_done : {ls : List (List NamedTree)} {es : List NamedTree} {old m1 m2 new : List Placed}
    → Listings ls old m1 → TookList es m1 m2 → Begins (Punct Mark.CloseBrace) m2 new → TookLists (ls ++ es ∷ []) old new
lists_done {es = es} l k b = record {
  tokens = l.tokens ++ (k.tokens ++ Punct Mark.CloseBrace ∷ []);
  split = l.split ∙ ap (λ ts. l.tokens ++ ts) (k.split ∙ ap (λ ts. k.tokens ++ Punct Mark.CloseBrace ∷ ts) (bare_after b)) ∙ simp append_assoc;
  reads = l.completes (k.tokens ++ Punct Mark.CloseBrace ∷ []) (es ∷ []) (last_list k.reads refl);
  scans = l.scans ∙ k.scans (InLists ∷ []) ∙ scan_after (AfterList, InLists ∷ []) (Nothing, []) b refl;
}

-- ---- where the scan stops

pub stuck_between : (ts : List Placed) → BeginsNot (Punct Mark.Comma) ts → BeginsNot (Punct Mark.CloseBrace) ts → scan (AfterList, InLists ∷ []) ts ≡ stuck_at ts
stuck_between [] isnt nor = refl
stuck_between (p ∷ ts) isnt nor = grind (arith, refused_at, first_is_not)

next_step : (s : List OpenMark) (t : Token) → (t ≡ Punct Mark.OpenBrace → ⊥) → next_list t s ≡ None
next_step s t isnt = grind arith

pub stuck_next : (ts : List Placed) → BeginsNot (Punct Mark.OpenBrace) ts → scan (NextList, InLists ∷ []) ts ≡ stuck_at ts
stuck_next [] isnt = refl
stuck_next (p ∷ ts) isnt = refused_at (NextList, InLists ∷ []) p ts (next_step (InLists ∷ []) p.token (first_is_not (Punct Mark.OpenBrace) p ts isnt))

-- ---- the values

pub vector_first : (ts : List Placed) → BeginsNot (Punct Mark.OpenBrace) ts → scan begin_values ts ≡ scan (Operand, []) ts
vector_first ts isnt = unless (Punct Mark.OpenBrace) begin_values (Operand, []) ts refl (λ t no. grind arith) isnt

pub item_first : (ts : List Placed) → BeginsNot (Punct Mark.OpenBrace) ts → scan (AfterBrace, InList ∷ []) ts ≡ scan (Operand, InList ∷ []) ts
item_first ts isnt = unless (Punct Mark.OpenBrace) (AfterBrace, InList ∷ []) (Operand, InList ∷ []) ts refl (λ t no. grind arith) isnt

pub ends_operator : (ts : List Placed) → Stops 0 ts → scan (Operator, []) ts ≡ ends_at ts
ends_operator ts h = grind (arith, refused_at, never)

ends_nothing : (ts : List Placed) → scan (Nothing, []) ts ≡ ends_at ts
ends_nothing ts = grind arith

pub took_vector : {a : NamedTree} {old new : List Placed} → BeginsNot (Punct Mark.OpenBrace) old → Took 0 a old new → Stops 0 new → TookValues (VectorOf a) old new
took_vector {old = old} {new = new} isnt k h = record { tokens = k.tokens; split = k.split; reads = vector k.reads; ends = vector_first old isnt ∙ k.scans [] ∙ ends_operator new h }

pub took_lists : {ls : List (List NamedTree)} {old m1 m2 new : List Placed} → Begins (Punct Mark.OpenBrace) old m1 → Begins (Punct Mark.OpenBrace) m1 m2 → TookLists ls m2 new → TookValues (ListsOf ls) old new
took_lists {new = new} b c k = record {
  tokens = Punct Mark.OpenBrace ∷ (Punct Mark.OpenBrace ∷ k.tokens ++ Punct Mark.CloseBrace ∷ []);
  split = bare_after b ∙ ap (λ ts. Punct Mark.OpenBrace ∷ ts) (bare_after c ∙ ap (λ ts. Punct Mark.OpenBrace ∷ ts) k.split) ∙ simp append_assoc;
  reads = several_lists k.reads refl;
  ends = scan_after begin_values (AfterBrace, InList ∷ []) b refl ∙ scan_after (AfterBrace, InList ∷ []) in_list c refl ∙ k.scans ∙ ends_nothing new;
}

pub took_list : {es : List NamedTree} {old m1 new : List Placed} → Begins (Punct Mark.OpenBrace) old m1 → BeginsNot (Punct Mark.OpenBrace) m1 → TookList es m1 new → TookValues (ListsOf (es ∷ [])) old new
took_list {m1 = m1} {new = new} b isnt k = record {
  tokens = Punct Mark.OpenBrace ∷ (k.tokens ++ Punct Mark.CloseBrace ∷ []);
  split = bare_after b ∙ ap (λ ts. Punct Mark.OpenBrace ∷ ts) k.split ∙ simp append_assoc;
  reads = one_list k.reads refl;
  ends = scan_after begin_values (AfterBrace, InList ∷ []) b refl ∙ item_first m1 isnt ∙ k.scans [] ∙ ends_nothing new;
}

-- ---- the first token

data First (t : Token) (old : List Placed) : Type 0 where
  found_first : (new : List Placed) → Begins t old new → First t old
  another : BeginsNot t old → First t old

seen : (m : Mark) (t : Token) → (t ≡ Punct m) ⊎ (t ≡ Punct m → ⊥)
seen m t = grind arith

eat : (m : Mark) (old : List Placed) → First (Punct m) old
eat m [] = another (λ new b. let never = b.is in cc never)
eat m (p ∷ ps) = elim (seen m p.token) [
  | inl e ↦ found_first ps (record { place = p.place; is = ap (λ (k : Token). record { token = k; place = p.place } ∷ ps) e })
  | inr other ↦ another (λ new b. other (let same : p.token ∷ bare ps ≡ Punct m ∷ bare new = ap bare b.is in cc same))
]

-- an operator of the level comes first, or none
data Side (n : ℕ) (old : List Placed) : Type 0 where
  side : (o : BinOp) (new : List Placed) → level_of o ≡ n → Begins (Op o) old new → Side n old
  none : ((o : BinOp) → level_of o ≡ n → BeginsNot (Op o) old) → Side n old

side_of : (n : ℕ) (t : Token) (place : ℕ) (ps : List Placed) → Side n (record { token = t; place = place } ∷ ps)
side_of n (Op o) place ps = elim (cases_eq (level_of o) n) [
  | inl e ↦ side o ps e (record { place = place; is = refl })
  | inr other ↦ none (λ k e new b. other (let same : Op o ∷ bare ps ≡ Op k ∷ bare new = ap bare b.is in let one : o ≡ k = cc same in ap level_of one ∙ e))
]
side_of n t place ps = none (λ k e new b. let never : t ∷ bare ps ≡ Op k ∷ bare new = ap bare b.is in cc never)

side_first : (n : ℕ) (old : List Placed) → Side n old
side_first n [] = none (λ o e new b. let never = b.is in cc never)
side_first n (p ∷ ps) = side_of n p.token p.place ps

-- ---- an expression

-- something was taken and these tokens are left, or the descent is stuck at them
data Outcome {X : Type 0} (Taken : X → List Placed → Type 0) (Stuck : List Placed → Type 0) : Type 0 where
  taken : (x : X) (new : List Placed) → Taken x new → Outcome Taken Stuck
  stuck : (new : List Placed) → Stuck new → Outcome Taken Stuck

abbrev Comes : ℕ → List Placed → Type 0
Comes n old = Outcome (λ (a : NamedTree) (new : List Placed). Took n a old new × Stops n new) (IsStuckFrom at_expr old)

-- tokens of this many at most come through, or are stuck
abbrev Reader : ℕ → ℕ → Type 0
Reader k n = (old : List Placed) → length old ≤ k → Comes n old

-- an expression directly after an open mark, with what closes it or a comma, or the descent is stuck
data Inside (o : OpenMark) (old : List Placed) : Type 0 where
  closed : (a : NamedTree) (mid new : List Placed) → Took 0 a old mid → Begins (Punct (closing o)) mid new → Inside o old
  comma : (a : NamedTree) (mid new : List Placed) → takes_comma o ≡ true → Took 0 a old mid → Begins (Punct Mark.Comma) mid new → Inside o old
  no_end : (new : List Placed) → ((s : List OpenMark) → scan (Operand, o ∷ s) old ≡ stuck_at new) → Inside o old

module _ (k : ℕ) (expr : (old : List Placed) → length old < k → Comes 0 old) where
  inside : (o : OpenMark) (old : List Placed) → length old < k → Inside o old
  inside o old h = elim (expr old h) [
    | stuck new x ↦ no_end new (λ s. x (o ∷ s))
    | taken a mid x ↦
        let no_more : BeginsNot (Punct (closing o)) mid → (takes_comma o ≡ true → BeginsNot (Punct Mark.Comma) mid) → Inside o old
        = λ other nor. no_end mid (λ s. x.0.scans (o ∷ s) ∙ stuck_inside o s mid x.1 other nor) in
        elim (eat (closing o) mid) [
          | found_first new b ↦ closed a mid new x.0 b
          | another other ↦ elim (eat Mark.Comma mid) [
            | another nor ↦ no_more other (λ _. nor)
            | found_first new b ↦ elim (cases_Bool (takes_comma o)) [ inl takes ↦ comma a mid new takes x.0 b | inr not ↦ no_more other (λ takes. absurd (cc (takes, not))) ]
          ]
        ]
  ]

  -- the arguments of a call, from the first or behind a comma, and its `)`
  arguments : (j : ℕ) (old : List Placed) → length old < k → length old < j → Outcome (λ (r : NamedTrees) (new : List Placed). TookArgs r old new) (IsStuckFrom at_more old)
  arguments zero old h l = absurd (omega arith)
  arguments (suc j) old h l = elim (inside InCall old h) [
    | no_end new y ↦ stuck new y
    | closed a mid new y b ↦ taken (More a End) new (took_last y b)
    | comma a mid new takes y b ↦ elim (arguments j new (omega (arith, y.fewer, fewer_after b)) (omega (arith, y.fewer, fewer_after b))) [
      | taken r last z ↦ taken (More a r) last (took_more y b z)
      | stuck last z ↦ stuck last (λ s. y.scans (InCall ∷ s) ∙ scan_after (Operator, InCall ∷ s) (Operand, InCall ∷ s) b refl ∙ z s)
    ]
  ]

  -- the indexes after an operand
  indexed : (j : ℕ) (old mid : List Placed) (a : NamedTree) → Took 8 a old mid → length mid ≤ k → length mid < j → Comes 7 old
  indexed zero old mid a x h l = absurd (omega arith)
  indexed (suc j) old mid a x h l = elim (eat Mark.OpenBracket mid) [
    | another other ↦ taken a mid (took_tighter x, stops_postfix 7 mid (omega arith) (omega arith) other)
    | found_first next b ↦ elim (inside InIndex next (omega (arith, fewer_after b))) [
      | closed i last new y c ↦ indexed j old new (e.Pick a i) (took_pick x b y c) (omega (arith, fewer_after b, y.fewer, fewer_after c)) (omega (arith, fewer_after b, y.fewer, fewer_after c))
      | comma i last new takes y c ↦ absurd (cc takes)
      | no_end new y ↦ stuck new (λ s. x.scans s ∙ scan_after (Operator, s) (Operand, InIndex ∷ s) b refl ∙ y s)
    ]
  ]

  operand : {old new : List Placed} (a : NamedTree) → Took 9 a old new → length new ≤ k → Comes 7 old
  operand {old} {new} a x h = indexed (suc k) old new a (took_tighter x) h (omega arith)

  -- an operand or a sign comes first, where an operand with its signs comes next or doesn't
  first : (t : Token) (place : ℕ) (ps : List Placed) → length ps < k → Comes 7 ps → Comes 7 (record { token = t; place = place } ∷ ps)
  first (Number z) place ps h below = operand (e.Lit z) (took_number (record { place = place; is = refl })) (omega arith)
  first (Truth v) place ps h below = operand (e.Truth v) (took_truth (record { place = place; is = refl })) (omega arith)
  first (Word x) place ps h below =
      let b : Begins (Word x) (record { token = Word x; place = place } ∷ ps) ps = record { place = place; is = refl } in
      elim (eat Mark.Open ps) [
        | another other ↦ operand (e.Col x) (took_name b other) (omega arith)
        | found_first args c ↦ elim (eat Mark.Close args) [
          | found_first new d ↦ operand (e.Call x End) (took_call_none b c d) (omega (arith, fewer_after c, fewer_after d))
          | another other ↦ elim (arguments k args (omega (arith, fewer_after c)) (omega (arith, fewer_after c))) [
            | taken r new y ↦ operand (e.Call x r) (took_call b c other y) (omega (arith, fewer_after c, y.fewer))
            | stuck new y ↦ stuck new (λ s. scan_after (AfterName, s) (FirstArgument, InCall ∷ s) c refl ∙ argument_first s args other ∙ y s)
          ]
        ]
      ]
  first (Op BinOp.Sub) place ps h below = elim below [ taken a new x ↦ taken (e.Neg a) new (took_minus_sign (record { place = place; is = refl }) x.0, x.1) | stuck new x ↦ stuck new (λ s. x s) ]
  first (Punct Mark.Bang) place ps h below = elim below [ taken a new x ↦ taken (e.Not a) new (took_not_sign (record { place = place; is = refl }) x.0, x.1) | stuck new x ↦ stuck new (λ s. x s) ]
  first (Punct Mark.Open) place ps h below = elim (inside InParens ps h) [
    | closed a mid new y c ↦ operand a (took_parens (record { place = place; is = refl }) y c) (omega (arith, y.fewer, fewer_after c))
    | comma a mid new takes y c ↦ absurd (cc takes)
    | no_end new y ↦ stuck new (λ s. y s)
  ]
  first t place ps h below = stuck (record { token = t; place = place } ∷ ps) (λ s. refl)

  signed : Reader k 7
  signed [] h = stuck [] (λ s. refl)
  signed (p ∷ ps) h = first p.token p.place ps (omega arith) (signed ps (omega arith))

  -- the operators of a level and their right sides, after a left side
  sides : (n : ℕ) → 1 ≤ n → n ≤ 6 → Reader k (suc n) → (j : ℕ) (old mid : List Placed) (a : NamedTree) → Took n a old mid → Stops (suc n) mid → length mid ≤ k → length mid < j → Comes n old
  sides n low high tight zero old mid a x st h l = absurd (omega arith)
  sides n low high tight (suc j) old mid a x st h l = elim (side_first n mid) [
    | none other ↦ taken a mid (x, stops_binary n mid low high (subst (λ (m : ℕ). Stops m mid) (sym (add-one n)) st) other)
    | side o next same b ↦ elim (tight next (omega (arith, fewer_after b))) [
      | taken c new y ↦ sides n low high tight j old new (e.Bin o a c) (took_binary x same b y.0) y.1 (omega (arith, fewer_after b, y.0.fewer)) (omega (arith, fewer_after b, y.0.fewer))
      | stuck new y ↦ stuck new (λ s. x.scans s ∙ scan_after (Operator, s) (Operand, s) b refl ∙ y s)
    ]
  ]

  by_binary : (d n : ℕ) → n + d ≡ 7 → 1 ≤ n → Reader k n
  by_binary zero n same low = let tightest : n ≡ 7 = omega arith in subst (Reader k) (sym tightest) signed
  by_binary (suc d) n same low = λ old h.
      let tight = by_binary d (suc n) (omega arith) (omega arith) in
      elim (tight old h) [
        | taken a mid x ↦ sides n low (omega arith) tight (suc k) old mid a (took_tighter x.0) x.1 (omega (arith, x.0.fewer)) (omega (arith, x.0.fewer))
        | stuck new x ↦ stuck new x
      ]

  by_conditional : Reader k 0
  by_conditional old h = elim (by_binary 6 1 refl (omega arith) old h) [
    | stuck new x ↦ stuck new x
    | taken c m1 x ↦ elim (eat Mark.Question m1) [
      | another other ↦ taken c m1 (took_tighter x.0, stops_expr m1 x.1 other)
      | found_first m2 b ↦ elim (inside InChoice m2 (omega (arith, x.0.fewer, fewer_after b))) [
        | closed a m3 m4 y d ↦ elim (expr m4 (omega (arith, x.0.fewer, fewer_after b, y.fewer, fewer_after d))) [
          | taken f new z ↦ taken (e.Cond c a f) new (took_conditional x.0 b y d z.0, z.1)
          | stuck new z ↦ stuck new (λ s. x.0.scans s ∙ scan_after (Operator, s) (Operand, InChoice ∷ s) b refl ∙ y.scans (InChoice ∷ s) ∙ scan_after (Operator, InChoice ∷ s) (Operand, s) d refl ∙ z s)
        ]
        | comma a m3 m4 takes y d ↦ absurd (cc takes)
        | no_end new y ↦ stuck new (λ s. x.0.scans s ∙ scan_after (Operator, s) (Operand, InChoice ∷ s) b refl ∙ y s)
      ]
    ]
  ]

expr : (k : ℕ) (old : List Placed) → length old < k → Comes 0 old
expr zero old h = absurd (omega arith)
expr (suc k) old h = by_conditional k (expr k) old (omega arith)

-- ---- the values of a Vary

-- the items of a list after others, and its `}`
list : (j : ℕ) (es : List NamedTree) (old mid : List Placed) → Listing es old mid → length mid < j → Outcome (λ (fs : List NamedTree) (new : List Placed). TookList fs old new) (IsStuckFrom at_item old)
list zero es old mid l h = absurd (omega arith)
list (suc j) es old mid l h = elim (inside (suc (length mid)) (expr (suc (length mid))) InList mid (omega arith)) [
  | no_end new y ↦ stuck new (λ s. l.scans s ∙ y s)
  | closed a last new y b ↦ taken (es ++ a ∷ []) new (list_done l y b)
  | comma a last new takes y b ↦ list j (es ++ a ∷ []) old new (list_more l y b) (omega (arith, y.fewer, fewer_after b))
]

list_alone : (old : List Placed) → Outcome (λ (fs : List NamedTree) (new : List Placed). TookList fs old new) (IsStuckFrom at_item old)
list_alone old = list (suc (length old)) [] old old (record { tokens = []; split = refl; completes = λ us es r. r; scans = λ s. refl; within = omega arith }) (omega arith)

-- lists after others, after the `{` of the next, and the outer `}`
lists : (j : ℕ) (ls : List (List NamedTree)) (old mid : List Placed) → Listings ls old mid → length mid < j
    → Outcome (λ (ms : List (List NamedTree)) (new : List Placed). TookLists ms old new) (λ (new : List Placed). scan in_list old ≡ stuck_at new)
lists zero ls old mid l h = absurd (omega arith)
lists (suc j) ls old mid l h = elim (list_alone mid) [
  | stuck new y ↦ stuck new (l.scans ∙ y (InLists ∷ []))
  | taken es m1 y ↦ elim (eat Mark.Comma m1) [
    | found_first m2 b ↦ elim (eat Mark.OpenBrace m2) [
      | found_first m3 c ↦ lists j (ls ++ es ∷ []) old m3 (lists_more l y b c) (omega (arith, y.fewer, fewer_after b, fewer_after c))
      | another other ↦ stuck m2 (l.scans ∙ y.scans (InLists ∷ []) ∙ scan_after (AfterList, InLists ∷ []) (NextList, InLists ∷ []) b refl ∙ stuck_next m2 other)
    ]
    | another other ↦ elim (eat Mark.CloseBrace m1) [
      | found_first new b ↦ taken (ls ++ es ∷ []) new (lists_done l y b)
      | another nor ↦ stuck m1 (l.scans ∙ y.scans (InLists ∷ []) ∙ stuck_between m1 other nor)
    ]
  ]
]

values : (old : List Placed) → Outcome (λ (v : VaryValues) (new : List Placed). TookValues v old new) (λ (new : List Placed). scan begin_values old ≡ stuck_at new)
values old = elim (eat Mark.OpenBrace old) [
  | another other ↦ elim (expr (suc (length old)) old (omega arith)) [
    | taken a new x ↦ taken (Vector a) new (took_vector other x.0 x.1)
    | stuck new x ↦ stuck new (vector_first old other ∙ x [])
  ]
  | found_first m1 b ↦ elim (eat Mark.OpenBrace m1) [
    | found_first m2 c ↦ elim (lists (suc (length m2)) [] m2 m2 (record { tokens = []; split = refl; completes = λ us ls r. r; scans = refl }) (omega arith)) [
      | taken ls new x ↦ taken (Lists ls) new (took_lists b c x)
      | stuck new x ↦ stuck new (scan_after begin_values (AfterBrace, InList ∷ []) b refl ∙ scan_after (AfterBrace, InList ∷ []) in_list c refl ∙ x)
    ]
    | another other ↦ elim (list_alone m1) [
      | taken es new x ↦ taken (Lists (es ∷ [])) new (took_list b other x)
      | stuck new x ↦ stuck new (scan_after begin_values (AfterBrace, InList ∷ []) b refl ∙ item_first m1 other ∙ x [])
    ]
  ]
]

-- ---- all tokens

never_stuck : (new : List Placed) → stuck_at new ≡ Whole → ⊥
never_stuck new h = grind arith

all_read : (new : List Placed) (ts us : List Token) → ends_at new ≡ Whole → ts ≡ us ++ bare new → us ≡ ts
all_read [] ts us h e = sym (e ∙ append-nil us)
all_read (p ∷ ps) ts us h e = cc h

pub reads_values : (ts : List Placed) → scan begin_values ts ≡ Whole → (v : VaryValues) × ReadsValues (bare ts) v
reads_values ts h = elim (values ts) [
  | stuck new x ↦ absurd (never_stuck new (sym x ∙ h))
  | taken v new x ↦ (v, subst (λ (us : List Token). ReadsValues us v) (all_read new _ x.tokens (sym x.ends ∙ h) x.split) x.reads)
]

pub reads_expr : (ts : List Placed) → scan begin_expr ts ≡ Whole → (a : NamedTree) × Reads 0 (bare ts) a
reads_expr ts h = elim (expr (suc (length ts)) ts (omega arith)) [
  | stuck new x ↦ absurd (never_stuck new (sym (x []) ∙ h))
  | taken a new x ↦ (a, subst (λ (us : List Token). Reads 0 us a) (all_read new _ x.0.tokens (sym (ends_operator new x.1) ∙ sym (x.0.scans []) ∙ h) x.0.split) x.0.reads)
]

-- ---- tokens that read are refused by no scan, and leave nothing open

-- the scan goes from one state to another, up to tokens that are these
record Passes (from to : ScanState) (old : List Placed) (us : List Token) : Type 0 where
  new : List Placed
  rest : bare new ≡ us
  scans : scan from old ≡ scan to new

-- the token doesn't come first
abbrev IsNo : Token → List Token → Type 0
IsNo t us = (vs : List Token) → us ≡ t ∷ vs → ⊥

pass : (from to : ScanState) (t : Token) (old : List Placed) (us : List Token) → scan_step from t ≡ Some to → bare old ≡ t ∷ us → Passes from to old us
pass from to t [] us e h = cc h
pass from to t (p ∷ ps) us e h = let same : p.token ≡ t = cc h in record { new = ps; rest = cc h; scans = rw (same, e) refl }

after : {from mid to : ScanState} {old : List Placed} {us vs : List Token} → Passes from mid old us → ((new : List Placed) → bare new ≡ us → Passes mid to new vs) → Passes from to old vs
after p f = let q = f p.new p.rest in record { new = q.new; rest = q.rest; scans = p.scans ∙ q.scans }

stay : {from to : ScanState} {old : List Placed} {us : List Token} → (t : Token) → bare old ≡ us → IsNo t us → (BeginsNot t old → scan from old ≡ scan to old) → Passes from to old us
stay {old = old} {us = us} t e isnt same = record { new = old; rest = e; scans = same (λ new b. isnt (bare new) (sym e ∙ ap bare b.is)) }

abbrev pub is_close : Token → Bool
is_close (Punct Mark.Close) = true
is_close (Punct Mark.OpenBrace) = true
is_close t = false

-- there is a first token, and it is no `)` and no `{`
abbrev pub starts : List Token → Bool
starts [] = false
starts (t ∷ ts) = not (is_close t)

pub starts_more : (ts us : List Token) → starts ts ≡ true → starts (ts ++ us) ≡ true
starts_more ts us h = grind arith

pub starts_with_it : {n : ℕ} {ts : List Token} {a : NamedTree} → Reads n ts a → starts ts ≡ true
starts_with_it number = refl
starts_with_it truth = refl
starts_with_it name = refl
starts_with_it (parenthesized r e) = rw e refl
starts_with_it (call r e) = rw e refl
starts_with_it (pick r q e) = rw e (starts_more _ _ (starts_with_it r))
starts_with_it (minus_sign r) = refl
starts_with_it (not_sign r) = refl
starts_with_it (binary r q l e) = rw e (starts_more _ _ (starts_with_it r))
starts_with_it (conditional r q s e) = rw e (starts_more _ _ (starts_with_it r))
starts_with_it (tighter r) = starts_with_it r

args_start : {ts : List Token} {args : NamedTrees} → ReadsArgs ts args → (args ≡ End → ⊥) → starts ts ≡ true
args_start h some = grind (arith, starts_with_it, starts_more)

no_first : (t : Token) (us : List Token) → is_close t ≡ true → starts us ≡ true → IsNo t us
no_first t us c h vs e = let no : starts us ≡ not (is_close t) = ap starts e in cc (h, no, c)

mutual
  scanned : {n : ℕ} {ts : List Token} {a : NamedTree} → Reads n ts a → (s : List OpenMark) (old : List Placed) (us : List Token) → IsNo (Punct Mark.Open) us → bare old ≡ ts ++ us → Passes (Operand, s) (Operator, s) old us
  scanned (number {z}) s old us isnt h = pass _ _ (Number z) old us refl h
  scanned (truth {b}) s old us isnt h = pass _ _ (Truth b) old us refl h
  scanned (name {x}) s old us isnt h = after (pass _ (AfterName, s) (Word x) old us refl h) (λ new e. stay (Punct Mark.Open) e isnt (name_ends s new))
  scanned (parenthesized {ts} r e) s old us isnt h =
      after (pass _ (Operand, InParens ∷ s) (Punct Mark.Open) old (ts ++ Punct Mark.Close ∷ us) refl (h ∙ rw (e, append_assoc) refl)) (λ m1 e1. after (scanned r (InParens ∷ s) m1 (Punct Mark.Close ∷ us) (λ vs x. cc x) e1) (λ m2 e2. pass _ (Operator, s) (Punct Mark.Close) m2 us refl e2))
  scanned (call {f} {ts} r e) s old us isnt h =
      after (pass _ (AfterName, s) (Word f) old (Punct Mark.Open ∷ (ts ++ Punct Mark.Close ∷ us)) refl (h ∙ rw e (simp append_assoc))) (λ m1 e1. after (pass _ (FirstArgument, InCall ∷ s) (Punct Mark.Open) m1 _ refl e1) (λ m2 e2. scanned_args r s m2 us e2))
  scanned (pick {ts = ts} {us = is} r q e) s old us isnt h =
      after (scanned r s old (Punct Mark.OpenBracket ∷ (is ++ Punct Mark.CloseBracket ∷ us)) (λ vs x. cc x) (h ∙ rw e (simp append_assoc))) (λ m1 e1. after (pass _ (Operand, InIndex ∷ s) (Punct Mark.OpenBracket) m1 _ refl e1) (λ m2 e2. after (scanned q (InIndex ∷ s) m2 (Punct Mark.CloseBracket ∷ us) (λ vs x. cc x) e2) (λ m3 e3. pass _ (Operator, s) (Punct Mark.CloseBracket) m3 us refl e3)))
  scanned (minus_sign r) s old us isnt h = after (pass _ (Operand, s) (Op BinOp.Sub) old _ refl h) (λ m e. scanned r s m us isnt e)
  scanned (not_sign r) s old us isnt h = after (pass _ (Operand, s) (Punct Mark.Bang) old _ refl h) (λ m e. scanned r s m us isnt e)
  scanned (binary {o = o} {us = bs} r q l e) s old us isnt h =
      after (scanned r s old (Op o ∷ (bs ++ us)) (λ vs x. cc x) (h ∙ rw e (simp append_assoc))) (λ m1 e1. after (pass _ (Operand, s) (Op o) m1 _ refl e1) (λ m2 e2. scanned q s m2 us isnt e2))
  scanned (conditional {us = bs} {ws = cs} r q w e) s old us isnt h =
      after (scanned r s old (Punct Mark.Question ∷ (bs ++ Punct Mark.Colon ∷ (cs ++ us))) (λ vs x. cc x) (h ∙ rw e (simp append_assoc))) (λ m1 e1. after (pass _ (Operand, InChoice ∷ s) (Punct Mark.Question) m1 _ refl e1) (λ m2 e2. after (scanned q (InChoice ∷ s) m2 (Punct Mark.Colon ∷ (cs ++ us)) (λ vs x. cc x) e2) (λ m3 e3. after (pass _ (Operand, s) (Punct Mark.Colon) m3 _ refl e3) (λ m4 e4. scanned w s m4 us isnt e4))))
  scanned (tighter r) s old us isnt h = scanned r s old us isnt h

  -- the arguments of a call and its `)`
  scanned_args : {ts : List Token} {args : NamedTrees} → ReadsArgs ts args → (s : List OpenMark) (old : List Placed) (us : List Token) → bare old ≡ ts ++ Punct Mark.Close ∷ us → Passes (FirstArgument, InCall ∷ s) (Operator, s) old us
  scanned_args no_arguments s old us h = pass _ (Operator, s) (Punct Mark.Close) old us refl h
  scanned_args (last_argument {ts} r) s old us h =
      after (stay (Punct Mark.Close) h (no_first _ _ refl (starts_more ts _ (starts_with_it r))) (argument_first s old))
      (λ m1 e1. after (scanned r (InCall ∷ s) m1 (Punct Mark.Close ∷ us) (λ vs x. cc x) e1) (λ m2 e2. pass _ (Operator, s) (Punct Mark.Close) m2 us refl e2))
  scanned_args (more_arguments {ts = ts} {us = bs} r q e) s old us h =
      after (stay (Punct Mark.Close) (h ∙ rw e (simp append_assoc)) (no_first _ _ refl (starts_more ts (Punct Mark.Comma ∷ (bs ++ Punct Mark.Close ∷ us)) (starts_with_it r))) (argument_first s old))
      (λ m1 e1. after (scanned r (InCall ∷ s) m1 (Punct Mark.Comma ∷ (bs ++ Punct Mark.Close ∷ us)) (λ vs x. cc x) e1)
      (λ m2 e2. after (pass _ (Operand, InCall ∷ s) (Punct Mark.Comma) m2 _ refl e2)
      (λ m3 e3. after (stay (Punct Mark.Close) e3 (no_first _ _ refl (starts_more bs _ (args_start q (λ x. cc x)))) (λ k. sym (argument_first s m3 k))) (λ m4 e4. scanned_args q s m4 us e4))))

bare_empty : (ts : List Placed) → bare ts ≡ [] → ts ≡ []
bare_empty [] h = refl
bare_empty (p ∷ ts) h = cc h

pub whole : (ts : List Placed) (a : NamedTree) → Reads 0 (bare ts) a → scan begin_expr ts ≡ Whole
whole ts a r =
    let all = scanned r [] ts [] (λ vs x. cc x) (sym (append-nil (bare ts))) in
    all.scans ∙ rw (bare_empty all.new all.rest) refl

-- ---- the values of a Vary

scanned_list : {ts : List Token} {es : List NamedTree} → ReadsList ts es → (s : List OpenMark) (old : List Placed) (us : List Token) → bare old ≡ ts ++ Punct Mark.CloseBrace ∷ us → Passes (Operand, InList ∷ s) (after_list s) old us
scanned_list (last_item r) s old us h = after (scanned r (InList ∷ s) old (Punct Mark.CloseBrace ∷ us) (λ vs x. cc x) h) (λ m e. pass _ (after_list s) (Punct Mark.CloseBrace) m us refl e)
scanned_list (more_items {us = bs} r q e) s old us h =
    after (scanned r (InList ∷ s) old (Punct Mark.Comma ∷ (bs ++ Punct Mark.CloseBrace ∷ us)) (λ vs x. cc x) (h ∙ rw e (simp append_assoc))) (λ m1 e1. after (pass _ (Operand, InList ∷ s) (Punct Mark.Comma) m1 _ refl e1) (λ m2 e2. scanned_list q s m2 us e2))

-- lists, where the first `{` puts a list on top of an outer brace
scanned_lists : {ts : List Token} {ls : List (List NamedTree)} → ReadsLists ts ls → (from : ScanState) → scan_step from (Punct Mark.OpenBrace) ≡ Some (Operand, InList ∷ InLists ∷ []) → (old : List Placed) (vs : List Token) → bare old ≡ ts ++ Punct Mark.CloseBrace ∷ vs → Passes from (Nothing, []) old vs
scanned_lists (last_list {ts} r e) from opens old vs h =
    after (pass from (Operand, InList ∷ InLists ∷ []) (Punct Mark.OpenBrace) old (ts ++ Punct Mark.CloseBrace ∷ Punct Mark.CloseBrace ∷ vs) opens (h ∙ rw e (simp append_assoc))) (λ m1 e1. after (scanned_list r (InLists ∷ []) m1 (Punct Mark.CloseBrace ∷ vs) e1) (λ m2 e2. pass _ (Nothing, []) (Punct Mark.CloseBrace) m2 vs refl e2))
scanned_lists (more_lists {ts} {us = bs} r q e) from opens old vs h =
    after (pass from (Operand, InList ∷ InLists ∷ []) (Punct Mark.OpenBrace) old (ts ++ Punct Mark.CloseBrace ∷ Punct Mark.Comma ∷ (bs ++ Punct Mark.CloseBrace ∷ vs)) opens (h ∙ rw e (simp append_assoc))) (λ m1 e1. after (scanned_list r (InLists ∷ []) m1 (Punct Mark.Comma ∷ (bs ++ Punct Mark.CloseBrace ∷ vs)) e1) (λ m2 e2. after (pass _ (NextList, InLists ∷ []) (Punct Mark.Comma) m2 _ refl e2) (λ m3 e3. scanned_lists q (NextList, InLists ∷ []) refl m3 vs e3)))

pub list_starts : {ts : List Token} {es : List NamedTree} → ReadsList ts es → starts ts ≡ true
list_starts h = grind (arith, starts_with_it, starts_more)

scanned_values : {ts : List Token} {v : VaryValues} → ReadsValues ts v → (old : List Placed) → bare old ≡ ts → scan begin_values old ≡ Whole
scanned_values (one_list {ts} r e) old h =
    let all = after (pass begin_values (AfterBrace, InList ∷ []) (Punct Mark.OpenBrace) old (ts ++ Punct Mark.CloseBrace ∷ []) refl (h ∙ e))
    (λ m1 e1. after (stay (Punct Mark.OpenBrace) e1 (no_first _ _ refl (starts_more ts _ (list_starts r))) (item_first m1)) (λ m2 e2. scanned_list r [] m2 [] e2)) in
    all.scans ∙ rw (bare_empty all.new all.rest) refl
scanned_values (several_lists {ts} r e) old h =
    let all = after (pass begin_values (AfterBrace, InList ∷ []) (Punct Mark.OpenBrace) old (ts ++ Punct Mark.CloseBrace ∷ []) refl (h ∙ e)) (λ m1 e1. scanned_lists r (AfterBrace, InList ∷ []) refl m1 [] e1) in
    all.scans ∙ rw (bare_empty all.new all.rest) refl
scanned_values (vector {ts} r) old h =
    let all = after (stay (Punct Mark.OpenBrace) h (no_first _ _ refl (starts_with_it r)) (vector_first old)) (λ m e. scanned r [] m [] (λ vs x. cc x) (e ∙ sym (append-nil ts))) in
    all.scans ∙ rw (bare_empty all.new all.rest) refl

pub whole_values : (ts : List Placed) (v : VaryValues) → ReadsValues (bare ts) v → scan begin_values ts ≡ Whole
whole_values ts v r = scanned_values r ts refl
