-- The script that a text of at most 65,536 bytes is can be booked.
use Rattle.lemmas.proofs.{◌≢◌, ◌≤◌, ◌<◌, List, [], ◌∷◌, ◌++◌, length, All, arith, sym, ◌+◌, ℕ, ◌≡◌, zero, suc, Some, None, Ok, Result, refl, ap, length-append, ℤ, All-append, All-cons, All-head, All-tail, common_steps, All-from_recursion, AllByRecursion, length-map}
use Rattle.rdf_values.specs.{AreFnNames, FnName, HaveDistinctNames, IsBuiltIn, LacksName, ActionKind, all_strings, AreLines, AreNames, AreRising, AreShortValues, arguments, blank_line, Close, Comma, edges_tokens, expression_count, Form, form_tokens, IsAction, IsBookable, IsLine, IsScript, IsShort, last_item, last_list, Lexeme, lexeme, Line, lines_of, Mark, maybe_string, Method, more_edges, more_items, more_lists, more_names, more_strings, NamedTree, no_lines, no_names, one_list, PlacedToken, Punct, Quoted, QuotedText, ReadsList, ReadsLists, ReadsValues, ReadsValuesText, Says, Script, several_lists, Statement, statement_line, strings_tokens, Token, tokens_from, VaryValues, vector, with_lexeme}
use Rattle.rdf_values.proofs.OneText.{few_tokens}
use Rattle.rdf_values.specs.declared.scripts.statement.Statement.TheVariants.{Action}
use Rattle.rdf_values.specs.scripts.LineForms as form
use Rattle.rdf_values.specs.scripts.Statements as says

All-one : (P : FnName → Type 0) (f : FnName) → P f → All P (f ∷ [])
All-one P f p = All-cons P f [] p (λ k d h. absurd (omega arith))

HaveDistinctNames-push : (fs : List FnName) (f : FnName) → HaveDistinctNames fs → LacksName f.name fs → HaveDistinctNames (fs ++ f ∷ [])
HaveDistinctNames-push [] f d l = (λ k d h. absurd (omega arith), tt)
HaveDistinctNames-push (g ∷ gs) f d l =
    (All-append (λ h. h.name ≢ g.name) gs (f ∷ []) d.0 (All-one (λ h. h.name ≢ g.name) f (λ e. All-head (λ h. h.name ≢ f.name) g gs l (sym e))), HaveDistinctNames-push gs f d.1 (All-tail (λ h. h.name ≢ f.name) g gs l))

pub AreFnNames-push : (fs : List FnName) (f : FnName) → AreFnNames fs → length fs < 64 → f.arity ≤ 8 → LacksName f.name fs → (IsBuiltIn f.name → ⊥) → AreFnNames (fs ++ f ∷ [])
AreFnNames-push fs f a room arity lacks free = record {
  few = grind (arith, common_steps);
  arities = All-append (λ h. h.arity ≤ 8) fs (f ∷ []) a.arities (All-one (λ h. h.arity ≤ 8) f arity);
  distinct = HaveDistinctNames-push fs f a.distinct lacks;
  not_built_in = All-append (λ h. IsBuiltIn h.name → ⊥) fs (f ∷ []) a.not_built_in (All-one (λ h. IsBuiltIn h.name → ⊥) f free);
}

-- ---- The script that a text of at most 65,536 bytes is can be booked: an expression has at most 256 tokens, so the lists of a Vary are short

list_few : (ts : List Token) (es : List NamedTree) → ReadsList ts es → length es ≤ suc (length ts)
list_few ts es (last_item h) = omega arith
list_few vs es (more_items {ts = ts} {us = us} {es = rest} h k e) =
    let n = ap length e in let m = length-append ts (Punct Mark.Comma ∷ us) in let q = list_few us rest k in omega (arith, n, m, q)

lists_few : (ts : List Token) (ls : List (List NamedTree)) → ReadsLists ts ls → (length ls ≤ length ts) × (expression_count ls ≤ length ts)
lists_few us ls (last_list {ts = ts} {es = es} h e) =
    let n = ap length e in let m = length-append ts (Punct Mark.CloseBrace ∷ []) in let q = list_few ts es h in (omega (arith, n, m), omega (arith, n, m, q))
lists_few vs ls (more_lists {ts = ts} {us = us} {es = es} {ls = rest} h k e) =
    let n = ap length e in let m = length-append ts (Punct Mark.CloseBrace ∷ Punct Mark.Comma ∷ us) in let q = list_few ts es h in let r = lists_few us rest k in
    let small = r.0 in let few = r.1 in (omega (arith, n, m, small), omega (arith, n, m, q, few))

short_values : (ts : List Token) (vs : VaryValues) → length ts ≤ 256 → ReadsValues ts vs → AreShortValues vs
short_values us vs le (one_list {ts = ts} {es = es} h e) =
    let n = ap length e in let m = length-append ts (Punct Mark.CloseBrace ∷ []) in let q = list_few ts es h in (omega arith, omega (arith, n, m, q, le))
short_values us vs le (several_lists {ts = ts} {ls = ls} h e) =
    let n = ap length e in let m = length-append ts (Punct Mark.CloseBrace ∷ []) in let q = lists_few ts ls h in let small = q.0 in let few = q.1 in
    (omega (arith, n, m, small, le), omega (arith, n, m, few, le))
short_values ts vs le (vector h) = tt

values_short : (text : List ℕ) (vs : VaryValues) → ReadsValuesText text vs → AreShortValues vs
values_short text vs h = grind (arith, few_tokens, length-map, short_values)

-- ---- a line has no more tokens than bytes

with_few : (most place : ℕ) (x : Lexeme) (rest : ℕ → Result (List PlacedToken) ℕ) (ts : List PlacedToken) → ((more : ℕ) (us : List PlacedToken) → rest more ≡ Ok us → length us ≤ most) → with_lexeme place x rest ≡ Ok ts → length ts ≤ suc most
with_few most place x rest ts h k = grind arith

line_few : (line : List ℕ) (passed place : ℕ) (ts : List PlacedToken) → tokens_from line passed place ≡ Ok ts → length ts ≤ length line
unfolding tokens_from
line_few [] passed place ts e = let none : [] ≡ ts = cc e in let n = ap length none in omega (arith, n)
line_few (c ∷ cs) (suc passed) place ts e = let n = line_few cs passed (place + 1) ts e in omega (arith, n)
line_few (c ∷ cs) zero place ts e = with_few (length cs) place (lexeme place c cs) (λ more. tokens_from cs more (place + 1)) ts (λ more us q. line_few cs more (place + 1) us q) e

-- ---- so its lists are short

strings_few : (ts : List QuotedText) → length ts ≤ length (more_strings ts)
strings_few [] = omega arith
strings_few (t ∷ ts) = let n = strings_few ts in omega (arith, n)

edges_few : (zs : List ℤ) → length zs ≤ length (more_edges zs)
edges_few [] = omega arith
edges_few (z ∷ zs) = let n = edges_few zs in omega (arith, n)

inside_few : (n p : List ℕ) (m : Method) → length (arguments m) ≤ length (form_tokens (form.Books n p m))
inside_few n p m = let e = length-append (arguments m) (Close ∷ []) in omega (arith, e)

names_are : (ts : List QuotedText) (xs : List (List ℕ)) → AreNames ts xs → length ts ≡ length xs
names_are ts xs no_names = refl
names_are ts xs (more_names {ts = us} {xs = ys} h k) = ap suc (names_are us ys k)

action_short : (n p : List ℕ) (m : Method) (k : ActionKind) → length (arguments m) ≤ 65536 → IsAction m k → IsShort (Action n p k)
action_short n p m k le (says.histo1d {es = es} {c = c} {w = w} h l) =
    let e = length-append (edges_tokens es) (Comma ∷ Quoted c ∷ maybe_string w) in let q = edges_few es.rest in omega (arith, e, q, le)
action_short n p m k le (says.histo2d {es = es} {fs = fs} {c = c} {d = d} {w = w} h l v) =
    let e = length-append (edges_tokens es) (Comma ∷ (edges_tokens fs ++ Comma ∷ Quoted c ∷ Comma ∷ Quoted d ∷ maybe_string w)) in
    let f = length-append (edges_tokens fs) (Comma ∷ Quoted c ∷ Comma ∷ Quoted d ∷ maybe_string w) in
    let q = edges_few es.rest in let r = edges_few fs.rest in (omega (arith, e, f, q, r, le), omega (arith, e, f, q, r, le))
action_short n p m k le h = tt

says_short : (f : Form) (s : Statement) → length (form_tokens f) ≤ 65536 → Says f s → IsShort s
says_short f s le (says.vary {n = n} {p = p} {c = c} {v = v} {ts = ts} {tags = tags} h k l) =
    let i = inside_few n p (form.VaryOne c v ts None) in let e = length-append (strings_tokens ts) [] in let q = strings_few ts.rest in let m = names_are (all_strings ts) tags l in
    (omega arith, omega arith, omega (arith, m), omega (arith, i, e, q, m, le), values_short v.content _ k)
says_short f s le (says.vary_named {n = n} {p = p} {c = c} {v = v} {m = name} {ts = ts} {tags = tags} h k l o) =
    let i = inside_few n p (form.VaryOne c v ts (Some name)) in let e = length-append (strings_tokens ts) (Comma ∷ Quoted name ∷ []) in let q = strings_few ts.rest in let m = names_are (all_strings ts) tags l in
    (omega arith, omega arith, omega (arith, m), omega (arith, i, e, q, m, le), values_short v.content _ k)
says_short f s le (says.vary_all {n = n} {p = p} {v = v} {m = name} {cs = cs} {ts = ts} {xs = xs} {tags = tags} h k l o) =
    let i = inside_few n p (form.VaryAll cs v ts name) in
    let e = length-append (strings_tokens cs) (Comma ∷ Quoted v ∷ Comma ∷ (strings_tokens ts ++ Comma ∷ Quoted name ∷ [])) in let g = length-append (strings_tokens ts) (Comma ∷ Quoted name ∷ []) in
    let q = strings_few ts.rest in let r = strings_few cs.rest in let m = names_are (all_strings ts) tags l in let w = names_are (all_strings cs) xs h in
    (omega (arith, w), omega (arith, i, e, g, q, r, w, le), omega (arith, m), omega (arith, i, e, g, q, r, m, le), values_short v.content _ k)
says_short f s le (says.action {n = n} {p = p} {m = m} {k = k} h) = let i = inside_few n p m in let z : length (arguments m) ≤ 65536 = omega (arith, i, le) in action_short n p m k z h
says_short f s le h = tt

line_short : (line : List ℕ) (s : Statement) → length line ≤ 65536 → IsLine line s → IsShort s
line_short line s le h = grind (arith, line_few, length-map, says_short)

-- ---- and no line is longer than the text

abbrev AreWithin : ℕ → List (List ℕ) → Type 0
AreWithin most ls = AllByRecursion (λ (l : List ℕ). length l ≤ most) ls

longer : (m : ℕ) (ls : List (List ℕ)) → AreWithin m ls → AreWithin (suc m) ls
longer m [] h = tt
longer m (l ∷ ls) h = (let q = h.0 in omega (arith, q), longer m ls h.1)

lines_within : (text : List ℕ) → AreWithin (length text) (lines_of text)
unfolding lines_of
lines_within [] = tt
lines_within (c ∷ cs) = grind (arith, longer, lines_within cs)

-- ---- a script

rising : (m number : ℕ) (lines : List (List ℕ)) (ls : List Line) → m < number → AreLines number lines ls → AreRising m ls
rising m number lines ls lt no_lines = tt
rising m number lines ls lt (blank_line {lines = rest} h k) = rising m (suc number) rest ls (omega (arith, lt)) k
rising m number lines ls lt (statement_line {lines = rest} {ls = more} h k) = (lt, rising number (suc number) rest more (omega arith) k)

all_short : (most number : ℕ) (lines : List (List ℕ)) (ls : List Line) → most ≤ 65536 → AreWithin most lines → AreLines number lines ls → AllByRecursion (λ (l : Line). IsShort l.statement) ls
all_short most number lines ls le w no_lines = tt
all_short most number lines ls le w (blank_line {lines = rest} h k) = all_short most (suc number) rest ls le w.1 k
all_short most number lines ls le w (statement_line {line = line} {lines = rest} {s = s} {ls = more} h k) =
    (let q = w.0 in let z : length line ≤ 65536 = omega (arith, q, le) in line_short line s z h, all_short most (suc number) rest more le w.1 k)

pub scripts_are_bookable : (text : List ℕ) (script : Script) → length text ≤ 65536 → IsScript text script → IsBookable script
scripts_are_bookable text script le h = record {
  few = h.few;
  rising = rising 0 1 (lines_of text) script.lines (omega arith) h.lines;
  short = All-from_recursion (λ (l : Line). IsShort l.statement) script.lines (all_short (length text) 1 (lines_of text) script.lines le (lines_within text) h.lines);
}
