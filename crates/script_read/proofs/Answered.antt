-- Each text is a script, or is refused.
use Rattle.rdf_values.proofs.OneScript.{IsGood, AreGood, good_name, good_operation, good_names}
use Rattle.lemmas.proofs.{◌≡◌, ℕ, Bool, true, false, List, [], ◌∷◌, ◌++◌, Option, Some, None, refl, sym, ap, ◌∙◌, inl, inr, ◌⊎◌, arith, ◌<◌, ◌≤◌, ◌+◌, suc, length, Result, Ok, Err, append-nil, cases_order}
use Rattle.rdf_values.specs.{a_label, a_name, ActionKind, ALabel, all_edges, all_strings, AName, AnExpression, AnOperation, AreNames, begin_expr, begin_values, FirstBad, Form, form_strings, here, is_label, is_name, IsAction, IsBad, IsMaybeLabel, IsMaybeName, IsName, later, LineRefusal, maybe_wanted, Method, method_strings, more_names, NamedTree, no_label, no_name, no_names, operation_text, QuotedText, Reads, ReadsText, ReadsValues, ReadsValuesText, ReduceOp, Says, SomeValues, Statement, VaryValues, wanted_names, AreLines, bare_tokens, cause_at, IsBlankLine, IsForm, IsLine, IsScript, Line, line_tokens, lines_of, PlacedToken, RefusesLine, RefusesLines, RefusesScript, Script, ScriptCause}
use Rattle.rdf_values.specs.scripts.Statements.{Wanted}
use Rattle.expr_read.proofs.Decided.{answered as expr_answered}
use Rattle.expr_read.proofs.WholeReads.{whole, whole_values, reads_expr, reads_values}
use Rattle.script_read.specs.{named, ALine, Done, place_from, StuckAt, walk_placed, WalkEnd}
use Rattle.script_read.proofs.Walked.{named_is, line_walked, refuses_line}
use Rattle.script_read.proofs.FirstBads.{bad_before, bad_after, good_expression, good_values}
use Rattle.rdf_values.specs.scripts.LineForms as form
use Rattle.rdf_values.specs.scripts.Statements as st
use Rattle.rdf_values.specs.scripts.Scripts as script

-- ---- a form says something, or one of its strings is the first that is bad: one string

-- what was wanted, or the refusal of the string
abbrev OrBad : Type 0 → QuotedText × Wanted → Type 0
OrBad A w = A ⊎ ((r : LineRefusal) × IsBad w r)

-- what was wanted, or the refusal of the first bad string
abbrev OrFirstBad : Type 0 → List (QuotedText × Wanted) → Type 0
OrFirstBad A ws = A ⊎ ((r : LineRefusal) × FirstBad ws r)

by_test : {A : Type 0} (w : QuotedText × Wanted) (b : Bool) → (b ≡ true → A) → (b ≡ false → (r : LineRefusal) × IsBad w r) → OrBad A w
by_test w b f g = grind arith

name_or_bad : (q : QuotedText) → OrBad ((x : List ℕ) × IsName q x) (q, AName)
name_or_bad q = by_test (q, AName) (is_name q.content) (λ e. (q.content, record { content = refl; name = e })) (λ e. (st.Syntax q.place, st.no_name e))

-- the string is that label
abbrev IsLabel : QuotedText → List ℕ → Type 0
IsLabel q x = (q.content ≡ x) × (is_label x ≡ true)

label_or_bad : (q : QuotedText) → OrBad ((x : List ℕ) × IsLabel q x) (q, ALabel)
label_or_bad q = by_test (q, ALabel) (is_label q.content) (λ e. (q.content, (refl, e))) (λ e. (st.Syntax q.place, st.no_label e))

expression_or_bad : (q : QuotedText) → OrBad ((a : NamedTree) × ReadsText q.content a) (q, AnExpression)
expression_or_bad q = elim (expr_answered (Reads 0) begin_expr whole reads_expr q.content) [ inl a ↦ inl a | inr r ↦ inr (_, st.no_expression r.1) ]

values_or_bad : (q : QuotedText) → OrBad ((v : VaryValues) × ReadsValuesText q.content v) (q, SomeValues)
values_or_bad q = elim (expr_answered ReadsValues begin_values whole_values reads_values q.content) [ inl v ↦ inl v | inr r ↦ inr (_, st.no_values r.1) ]

abbrev operations : List ReduceOp
operations = ReduceOp.Min ∷ ReduceOp.Max ∷ ReduceOp.And ∷ ReduceOp.Or ∷ ReduceOp.Xor ∷ ReduceOp.WrapAdd ∷ []

operation_found : (o : ReduceOp) → named operation_text (operation_text o) operations ≡ Some o
operation_found o = grind arith

operation_or_bad : (q : QuotedText) → OrBad ((o : ReduceOp) × (q.content ≡ operation_text o)) (q, AnOperation)
operation_or_bad q = go (named operation_text q.content operations) refl
  where
    go : (found : Option ReduceOp) → named operation_text q.content operations ≡ found → OrBad ((o : ReduceOp) × (q.content ≡ operation_text o)) (q, AnOperation)
    go (Some o) e = inl (o, named_is operation_text q.content operations o e)
    go None e = inr (st.Syntax q.place, st.no_operation (λ o h. let one = ap (λ w. named operation_text w operations) h ∙ operation_found o in cc (sym e ∙ one)))

-- ---- several strings

-- a string and those behind it
then_more : {A B : Type 0} (w : QuotedText × Wanted) (ws : List (QuotedText × Wanted)) → OrBad A w → (A → IsGood w) → OrFirstBad B ws → OrFirstBad (A × B) (w ∷ ws)
then_more w ws (inr b) good rest = inr (b.0, here b.1)
then_more w ws (inl a) good (inl b) = inl (a, b)
then_more w ws (inl a) good (inr b) = inr (b.0, later (good a) b.1)

-- the last string
last : {A : Type 0} (w : QuotedText × Wanted) → OrBad A w → OrFirstBad A (w ∷ [])
last w (inr b) = inr (b.0, here b.1)
last w (inl a) = inl a

-- strings and those behind them
then_all : {A B : Type 0} (vs ws : List (QuotedText × Wanted)) → OrFirstBad A vs → (A → AreGood vs) → OrFirstBad B ws → OrFirstBad (A × B) (vs ++ ws)
then_all vs ws h good rest = grind (arith, bad_before, bad_after)

turned : {A B : Type 0} (ws : List (QuotedText × Wanted)) → (A → B) → OrFirstBad A ws → OrFirstBad B ws
turned ws f h = grind arith

name_good : (q : QuotedText) → (x : List ℕ) × IsName q x → IsGood (q, AName)
name_good q x = good_name q x.0 x.1

names_or_bad : (qs : List QuotedText) → OrFirstBad ((xs : List (List ℕ)) × AreNames qs xs) (wanted_names qs)
names_or_bad [] = inl ([], no_names)
names_or_bad (q ∷ qs) = turned (wanted_names (q ∷ qs)) (λ p. (p.0.0 ∷ p.1.0, more_names p.0.1 p.1.1)) (then_more (q, AName) (wanted_names qs) (name_or_bad q) (name_good q) (names_or_bad qs))

names_good : (qs : List QuotedText) → (xs : List (List ℕ)) × AreNames qs xs → AreGood (wanted_names qs)
names_good qs xs = good_names qs xs.0 xs.1

maybe_name_or_bad : (q : Option QuotedText) → OrFirstBad ((x : Option (List ℕ)) × IsMaybeName q x) (maybe_wanted q AName)
maybe_name_or_bad None = inl (None, no_name)
maybe_name_or_bad (Some q) = turned ((q, AName) ∷ []) (λ x. (Some x.0, a_name x.1)) (last (q, AName) (name_or_bad q))

maybe_label_or_bad : (q : Option QuotedText) → OrFirstBad ((x : Option (List ℕ)) × IsMaybeLabel q x) (maybe_wanted q ALabel)
maybe_label_or_bad None = inl (None, no_label)
maybe_label_or_bad (Some q) = turned ((q, ALabel) ∷ []) (λ x. (Some x.0, a_label x.1.0 x.1.1)) (last (q, ALabel) (label_or_bad q))

-- ---- forms

column_and_expression : (c e : QuotedText) → OrFirstBad (((x : List ℕ) × IsName c x) × ((a : NamedTree) × ReadsText e.content a)) ((c, AName) ∷ (e, AnExpression) ∷ [])
column_and_expression c e = then_more (c, AName) ((e, AnExpression) ∷ []) (name_or_bad c) (name_good c) (last (e, AnExpression) (expression_or_bad e))

one_action : (n p : List ℕ) (c : QuotedText) (m : Method) → ((x : List ℕ) → IsName c x → (k : ActionKind) × IsAction m k) → OrFirstBad ((s : Statement) × Says (form.Books n p m) s) ((c, AName) ∷ [])
one_action n p c m act = turned ((c, AName) ∷ []) (λ x. let k = act x.0 x.1 in (Statement.Action n p k.0, st.action k.1)) (last (c, AName) (name_or_bad c))

-- the values and the tags of a Vary, and the strings behind them
values_and_tags : {B : Type 0} (v : QuotedText) (ts : List QuotedText) (ws : List (QuotedText × Wanted)) → OrFirstBad B ws
    → OrFirstBad (((vs : VaryValues) × ReadsValuesText v.content vs) × (((tags : List (List ℕ)) × AreNames ts tags) × B)) ((v, SomeValues) ∷ (wanted_names ts ++ ws))
values_and_tags v ts ws rest =
    then_more (v, SomeValues) (wanted_names ts ++ ws) (values_or_bad v) (λ a. good_values v a.0 a.1) (then_all (wanted_names ts) ws (names_or_bad ts) (names_good ts) rest)

says_vary_one : (n p : List ℕ) (c v : QuotedText) (ts : form.Strings) (m : Option QuotedText) (x : List ℕ) (vs : VaryValues) (tags : List (List ℕ)) (y : Option (List ℕ))
    → IsName c x → ReadsValuesText v.content vs → AreNames (all_strings ts) tags → IsMaybeName m y → (s : Statement) × Says (form.Books n p (form.VaryOne c v ts m)) s
says_vary_one n p c v ts m x vs tags y a b d no_name = (Statement.Vary n p (x ∷ []) vs tags x, st.vary a b d)
says_vary_one n p c v ts m x vs tags y a b d (a_name {x = z} e) = (Statement.Vary n p (x ∷ []) vs tags z, st.vary_named a b d e)

method_says : (n p : List ℕ) (m : Method) → OrFirstBad ((s : Statement) × Says (form.Books n p m) s) (method_strings m)
method_says n p (form.Define c e) = turned _ (λ a. (Statement.Define n p a.0.0 a.1.0, st.define a.0.1 a.1.1)) (column_and_expression c e)
method_says n p (form.Redefine c e) = turned _ (λ a. (Statement.Redefine n p a.0.0 a.1.0, st.redefine a.0.1 a.1.1)) (column_and_expression c e)
method_says n p (form.Alias c t) =
    turned _ (λ a. (Statement.Alias n p a.0.0 a.1.0, st.alias a.0.1 a.1.1))
    (then_more (c, AName) ((t, AName) ∷ []) (name_or_bad c) (name_good c) (last (t, AName) (name_or_bad t)))
method_says n p (form.Filter e l) =
    turned _ (λ a. (Statement.Filter n p a.0.0 a.1.0, st.filter a.0.1 a.1.1))
    (then_more (e, AnExpression) (maybe_wanted l ALabel) (expression_or_bad e) (λ a. good_expression e a.0 a.1) (maybe_label_or_bad l))
method_says n p (form.VaryOne c v ts m) =
    turned _ (λ a. says_vary_one n p c v ts m a.0.0 a.1.0.0 a.1.1.0.0 a.1.1.1.0 a.0.1 a.1.0.1 a.1.1.0.1 a.1.1.1.1)
    (then_more (c, AName) ((v, SomeValues) ∷ (wanted_names (all_strings ts) ++ maybe_wanted m AName)) (name_or_bad c) (name_good c) (values_and_tags v (all_strings ts) (maybe_wanted m AName) (maybe_name_or_bad m)))
method_says n p (form.VaryAll cs v ts m) =
    turned _ (λ a. (Statement.Vary n p a.0.0 a.1.0.0 a.1.1.0.0 a.1.1.1.0, st.vary_all a.0.1 a.1.0.1 a.1.1.0.1 a.1.1.1.1))
    (then_all (wanted_names (all_strings cs)) ((v, SomeValues) ∷ (wanted_names (all_strings ts) ++ (m, AName) ∷ [])) (names_or_bad (all_strings cs)) (names_good (all_strings cs)) (values_and_tags v (all_strings ts) ((m, AName) ∷ []) (last (m, AName) (name_or_bad m))))
method_says n p form.Count = inl (Statement.Action n p ActionKind.Count, st.action st.count)
method_says n p form.Report = inl (Statement.Report n p, st.report)
method_says n p (form.Sum c) = one_action n p c (form.Sum c) (λ x a. (ActionKind.Sum x, st.sum a))
method_says n p (form.Min c) = one_action n p c (form.Min c) (λ x a. (ActionKind.Min x, st.min a))
method_says n p (form.Max c) = one_action n p c (form.Max c) (λ x a. (ActionKind.Max x, st.max a))
method_says n p (form.Take c) = one_action n p c (form.Take c) (λ x a. (ActionKind.Take x, st.take a))
method_says n p (form.Reduce o c) =
    turned _ (λ a. (Statement.Action n p (ActionKind.Reduce a.0.0 a.1.0), st.action (st.reduce a.0.1 a.1.1)))
    (then_more (o, AnOperation) ((c, AName) ∷ []) (operation_or_bad o) (λ a. good_operation o a.0 a.1) (last (c, AName) (name_or_bad c)))
method_says n p (form.Histo1D es x w) =
    turned _ (λ a. (Statement.Action n p (ActionKind.Histo1D (all_edges es) a.0.0 a.1.0), st.action (st.histo1d a.0.1 a.1.1)))
    (then_more (x, AName) (maybe_wanted w AName) (name_or_bad x) (name_good x) (maybe_name_or_bad w))
method_says n p (form.Histo2D es fs x y w) =
    turned _ (λ a. (Statement.Action n p (ActionKind.Histo2D (all_edges es) (all_edges fs) a.0.0 a.1.0.0 a.1.1.0), st.action (st.histo2d a.0.1 a.1.0.1 a.1.1.1)))
    (then_more (x, AName) ((y, AName) ∷ maybe_wanted w AName) (name_or_bad x) (name_good x) (then_more (y, AName) (maybe_wanted w AName) (name_or_bad y) (name_good y) (maybe_name_or_bad w)))

-- a form says something, or its first bad string refuses it
pub form_says : (f : Form) → ((s : Statement) × Says f s) ⊎ ((r : LineRefusal) × FirstBad (form_strings f) r)
form_says (form.Books n p m) = method_says n p m
form_says (form.Print r) = inl (Statement.Print r, st.print)
form_says (form.VariationsFor r) = inl (Statement.VariationsFor r, st.variations_for)
form_says (form.Watch r) = inl (Statement.Watch r, st.watch)

-- ---- lines

-- the line says something or is refused
abbrev IsAnswered : List ℕ → Type 0
IsAnswered line = ((s : Statement) × IsLine line s) ⊎ ((r : LineRefusal) × RefusesLine line r)

by_form : (line : List ℕ) (ts : List PlacedToken) (f : Form) → line_tokens line ≡ Ok ts → IsForm (bare_tokens ts) f → ((s : Statement) × Says f s) ⊎ ((r : LineRefusal) × FirstBad (form_strings f) r) → IsAnswered line
by_form line ts f e is (inl s) = inl (s.0, record { found = ts; tokens = e; form = f; is_form = is; says = s.1 })
by_form line ts f e is (inr b) = inr (b.0, script.at_string e is b.1)

by_walk : (line : List ℕ) (ts : List PlacedToken) (end : WalkEnd PlacedToken) → line_tokens line ≡ Ok ts → 0 < length ts → walk_placed ts (ALine ∷ []) ≡ end → IsAnswered line
by_walk line ts Done e some h = let s = line_walked ts Done h in by_form line ts s.0.0.0 e (record { tokens = s.1 ∙ append-nil _; free = s.0.0.1 }) (form_says s.0.0.0)
by_walk line ts (StuckAt left) e some h = inr (st.Syntax (place_from left (length line)), refuses_line ts left (length line) line h some e refl)

by_tokens : (line : List ℕ) (found : Result (List PlacedToken) ℕ) → line_tokens line ≡ found → IsBlankLine line ⊎ IsAnswered line
by_tokens line (Err place) e = inr (inr (st.Syntax place, script.at_byte e))
by_tokens line (Ok []) e = inl e
by_tokens line (Ok (t ∷ ts)) e = let some : 0 < length (t ∷ ts) = omega arith in inr (by_walk line (t ∷ ts) (walk_placed (t ∷ ts) (ALine ∷ [])) e some refl)

-- ---- scripts

-- the lines are statements, behind so many, or are refused
abbrev AreAnswered : List (List ℕ) → ℕ → ℕ → Type 0
AreAnswered lines number before = ((ls : List Line) × AreLines number lines ls × (before + length ls ≤ 256)) ⊎ ((c : ScriptCause) × RefusesLines number before lines c)

by_blank : (line : List ℕ) (lines : List (List ℕ)) (number before : ℕ) → IsBlankLine line → AreAnswered lines (suc number) before → AreAnswered (line ∷ lines) number before
by_blank line lines number before blank (inl r) = inl (r.0, script.blank_line blank r.1, r.2)
by_blank line lines number before blank (inr r) = inr (r.0, script.after_blank blank r.1)

by_statement : (line : List ℕ) (lines : List (List ℕ)) (number before : ℕ) (s : Statement) → IsLine line s → before < 256 → AreAnswered lines (suc number) (suc before) → AreAnswered (line ∷ lines) number before
by_statement line lines number before s is room (inl r) =
    let few = r.2 in
    let ls : List Line = record { number = number; statement = s } ∷ r.0 in
    let fewer : before + length ls ≤ 256 = omega arith in
    inl (ls, script.statement_line is r.1, fewer)
by_statement line lines number before s is room (inr r) = inr (r.0, script.after_statement is room r.1)

by_line : (line : List ℕ) (lines : List (List ℕ)) (number before : ℕ) → before ≤ 256 → ((n b : ℕ) → b ≤ 256 → AreAnswered lines n b) → IsBlankLine line ⊎ IsAnswered line → AreAnswered (line ∷ lines) number before
by_line line lines number before few go (inl blank) = by_blank line lines number before blank (go (suc number) before few)
by_line line lines number before few go (inr (inr r)) = inr (cause_at number r.0, script.refused_line r.1)
by_line line lines number before few go (inr (inl s)) =
    elim (cases_order before 256) [
      | inl e ↦ inr (ScriptCause.TooMany number, script.too_many s.1 e)
      | inr x ↦ elim x [ inl l ↦ by_statement line lines number before s.0 s.1 l (go (suc number) (suc before) (omega arith)) | inr l ↦ absurd (omega arith) ]
    ]

lines_answered : (lines : List (List ℕ)) (number before : ℕ) → before ≤ 256 → AreAnswered lines number before
lines_answered [] number before few = let fewer : before + 0 ≤ 256 = omega arith in inl ([], script.no_lines, fewer)
lines_answered (line ∷ lines) number before few = by_line line lines number before few (λ n b f. lines_answered lines n b f) (by_tokens line (line_tokens line) refl)

by_lines : (text : List ℕ) → AreAnswered (lines_of text) 1 0 → ((s : Script) × IsScript text s) ⊎ ((c : ScriptCause) × RefusesScript text c)
by_lines text (inl r) = let few = r.2 in let fewer : length r.0 ≤ 256 = omega arith in inl (record { lines = r.0 }, record { lines = r.1; few = fewer })
by_lines text (inr r) = inr r

pub answered : (text : List ℕ) → ((s : Script) × IsScript text s) ⊎ ((c : ScriptCause) × RefusesScript text c)
answered text = let few : 0 ≤ 256 = omega arith in by_lines text (lines_answered (lines_of text) 1 0 few)
