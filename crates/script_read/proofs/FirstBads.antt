-- Refusals of the first bad string of several.
use Rattle.lemmas.proofs.{◌≡◌, List, ◌∷◌, ◌++◌, Result, IfErr, err_from_is_err_and, IsErrAnd}
use Rattle.rdf_values.specs.{AnExpression, begin_expr, begin_values, FirstBad, here, IsBad, later, LineRefusal, NamedTree, QuotedText, Reads, ReadsText, ReadsValues, ReadsValuesText, SomeValues, VaryValues}
use Rattle.rdf_values.specs.scripts.Statements.{Wanted}
use Rattle.rdf_values.specs.scripts.Statements as st
use Rattle.rdf_values.proofs.OneScript.{IsGood, AreGood, no_strings, more_strings, good_name, good_operation, good_names}
use Rattle.expr_read.specs.{ExprRefusal, RefusesTextAs}
use Rattle.expr_read.proofs.Decided.{read_once}
use Rattle.script_read.specs.{LineStop, RefusedFor, stop_in}

-- what a `?` hands on
pub handed_on : {T : Type 0} (P : LineStop → Type 0) (r : Result T LineStop) (e : LineStop) → IsErrAnd r (λ d. d ≡ e) → P e → IfErr r P
handed_on P r e is h = let p = err_from_is_err_and r is in rw (p.1, p.2) h

pub good_expression : (t : QuotedText) (a : NamedTree) → ReadsText t.content a → IsGood (t, AnExpression)
good_expression t a e q (st.no_expression {r = r} f) = read_once.tree_or_refusal t.content a r e f

pub good_values : (t : QuotedText) (a : VaryValues) → ReadsValuesText t.content a → IsGood (t, SomeValues)
good_values t a e q (st.no_values {r = r} f) = read_once.values_or_refusal t.content a r e f

-- ---- refusals

-- what refuses for one reason refuses for another
pub refused_as : (P Q : LineRefusal → Type 0) → ((r : LineRefusal) → P r → Q r) → (e : LineStop) → RefusedFor P e → RefusedFor Q e
refused_as P Q f (LineStop.Syntax place) h = f _ h
refused_as P Q f (LineStop.Expression place cause) h = f _ h
refused_as P Q f LineStop.Memory h = tt

pub refused_here : (w : QuotedText × Wanted) (ws : List (QuotedText × Wanted)) (e : LineStop) → RefusedFor (IsBad w) e → RefusedFor (FirstBad (w ∷ ws)) e
refused_here w ws e h = refused_as (IsBad w) (FirstBad (w ∷ ws)) (λ r b. here b) e h

pub refused_later : (w : QuotedText × Wanted) (ws : List (QuotedText × Wanted)) (e : LineStop) → IsGood w → RefusedFor (FirstBad ws) e → RefusedFor (FirstBad (w ∷ ws)) e
refused_later w ws e g h = refused_as (FirstBad ws) (FirstBad (w ∷ ws)) (λ r b. later g b) e h

pub bad_after : (vs ws : List (QuotedText × Wanted)) → AreGood vs → (r : LineRefusal) → FirstBad ws r → FirstBad (vs ++ ws) r
bad_after vs ws no_strings r b = b
bad_after vs ws (more_strings {ws = us} g a) r b = later g (bad_after us ws a r b)

pub refused_after : (vs ws : List (QuotedText × Wanted)) (e : LineStop) → AreGood vs → RefusedFor (FirstBad ws) e → RefusedFor (FirstBad (vs ++ ws)) e
refused_after vs ws e a h = refused_as (FirstBad ws) (FirstBad (vs ++ ws)) (bad_after vs ws a) e h

pub bad_before : (vs ws : List (QuotedText × Wanted)) (r : LineRefusal) → FirstBad vs r → FirstBad (vs ++ ws) r
bad_before vs ws r (here b) = here b
bad_before vs ws r (later {ss = us} g b) = later g (bad_before us ws r b)

pub refused_before : (vs ws : List (QuotedText × Wanted)) (e : LineStop) → RefusedFor (FirstBad vs) e → RefusedFor (FirstBad (vs ++ ws)) e
refused_before vs ws e h = refused_as (FirstBad vs) (FirstBad (vs ++ ws)) (bad_before vs ws) e h

-- ---- the refusal of what a string holds refuses the string

pub no_expression : (q : QuotedText) (e : ExprRefusal) → RefusesTextAs (Reads 0) begin_expr q.content e → RefusedFor (IsBad (q, AnExpression)) (stop_in q e)
no_expression q (ExprRefusal.At cause place) h = st.no_expression h
no_expression q ExprRefusal.Memory h = tt

pub no_values : (q : QuotedText) (e : ExprRefusal) → RefusesTextAs ReadsValues begin_values q.content e → RefusedFor (IsBad (q, SomeValues)) (stop_in q e)
no_values q (ExprRefusal.At cause place) h = st.no_values h
no_values q ExprRefusal.Memory h = tt

-- what finds the refusal of a form's strings
pub ruleset refusals = (refused_here, refused_later, refused_before, refused_after, good_name, good_operation, good_expression, good_values, good_names)

-- what finds what a form says
pub ruleset sayings = (st.count, st.sum, st.min, st.max, st.take, st.reduce, st.histo1d, st.histo2d, st.define, st.redefine, st.alias, st.filter, st.vary_all, st.action, st.report, st.print, st.variations_for, st.watch)
