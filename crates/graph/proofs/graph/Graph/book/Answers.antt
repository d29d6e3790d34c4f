use Rattle.lemmas.proofs.{◌≡◌, ◌∙◌, ap, arith, length, List, Err, Ok, Result, reverse, rules, subst, sym, ℕ, reverse-reverse, length-reverse}
use Rattle.rdf_values.specs.{Answers, AreAccepted, Column, FunctionNames, GraphCause, Line, scope_of, Script}
use Rattle.graph_numbers.specs.{booked, booked_unless, GraphView}
use Rattle.graph.specs.{GraphRefusal, refused_at, statements, view_of}
use Rattle.graph.proofs.Finished.{all_short, finished, none_refused, refusal_answered, verdict_of}
use Rattle.std.specs.Result.{IsErrAnd}
use Rattle.std.proofs.lemmas.List.Elements.{same_from_all_zip}
use Rattle.rdf_values.specs.Answered.{Refuses}
use Rattle.graph.proofs.Looped.{all_in_turn}
use Rattle.graph.proofs.graph.Graph.book.Goals as goal

-- the graph of accepted lines is what the script books
booked_as : (script : Script) (ls : List Line) (header : List Column) (names : FunctionNames) → ls ≡ reverse script.lines → AreAccepted names (scope_of header) (statements ls)
    → ◌≡◌ {A = Result GraphView (ℕ × GraphCause)} (booked script header names) (Ok (view_of ls header names))
booked_as script ls header names e ok =
    ap (booked_unless (record { script = script; header = header; names = names })) (sym (verdict_of names header script ls e) ∙ none_refused names (scope_of header) ls ok)
    ∙ (λ i. Ok (record { script = record { lines = (sym (reverse-reverse script.lines) ∙ ap (λ (xs : List Line). reverse xs) (sym e)) i }; header = header; names = names }))

-- the exit of a `?` answers what it hands on
exit_answered : {A : Type 0} (wanted : Result A (ℕ × GraphCause)) (r : Result A GraphRefusal) (e : GraphRefusal) → IsErrAnd r (λ x. x ≡ e) → Refuses refused_at GraphRefusal.Memory wanted e → Answers refused_at GraphRefusal.Memory wanted r
exit_answered wanted (Ok g) e is h = elim is [ ]
exit_answered wanted (Err x) e is h = subst (Refuses refused_at GraphRefusal.Memory wanted) (sym is) h

pub book_lines-requires-clause-short : goal.book_lines-requires-clause-short
book_lines-requires-clause-short c =
    all_short c.args.script c.as_slice-all.result.now (c.as_slice-all.ensures.value ∙ c.reverse.ensures.items ∙ ap (λ (xs : List Line). reverse xs) c.into_vec-lines.ensures) c.requires.script

pub returns-in_err-tables : goal.returns-in_err-tables
returns-in_err-tables c =
    exit_answered _ _ c.in_err-tables.field-0.0 c.from_residual.ensures.1
    (refusal_answered c.args.script c.as_slice-all.result.now c.args.header.now c.args.names.now c.in_err-tables.field-0.0 (c.as_slice-all.ensures.value ∙ c.reverse.ensures.items ∙ ap (λ (xs : List Line). reverse xs) c.into_vec-lines.ensures) c.in_err-tables.ensures.refused)

pub invariant_of-script : goal.invariant_of-script
invariant_of-script c =
    let turned = (c.as_slice-all.ensures.value ∙ c.reverse.ensures.items ∙ ap (λ (xs : List Line). reverse xs) c.into_vec-lines.ensures) in record {
      are = c.in_ok-tables.ensures.booked;
      short = all_short c.args.script c.as_slice-all.result.now turned c.requires.script;
      few = let n = ap length turned in let r = length-reverse c.args.script.lines in let f = c.requires.script.few in omega (arith, n, r, f);
    }

pub loop_tables-requires-clause-named : goal.loop_tables-requires-clause-named
loop_tables-requires-clause-named c = all_in_turn c.args.names.now (scope_of c.args.header.now) (statements c.as_slice-all.result.now) c.in_ok-tables.ensures.booked.versions.accepted

pub invariant_of-result : goal.invariant_of-result
invariant_of-result c =
    finished c.args.script c.as_slice-all.result.now c.args.header.now c.args.names.now c.in_ok-tables.tables (c.as_slice-all.ensures.value ∙ c.reverse.ensures.items ∙ ap (λ (xs : List Line). reverse xs) c.into_vec-lines.ensures)
    c.requires.script c.requires.header c.in_ok-tables.ensures.booked c.in_ok-loops.loops c.in_ok-loops.ensures _ _ _ (sym c.as_slice-all.ensures.value)
    (same_from_all_zip _ _ _ c.in_ok-from_clones.ensures (λ x y r. search rules)) (same_from_all_zip _ _ _ c.in_ok-from_clones-2.ensures (λ x y r. grind arith) ∙ c.as_slice.ensures.value)

pub returns : goal.returns
returns c =
    let columns = same_from_all_zip _ _ _ c.in_ok-from_clones.ensures (λ x y r. grind arith) in
    let functions = same_from_all_zip _ _ _ c.in_ok-from_clones-2.ensures (λ x y r. search rules) ∙ c.as_slice.ensures.value in
    booked_as c.args.script c.as_slice-all.result.now c.args.header.now c.args.names.now (c.as_slice-all.ensures.value ∙ c.reverse.ensures.items ∙ ap (λ (xs : List Line). reverse xs) c.into_vec-lines.ensures) c.in_ok-tables.ensures.booked.versions.accepted
    ∙ (λ i. Ok (view_of (c.as_slice-all.ensures.value i) (sym columns i) (sym functions i)))
