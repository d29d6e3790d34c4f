-- Plans and their refusals, and what is due of a run.
use Rattle.std.proofs.Common.{if◌then◌else◌, ◌≡◌, inl, inr, ◌<◌, ◌+◌, ℕ, suc, Bool, true, false, not, List, [], ◌∷◌, ◌++◌, length, Option, None, Some, Result, Ok, Err, IfOk, nat_lt, arith, ap, refl, sym, subst, ◌∙◌, MatchOption}
use Rattle.rdf_values.specs.Answered.{Refuses}
use Rattle.rdf_values.specs.{Column, fn_names, Function, FunctionNames, graph_cause_line, is_node, Scope, scope_at, scope_of, Script, Statement, TableView, Under, variations, verdict}
use Rattle.graph_numbers.specs.{booked, booked_statements, GraphView}
use Rattle.graph.proofs.Finished.{accepted_verdict}
use Rattle.input_files.specs.{due_of}
use Rattle.snapshot_plan.specs.{cause_in, first_bad, is_bad, is_under, most_statements, planned, PlanView, SnapCause, SnapRefusal, statements_planned, under_of, unless_bad, unless_cause}
use Rattle.snapshot_words.specs.{SnapCommand}
use Rattle.snapshot_due.specs.{cause_line, cause_over, dataset_of, graph_over, IsDueOver, IsRunDue, plan_over, SnapshotDue, status_of}
use Rattle.snapshot_due.specs.declared.status.SnapshotStatus.TheVariants.{ScriptRefused}
use Rattle.snapshot_program.specs.{IsOfTable, IsPlanned, IsWithin}
use Rattle.snapshot_program.specs.Answers.{Answers}
use Rattle.snapshot_program.specs.declared.answer.Answer.{Answer}
use Rattle.snapshot_program.specs.declared.planning.Planned.{Planned}

-- ---- booking

-- a booked graph's script is accepted
pub booked_is : (script : Script) (header : List Column) (names : FunctionNames) (g : GraphView) → booked script header names ≡ Ok g
    → (verdict names header script ≡ None) × (g ≡ record { script = script; header = header; names = names })
booked_is script header names g e = accepted_verdict (record { script = script; header = header; names = names }) g (verdict names header script) e

-- ---- planning

by_cause : (p q : PlanView) (k : Option SnapCause) → ◌≡◌ {A = Result PlanView SnapCause} (unless_cause p k) (Ok q) → (k ≡ None) × (q ≡ p)
by_cause p q None e = (refl, cc e)
by_cause p q (Some why) e = absurd (cc e)

pub planned_is : (g : GraphView) (node : List ℕ) (columns : List (List ℕ)) (u : Under) (p : PlanView) → planned g node columns u ≡ Ok p
    → (cause_in g node columns u ≡ None) × (p ≡ record { graph = g; node = node; columns = columns; under = u })
planned_is g node columns u p e = by_cause (record { graph = g; node = node; columns = columns; under = u }) p (cause_in g node columns u) e

refused_cause : (p : PlanView) (k : Option SnapCause) (why : SnapCause) → ◌≡◌ {A = Result PlanView SnapCause} (unless_cause p k) (Err why) → k ≡ Some why
refused_cause p None why e = absurd (cc e)
refused_cause p (Some d) why e = cc e

cause_refused : (wanted : Result PlanView SnapCause) (why : SnapCause) → Refuses SnapRefusal.At SnapRefusal.Memory wanted (SnapRefusal.At why) → wanted ≡ Err why
cause_refused wanted why (inl e) = absurd (cc e)
cause_refused wanted why (inr h) = (let same : h.0 ≡ why = cc h.1 in h.2 ∙ ap Err same)

pub unplanned_is : (g : GraphView) (node : List ℕ) (columns : List (List ℕ)) (u : Under) (why : SnapCause) → Refuses SnapRefusal.At SnapRefusal.Memory (planned g node columns u) (SnapRefusal.At why)
    → cause_in g node columns u ≡ Some why
unplanned_is g node columns u why h =
    refused_cause (record { graph = g; node = node; columns = columns; under = u }) (cause_in g node columns u) why (cause_refused (planned g node columns u) why h)

-- ---- the column that a cause names is one of those that were asked for

bad_within : (names : List (List ℕ)) (scope : Scope) (i : ℕ) (before : List (List ℕ)) (k : ℕ) → first_bad scope i before names ≡ Some k → k < i + length names
bad_within [] scope i before k e = absurd (cc e)
bad_within (name ∷ names) scope i before k e = go (is_bad scope before name) e (bad_within names scope (i + 1) (before ++ name ∷ []) k)
  where
    go : (b : Bool) → (if b then Some i else first_bad scope (i + 1) (before ++ name ∷ []) names) ≡ Some k → (first_bad scope (i + 1) (before ++ name ∷ []) names ≡ Some k → k < i + 1 + length names) → k < i + suc (length names)
    go true e more = (let same : i ≡ k = cc e in omega (arith, same))
    go false e more = (let h = more e in omega (arith, h))

many_within : (n m : ℕ) (b : Bool) (why : SnapCause) → (if b then Some (SnapCause.TooMany n) else None) ≡ Some why → IsWithin m why
many_within n m true why e = (let same : SnapCause.TooMany n ≡ why = cc e in subst (IsWithin m) same tt)
many_within n m false why e = absurd (cc e)

variation_within : (n m : ℕ) (b c : Bool) (why : SnapCause) → (if b then Some SnapCause.BadVariation else (if c then Some (SnapCause.TooMany n) else None)) ≡ Some why → IsWithin m why
variation_within n m true c why e = (let same : SnapCause.BadVariation ≡ why = cc e in subst (IsWithin m) same tt)
variation_within n m false c why e = many_within n m c why e

column_within : (m : ℕ) (o : Option ℕ) (rest : Option SnapCause) (why : SnapCause) → ((k : ℕ) → o ≡ Some k → k < m) → (rest ≡ Some why → IsWithin m why) → unless_bad o rest ≡ Some why → IsWithin m why
column_within m None rest why h more e = more e
column_within m (Some k) rest why h more e = (let same : SnapCause.BadColumn k ≡ why = cc e in subst (IsWithin m) same (h k refl))

node_within : (m : ℕ) (b : Bool) (rest : Option SnapCause) (why : SnapCause) → (rest ≡ Some why → IsWithin m why) → (if b then Some SnapCause.BadNode else rest) ≡ Some why → IsWithin m why
node_within m true rest why more e = (let same : SnapCause.BadNode ≡ why = cc e in subst (IsWithin m) same tt)
node_within m false rest why more e = more e

pub cause_within : (g : GraphView) (node : List ℕ) (columns : List (List ℕ)) (u : Under) (why : SnapCause) → cause_in g node columns u ≡ Some why → IsWithin (length columns) why
cause_within g node columns u why e =
    let before : List Statement = booked_statements g in
    let scope : Scope = scope_at g.names (scope_of g.header) before node in
    node_within (length columns) (not (is_node before node)) _ why
    (column_within (length columns) (first_bad scope 0 [] columns) _ why (λ k bad. (let h = bad_within columns scope 0 [] k bad in omega (arith, h)))
    (variation_within (statements_planned before (length columns)) (length columns) (not (is_under (variations before) u)) (nat_lt most_statements (statements_planned before (length columns))) why)) e

-- ---- what is due where there is no plan

is_of_table : (why : SnapCause) → IsOfTable (status_of why)
is_of_table SnapCause.BadNode = tt
is_of_table (SnapCause.BadColumn i) = tt
is_of_table SnapCause.BadVariation = tt
is_of_table (SnapCause.TooMany n) = tt

module _ (fns : List Function) (c : SnapCommand) (script : Script) (columns : List Column) where
  -- there is no plan
  pub unplanned_due : (why : SnapCause) (a : Answer) → verdict (fn_names fns) columns script ≡ None → cause_over fns c script columns ≡ Some why → (a.status ≡ status_of why) × (a.text ≡ cause_line c why)
      → IsPlanned fns c script columns (Planned.Refused a)
  unplanned_due why a v k e =
      let due : SnapshotDue = due_of a.status a.text in
      let is : due ≡ due_of (status_of why) (cause_line c why) = (λ i. due_of (e.0 i) (e.1 i)) in
      let by : MatchOption (cause_over fns c script columns) ⊥ (λ k. due ≡ due_of (status_of k) (cause_line c k)) = subst (λ o. MatchOption o ⊥ (λ k. due ≡ due_of (status_of k) (cause_line c k))) (sym k) is in (
        subst IsOfTable (sym e.0) (is_of_table why),
        subst (λ o. MatchOption o (MatchOption (cause_over fns c script columns) ⊥ (λ k. due ≡ due_of (status_of k) (cause_line c k))) (λ refused. due ≡ due_of ScriptRefused (graph_cause_line refused.0 refused.1))) (sym v) by,
      )

-- ---- the plan over a table's columns

module _ (fns : List Function) (c : SnapCommand) (script : Script) (columns header : List Column) (names : FunctionNames) (g : GraphView) (shown : List (List ℕ))
    (h : header ≡ columns) (n : names ≡ fn_names fns) (k : shown ≡ c.columns) (b : booked script header names ≡ Ok g) where
  is_over : g ≡ graph_over fns c script columns
  is_over = (booked_is script header names g b).1 ∙ (λ i. record { script = script; header = h i; names = n i })

  accepted : verdict (fn_names fns) columns script ≡ None
  accepted = rw (h, n) at ((booked_is script header names g b).0)

  pub planned_due : (p : PlanView) → planned g c.node shown (under_of c.under) ≡ Ok p → IsPlanned fns c script columns (Planned.Plan p)
  planned_due p e =
      let is = planned_is g c.node shown (under_of c.under) p e in
      (accepted, rw (is_over, k) at is.0, is.1 ∙ (λ i. record { graph = is_over i; node = c.node; columns = k i; under = under_of c.under }))

  cause_found : (r : SnapRefusal) (why found : SnapCause) → r ≡ SnapRefusal.At why → Refuses SnapRefusal.At SnapRefusal.Memory (planned g c.node shown (under_of c.under)) r → found ≡ why → cause_in g c.node shown (under_of c.under) ≡ Some found
  cause_found r why found is e same = unplanned_is g c.node shown (under_of c.under) why (rw is at e) ∙ ap Some (sym same)

  pub found_within : (r : SnapRefusal) (why found : SnapCause) → r ≡ SnapRefusal.At why → Refuses SnapRefusal.At SnapRefusal.Memory (planned g c.node shown (under_of c.under)) r → found ≡ why → IsWithin (length c.columns) found
  found_within r why found is e same = subst (λ (names : List (List ℕ)). IsWithin (length names) found) k (cause_within g c.node shown (under_of c.under) found (cause_found r why found is e same))

  pub found_due : (r : SnapRefusal) (why found : SnapCause) (a : Answer) → r ≡ SnapRefusal.At why → Refuses SnapRefusal.At SnapRefusal.Memory (planned g c.node shown (under_of c.under)) r → found ≡ why
      → (a.status ≡ status_of found) × (a.text ≡ cause_line c found) → IsPlanned fns c script columns (Planned.Refused a)
  found_due r why found a is e same answers =
      let cause = cause_found r why found is e same in
      unplanned_due fns c script columns found a accepted (rw (is_over, k) at cause) answers

-- ---- a run is due over the table

pub run_answer : {E : Type 0} (fns : List Function) (c : SnapCommand) (script : Script) (t : TableView) (p : PlanView) (r : Result Answer E) → IsPlanned fns c script t.columns (Planned.Plan p)
    → IfOk r (Answers (IsRunDue p (dataset_of fns c t))) → IfOk r (Answers (IsDueOver fns c script t))
run_answer fns c script t p (Err e) h run = tt
run_answer fns c script t p (Ok a) h run =
    let due : SnapshotDue = due_of a.status a.text in
    let next : IsRunDue (plan_over fns c script t.columns) (dataset_of fns c t) due = subst (λ (x : PlanView). IsRunDue x (dataset_of fns c t) due) h.2 run.1 in
    let by : MatchOption (cause_over fns c script t.columns) (IsRunDue (plan_over fns c script t.columns) (dataset_of fns c t) due) (λ why. due ≡ due_of (status_of why) (cause_line c why)) =
    subst (λ o. MatchOption o (IsRunDue (plan_over fns c script t.columns) (dataset_of fns c t) due) (λ why. due ≡ due_of (status_of why) (cause_line c why))) (sym h.1) next in
    let over : IsDueOver fns c script t due =
    subst (λ o. MatchOption o (MatchOption (cause_over fns c script t.columns) (IsRunDue (plan_over fns c script t.columns) (dataset_of fns c t) due) (λ why. due ≡ due_of (status_of why) (cause_line c why))) (λ refused. due ≡ due_of ScriptRefused (graph_cause_line refused.0 refused.1)))
    (sym h.0) by in
    (run.0, over)
