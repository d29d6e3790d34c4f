-- The passes of a loop by their numbers: how many there are, what they come to and give to a tally.
use Rattle.lemmas.proofs.{◌≡◌, ℕ, suc, ◌*◌, ◌<◌, ◌≤◌, ◌^◌, Bool, List, [], ◌∷◌, length, map, Option, Some, None, refl, arith, slice_get, unwrap_or, if◌then◌else◌, length-append, sym, ◌∙◌, ap, zero, ◌+◌, true, false, ◌++◌, take, ◌||◌, nat_eq, Contains, subst, All, flat_map, option_map, get_or, MatchOption, length-map, length-reverse, mul-le-mul, mul-le-mul_right, mapped_at, slice_get_within, append-nil, flat_map-append, take_next, cases_order, Contains-from_any, Decides-eqb, list_any, or_left, or_right, something_at, All-from_recursion, recursion_from_All, slice_get-get_or, take-length, same_Some}
use Rattle.rdf_values.specs.{Booked, bookings, history, Script, Statement, variations, fn_names, Pass, Value, ActionAt, ActionKind, Booking, named_before, Path, AreAccepted, check, Column, Function, FunctionNames, makes, ReportOn, same, scope_of, path}
use Rattle.rdf_values.specs.declared.scripts.statement.Statement.TheVariants.{Print, Filter, Report}
use Rattle.graph_numbers.specs.{booked_statements, graph_loops, graph_variations, GraphView, IsGraph, loops, own_loop, Pass as NumberedPass, passes_from, places_from, result_passes, booking_numbers, graph_filters, graph_results, graph_under, pass_at, ResultAt, FilterAt, filters, own_filters, results, filter_sites, through_sites, report_numbers, kind_of_booking, ResultKind}
use Rattle.graph_numbers.proofs.Placing.{by_test, joined, itself, Extends, shorter, only_at, each_filter, each_result}
use Rattle.loop_keys.specs.{IsJob, job_graph, JobView, numbered_passes, numbered_in, outcome_of, pass_outcome, passes_in, row_of, site_in, version_in, actions_before, covered_in, covers_of, is_covering, IsCovered, demand_key, HasAllDemands, HasFilterDemands, IsReportPass, pass_fault, IsActionBooking, IsActionPass}
use Rattle.graph.proofs.Looped.{bookings_few}
use Rattle.rdf_model.specs.{booking_outcome, Dataset, filter_reach, is_covered, items_of, kind_in, kinds_in, Reach, reaches_of, spreads_of, filter_node, reports_on, Gives, reach_of, through, booking_demands, Demand, Entry, fault_in, filter_demands, Outcome}
use Rattle.graph_numbers.proofs.Covering.{loops_are, booked_are, result_is, filters_are, AreNumbersOf, covered_numbers, numbers_later, filter_is, through_is, number_value}
use Rattle.loop_keys.proofs.EvaluateLaws.{of_mapped, of_option, at_in, each_in, in_flat, accepted_of}
use Rattle.rdf_model.specs.declared.loop_facts.Reach.TheVariants.{Stopped, Failed, Passed}
use Rattle.rdf_model.proofs.Accepted.{itself as same_itself, names_equal}
use Rattle.graph_numbers.proofs.Apart.{AreApart, MadeBy, both_apart, eq_false, is_new, one_apart, other_way}
use Rattle.graph_numbers.proofs.Closing.{some_is}
use Rattle.std.proofs.lemmas.List.{same_from_push}

places_few : {A : Type 0} (test : A → Bool) (n : ℕ) (xs : List A) → length (places_from test n xs) ≤ length xs
places_few test n [] = omega arith
places_few test n (x ∷ xs) = grind (arith, places_few test (suc n) xs)

module _ (script : List Statement) where
  result_few : (n : ℕ) (b : Booked) → length (result_passes script n b) ≤ suc (length (variations script))
  result_few n b = grind (arith, length-map, places_few, by_test)

  passes_few : (test : Booked → Bool) (n : ℕ) (bs : List Booked) → length (passes_from script test n bs) ≤ length bs * suc (length (variations script))
  passes_few test n [] = omega arith
  passes_few test n (b ∷ bs) = grind (arith, passes_few test (suc n) bs, length-append (result_passes script n b) (passes_from script test (suc n) bs), result_few n b)

  loops_few : (before : List Statement) (k : ℕ) (ps : List NumberedPass) → slice_get (loops script before) k ≡ Some ps → length ps ≤ length before * suc (length (variations script))
  loops_few [] k ps h = cc h
  loops_few (s ∷ before) k ps h = joined (loops script before) (own_loop script before s) k ps h (λ q. let n = loops_few before k ps q in omega (arith, n)) (λ i e q. own s i q)
    where
      own : (s : Statement) (i : ℕ) → slice_get (own_loop script before s) i ≡ Some ps → length ps ≤ suc (length before) * suc (length (variations script))
      own (Print result) i q = grind (arith, passes_few, mul-le-mul_right, bookings_few)
      own s i q = cc q

pub lines_few : (script : Script) → length script.lines ≤ 256 → length (history script) ≤ 256
lines_few script h = grind (arith, length-reverse, length-map)

-- few passes in a loop
pub loop_few : (g : GraphView) → IsGraph g → length (graph_variations g) ≤ 128 → (l : ℕ) (ps : List NumberedPass) → slice_get (graph_loops g) l ≡ Some ps → length ps ≤ 33024
loop_few g is few l ps q =
    let a = loops_few (booked_statements g) (booked_statements g) l ps q in
    let b : length (booked_statements g) * suc (length (graph_variations g)) ≤ 256 * 129 =
    mul-le-mul {n₁ = length (booked_statements g)} {m₁ = suc (length (graph_variations g))} {n₂ = 256} {m₂ = 129} (lines_few g.script is.bookable.few) (omega (arith, few)) in omega (arith, a, b)

-- fewer than can be numbered
pub few_passes : (j : JobView) → IsJob j → length (graph_variations (job_graph j)) ≤ 128 → length (numbered_passes j) < 2 ^ 32
few_passes j job few = grind (arith, loop_few (job_graph j) job.graph few j.number)

-- ---- The passes of a job's loop by the numbers of their results and variations: what they come to and demand.

at_both : {A B C : Type 0} (F : List A → List C) (G : List B → List C) → F [] ≡ G [] → (xs : List (List A)) (ys : List (List B)) (n : ℕ) → map F xs ≡ map G ys → F (unwrap_or (slice_get xs n) []) ≡ G (unwrap_or (slice_get ys n) [])
at_both F G e [] [] n h = e
at_both F G e (x ∷ xs) (y ∷ ys) (suc n) h = at_both F G e xs ys n (cc h)
at_both F G e xs ys n h = cc h

module _ (j : JobView) where
  -- they are the passes of the loop
  pub passes_are : map (pass_at (history j.script)) (numbered_passes j) ≡ map (λ p. Some p) (passes_in j)
  passes_are = grind (arith, at_both, loops_are, itself)

  pub passes_count : length (numbered_passes j) ≡ length (passes_in j)
  passes_count = sym (length-map (numbered_passes j) (pass_at (history j.script))) ∙ ap length passes_are ∙ length-map (passes_in j) (λ (p : Pass). Some p)

  -- the result of a pass by its number
  pub numbered_result : (m : NumberedPass) (p : Pass) → pass_at (history j.script) m ≡ Some p
      → (r : ResultAt) × (slice_get (graph_results (job_graph j)) m.result ≡ Some r) × (p ≡ record { result = r.booked; under = graph_under (job_graph j) m.variation })
  numbered_result m p h =
      let b = of_option (λ (b : Booked). record { result = b; under = graph_under (job_graph j) m.variation }) (slice_get (bookings (history j.script)) m.result) p h in
      let e = ap (λ bs. slice_get bs m.result) (booked_are j.dataset.columns (fn_names j.dataset.fns) (history j.script)) ∙ b.1 in
      let r = of_mapped (λ (x : ResultAt). x.booked) (graph_results (job_graph j)) m.result b.0 e in
      (r.0, r.1, sym b.2 ∙ ap (λ (x : Booked). record { result = x; under = graph_under (job_graph j) m.variation }) (sym r.2))

module _ (j : JobView) (n : ℕ) (m : NumberedPass) (its : numbered_in j n ≡ Some m) where
  -- the pass of that number is that of the script
  pass_is : (p : Pass) × (slice_get (passes_in j) n ≡ Some p) × (pass_at (history j.script) m ≡ Some p)
  pass_is =
      let at = ap (λ ps. slice_get ps n) (sym (passes_are j)) ∙ mapped_at (pass_at (history j.script)) (numbered_passes j) n m its in
      let p = of_mapped (λ (p : Pass). Some p) (passes_in j) n (pass_at (history j.script) m) at in
      (p.0, p.1, sym p.2)

  its_own : (r : ResultAt) × (slice_get (graph_results (job_graph j)) m.result ≡ Some r) × (pass_is.0 ≡ record { result = r.booked; under = graph_under (job_graph j) m.variation })
  its_own = numbered_result j m pass_is.0 pass_is.2

  pub result_there : (r : ResultAt) × (slice_get (graph_results (job_graph j)) m.result ≡ Some r)
  result_there = (its_own.0, its_own.1)

  pub result_inside : m.result < length (graph_results (job_graph j))
  result_inside = slice_get_within (graph_results (job_graph j)) m.result its_own.0 its_own.1

  -- with its result
  pub pass_of : (r : ResultAt) → slice_get (graph_results (job_graph j)) m.result ≡ Some r → slice_get (passes_in j) n ≡ Some (record { result = r.booked; under = graph_under (job_graph j) m.variation })
  pass_of r its_result =
      pass_is.1 ∙ ap Some (its_own.2 ∙ ap (λ (x : ResultAt). record { result = x.booked; under = graph_under (job_graph j) m.variation }) (same_Some its_own.0 r (sym its_own.1 ∙ its_result)))

module _ (j : JobView) (job : IsJob j) (entry : ℕ) (row : List Value) (here : slice_get j.dataset.rows entry ≡ Some row)
    (n : ℕ) (m : NumberedPass) (its : numbered_in j n ≡ Some m) (r : ResultAt) (its_result : slice_get (graph_results (job_graph j)) m.result ≡ Some r) where
  same_row : row ≡ row_of j entry
  same_row = ap (λ o. unwrap_or o []) (sym here)

  -- what the pass comes to, by numbers
  pub pass_answer : pass_outcome j entry n ≡ booking_numbers (site_in j entry None) (site_in j entry m.variation) (version_in j entry m.variation) (graph_filters (job_graph j)) r r.booked.booking
  pass_answer =
      (λ i. outcome_of j (here i) (pass_of j n m its r its_result i))
      ∙ ap (λ (x : List Value). booking_outcome j.dataset.fns j.dataset.columns x {M = ⊥} r.booked.booking (graph_under (job_graph j) m.variation)) same_row
      ∙ result_is ⊥ j.dataset.fns j.dataset.columns (row_of j entry) (graph_under (job_graph j) m.variation) (history j.script) (history j.script) (accepted_of j job) itself m.result r its_result

-- ---- What the next entry gives to a tally, by the passes of a job's loop.

module _ (j : JobView) (entry : ℕ) (row : List Value) (here : slice_get j.dataset.rows entry ≡ Some row) where
  abbrev pub own_reaches : List Reach
  own_reaches = reaches_of j.dataset (passes_in j) (named_before (history j.script)) row

-- ---- the places of action passes

pub kinds_next : (ps : List Pass) (n : ℕ) (p : Pass) → slice_get ps n ≡ Some p → kinds_in (take (n + 1) ps) ≡ kinds_in (take n ps) ++ kind_in p.result.booking
kinds_next ps n p here =
    ap kinds_in (take_next ps n p here) ∙ flat_map-append (λ (q : Pass). kind_in q.result.booking) (take n ps) (p ∷ []) ∙ ap (λ l. kinds_in (take n ps) ++ l) (append-nil (kind_in p.result.booking))

-- after an action's pass there is one more, and after a report's none
pub after_pass : (j : JobView) (n : ℕ) (p : Pass) (c : Booking) → slice_get (passes_in j) n ≡ Some p → p.result.booking ≡ c → actions_before j (n + 1) ≡ actions_before j n + length (kind_in c)
after_pass j n p c q b =
    ap length (kinds_next (passes_in j) n p q) ∙ length-append (kinds_in (take n (passes_in j))) (kind_in p.result.booking) ∙ ap (λ (x : Booking). actions_before j n + length (kind_in x)) b

module _ (d : Dataset) (row : List Value) where
  -- the kind of an action's pass, and what the row feeds to it, at its place
  pub at_place : (n : ℕ) (ps : List Pass) (p : Pass) (k : ActionKind) (at : Path) → slice_get ps n ≡ Some p → p.result.booking ≡ ActionAt k at
      → (slice_get (kinds_in ps) (length (kinds_in (take n ps))) ≡ Some k) × (slice_get (spreads_of d ps row) (length (kinds_in (take n ps))) ≡ Some (items_of d k at p.under row))
  at_place n [] p k at q b = cc q
  at_place zero (x ∷ ps) p k at q b = grind arith
  at_place (suc n) (x ∷ ps) p k at q b = grind (arith, at_place n ps p k at q b)

-- ---- what named filters do

module _ (j : JobView) (entry : ℕ) (row : List Value) (here : slice_get j.dataset.rows entry ≡ Some row) (f : ℕ) (x : FilterAt) (q : slice_get (graph_filters (job_graph j)) f ≡ Some x) where
  pub filter_at : slice_get (named_before (history j.script)) f ≡ Some x.at
  filter_at = ap (λ ps. slice_get ps f) (sym (filters_are j.dataset.columns _ (history j.script))) ∙ mapped_at (λ (y : FilterAt). y.at) (graph_filters (job_graph j)) f x q

  its_reach : slice_get (own_reaches j entry row here) f ≡ Some (if is_covered (passes_in j) x.at then filter_reach j.dataset row x.at else Stopped)
  its_reach = mapped_at (λ g. if is_covered (passes_in j) g then filter_reach j.dataset row g else Stopped) (named_before (history j.script)) f x.at filter_at

  pub uncovered_reach : is_covered (passes_in j) x.at ≡ false → slice_get (own_reaches j entry row here) f ≡ Some Stopped
  uncovered_reach h = its_reach ∙ ap (λ b. Some (if b then filter_reach j.dataset row x.at else Stopped)) h

  pub covered_reach : is_covered (passes_in j) x.at ≡ true → (r : Reach) → filter_reach j.dataset row x.at ≡ r → slice_get (own_reaches j entry row here) f ≡ Some r
  covered_reach h r e = its_reach ∙ ap (λ b. Some (if b then filter_reach j.dataset row x.at else Stopped)) h ∙ ap Some e

-- ---- reports: which named filters they cover, what these come to and demand, by their numbers: no two named filters have one node

module _ (header : List Column) (names : FunctionNames) where
  abbrev alike : FilterAt → FilterAt → Bool
  alike f g = same (filter_node f.at) (filter_node g.at)

  filter_made : (before : List Statement) (n : ℕ) (f : FilterAt) → slice_get (filters header names before) n ≡ Some f → MadeBy header names before (filter_node f.at) ≡ true
  filter_made =
      each_filter header names (λ upto f. MadeBy header names upto (filter_node f.at) ≡ true) (λ upto s f h. or_right (makes s (filter_node f.at)) (MadeBy header names upto (filter_node f.at)) h)
      (λ upto node parent expr label. or_left (makes (Filter node parent expr (Some label)) node) (MadeBy header names upto node) (same_itself node))

  own_filter_new : (before : List Statement) (s : Statement) (k : ℕ) (f : FilterAt) → check names (scope_of header) before s ≡ None → slice_get (own_filters header names before s) k ≡ Some f → MadeBy header names before (filter_node f.at) ≡ false
  own_filter_new before s k f ok h = grind (arith, only_at, is_new)

  own_filters_apart : (before : List Statement) (s : Statement) → AreApart alike (own_filters header names before s)
  own_filters_apart before s = grind (arith, one_apart)

  filters_apart : (before : List Statement) → AreAccepted names (scope_of header) before → AreApart alike (filters header names before)
  filters_apart [] good m n f g lt h k = cc h
  filters_apart (s ∷ before) good m n f g lt h k =
      both_apart alike (filters header names before) (own_filters header names before s) (filters_apart before good.1) (own_filters_apart before s)
      (λ i t x y p q. by_test (alike x y)
      (λ e. cc (sym (filter_made before t y q) ∙ ap (MadeBy header names before) (sym (names_equal (filter_node x.at) (filter_node y.at) e)) ∙ own_filter_new before s i x good.0 p)) (λ e. e))
      m n f g lt h k

  -- two named filters have one node where they have one number
  same_filter : (before : List Statement) → AreAccepted names (scope_of header) before → (m n : ℕ) (f g : FilterAt)
      → slice_get (filters header names before) m ≡ Some f → slice_get (filters header names before) n ≡ Some g → same (filter_node f.at) (filter_node g.at) ≡ nat_eq m n
  same_filter before good m n f g h k = grind (arith, cases_order m n, some_is, same_itself, Decides-eqb, other_way, filters_apart before good m n f g, filters_apart before good n m g f, eq_false m n)

-- ---- what a result covers

module _ (fns : List Function) (columns : List Column) (before : List Statement) where
  -- a report covers the filters of these numbers, and an action none
  abbrev pub AreCovers : Booking → List ℕ → Type 0
  AreCovers (ActionAt k at) ns = ns ≡ []
  AreCovers (ReportOn ps) ns = AreNumbersOf fns columns before ns ps

  pub covers_are : (earlier : List Statement) → Extends earlier before → (n : ℕ) (r : ResultAt) → slice_get (results columns (fn_names fns) earlier) n ≡ Some r → AreCovers r.booked.booking r.covers
  covers_are earlier e n r h =
      each_result columns (fn_names fns) (λ upto r. Extends upto before → AreCovers r.booked.booking r.covers) (λ upto s r next d. next (shorter s upto before d)) (λ upto result parent k d. refl)
      (λ upto result parent d. numbers_later fns columns upto before (shorter (Report result parent) upto before d) _ _ (covered_numbers fns columns upto parent)) earlier n r h e

  -- it reports on the node of a filter where it covers the filter's number
  same_covers : AreAccepted (fn_names fns) (scope_of columns) before → (f : ℕ) (x : FilterAt) → slice_get (filters columns (fn_names fns) before) f ≡ Some x
      → (b : Booking) (ns : List ℕ) → AreCovers b ns → reports_on (filter_node x.at) b ≡ list_any (nat_eq f) ns
  same_covers good f x q (ActionAt k at) ns h = sym (ap (list_any (nat_eq f)) h)
  same_covers good f x q (ReportOn ps) ns h = go ns ps h
    where
      go : (ns : List ℕ) (ps : _) → AreNumbersOf fns columns before ns ps → list_any (λ p. same (filter_node x.at) (filter_node p)) ps ≡ list_any (nat_eq f) ns
      go [] [] h = refl
      go (n ∷ ns) (p ∷ ps) h =
          let one : same (filter_node x.at) (filter_node p) ≡ nat_eq f n =
          ap (λ r. same (filter_node x.at) (filter_node r)) (sym h.0.2) ∙ same_filter columns (fn_names fns) before good f n x h.0.0 q h.0.1 in
          let rest = go ns ps h.1 in λ i. one i || rest i
      go ns ps h = elim h [ ]

-- ---- the filters of a loop by their numbers

module _ (j : JobView) (job : IsJob j) (f : ℕ) (x : FilterAt) (q : slice_get (graph_filters (job_graph j)) f ≡ Some x) where
  one_covers : (m : NumberedPass) (p : Pass) → pass_at (history j.script) m ≡ Some p → is_covering (graph_results (job_graph j)) f m ≡ reports_on (filter_node x.at) p.result.booking
  one_covers m p h =
      let r = numbered_result j m p h in
      let s = same_covers j.dataset.fns j.dataset.columns (history j.script) (accepted_of j job) f x q r.0.booked.booking r.0.covers
      (covers_are j.dataset.fns j.dataset.columns (history j.script) (history j.script) itself m.result r.0 r.1) in
      ap (λ o. list_any (nat_eq f) (covers_of o)) r.1 ∙ sym s ∙ ap (λ (y : Pass). reports_on (filter_node x.at) y.result.booking) (sym r.2)

  some_cover : (ms : List NumberedPass) (ps : List Pass) → map (pass_at (history j.script)) ms ≡ map (λ p. Some p) ps → list_any (is_covering (graph_results (job_graph j)) f) ms ≡ list_any (λ (p : Pass). reports_on (filter_node x.at) p.result.booking) ps
  some_cover [] [] h = refl
  some_cover (m ∷ ms) (p ∷ ps) h = let one = one_covers m p (cc h) in let rest = some_cover ms ps (cc h) in λ i. one i || rest i
  some_cover ms ps h = cc h

  -- a report of the loop covers the filter by its node where one does by its number
  pub cover_is : list_any (is_covering (graph_results (job_graph j)) f) (numbered_passes j) ≡ is_covered (passes_in j) x.at
  cover_is = some_cover (numbered_passes j) (passes_in j) (passes_are j)

  pub cover_at : slice_get (covered_in j) f ≡ Some (is_covered (passes_in j) x.at)
  cover_at =
      mapped_at (is_covered (passes_in j)) (named_before (history j.script)) f x.at
      (ap (λ ps. slice_get ps f) (sym (filters_are j.dataset.columns (fn_names j.dataset.fns) (history j.script))) ∙ mapped_at (λ (y : FilterAt). y.at) (graph_filters (job_graph j)) f x q)

-- there is an answer for each filter
pub covered_count : (j : JobView) → length (covered_in j) ≡ length (graph_filters (job_graph j))
covered_count j =
    length-map (named_before (history j.script)) (is_covered (passes_in j))
    ∙ sym (ap length (filters_are j.dataset.columns (fn_names j.dataset.fns) (history j.script))) ∙ length-map (graph_filters (job_graph j)) (λ (y : FilterAt). y.at)

-- ---- a covered filter

any_at : {A : Type 0} (test : A → Bool) (xs : List A) → list_any test xs ≡ true → (n : ℕ) × (x : A) × (slice_get xs n ≡ Some x) × (test x ≡ true)
any_at test [] h = cc h
any_at test (x ∷ xs) h = by_test (test x) (λ e. (0, x, refl, e)) (λ e. let w = any_at test xs (rw e at h) in (suc w.0, w.1, w.2, w.3))

covers_there : (f : ℕ) (o : Option ResultAt) → list_any (nat_eq f) (covers_of o) ≡ true → (r : ResultAt) × (o ≡ Some r) × Contains r.covers f
covers_there f None h = cc h
covers_there f (Some r) h = (r, refl, Contains-from_any (λ x y e. (Decides-eqb x y).0 e) f r.covers h)

pub covered_there : (j : JobView) (f : ℕ) → list_any (is_covering (graph_results (job_graph j)) f) (numbered_passes j) ≡ true → IsCovered j f
covered_there j f h = grind (arith, any_at, covers_there)

pub plan_covered : (j : JobView) (job : IsJob j) (f : ℕ) → slice_get (covered_in j) f ≡ Some true → IsCovered j f
plan_covered j job f h =
    let x = something_at (graph_filters (job_graph j)) f (let l = slice_get_within (covered_in j) f true h in let n = covered_count j in omega (arith, l, n)) in
    covered_there j f (cover_is j job f x.0 x.1 ∙ same_Some _ _ (sym (cover_at j job f x.0 x.1) ∙ h))

-- ---- What trying a named filter comes to.

module _ (d : Dataset) (row : List Value) (before : List Statement) where
  -- what a named filter does by its sites: those of the filters above it, and then its own
  abbrev ReachesBy : FilterAt → Type 0
  ReachesBy f = (above : List ℕ) (own : ℕ) → f.sites ≡ above ++ own ∷ [] → filter_reach d row f.at ≡ reach_of (through_sites (number_value ⊥ d.fns d.columns row None before) above) (through d.fns d.columns row f.at None)

  reaches_by : (earlier : List Statement) → Extends earlier before → (n : ℕ) (f : FilterAt) → slice_get (filters d.columns (fn_names d.fns) earlier) n ≡ Some f → ReachesBy f
  reaches_by earlier e n f h =
      each_filter d.columns (fn_names d.fns) (λ upto f. Extends upto before → ReachesBy f) (λ upto s f next x. next (shorter s upto before x))
      (λ upto node parent expr label x above own split.
      let s = Filter node parent expr (Some label) in
      let up = through_is ⊥ d.fns d.columns row None before upto (shorter s upto before x) parent
      ∙ ap (through_sites (number_value ⊥ d.fns d.columns row None before)) (same_from_push (filter_sites d.columns (fn_names d.fns) upto parent) above _ own split).0 in
      λ i. reach_of (up i) (through d.fns d.columns row (s ∷ path upto parent) None))
      earlier n f h e

module _ (j : JobView) (f : ℕ) (x : FilterAt) (its : slice_get (graph_filters (job_graph j)) f ≡ Some x) (above : List ℕ) (own : ℕ) (split : x.sites ≡ above ++ own ∷ []) (entry : ℕ) where
  reached : filter_reach j.dataset (row_of j entry) x.at ≡ reach_of (through_sites (site_in j entry None) above) (through_sites (site_in j entry None) (above ++ own ∷ []))
  reached =
      let all = filter_is ⊥ j.dataset.fns j.dataset.columns (row_of j entry) None (history j.script) (history j.script) itself f x its ∙ ap (through_sites (site_in {M = ⊥} j entry None)) split in
      reaches_by j.dataset (row_of j entry) (history j.script) (history j.script) itself f x its above own split ∙ ap (reach_of (through_sites (site_in j entry None) above)) all

  pub stopped_answer : through_sites {M = ⊥} (site_in j entry None) above ≡ Gives false → filter_reach j.dataset (row_of j entry) x.at ≡ Stopped
  stopped_answer e = reached ∙ (λ i. reach_of (e i) (through_sites (site_in {M = ⊥} j entry None) (above ++ own ∷ [])))

  pub tried_answer : (v : Bool) → through_sites {M = ⊥} (site_in j entry None) above ≡ Gives true → through_sites {M = ⊥} (site_in j entry None) (above ++ own ∷ []) ≡ Gives v
      → filter_reach j.dataset (row_of j entry) x.at ≡ (if v then Passed else Failed)
  tried_answer v e h = grind (arith, reached)

-- Reports: what their filters come to and demand, by their numbers: lists
pub contained_at : {A : Type 0} (xs : List A) (x : A) → Contains xs x → (k : ℕ) × (slice_get xs k ≡ Some x)
contained_at xs x h = (h.0, slice_get-get_or xs h.0 x h.1 ∙ ap Some h.2)

-- ---- a filter that a report covers

module _ (j : JobView) (job : IsJob j) where
  number_there : (ns : List ℕ) (ps : List Path) → AreNumbersOf j.dataset.fns j.dataset.columns (history j.script) ns ps → (k f : ℕ) → slice_get ns k ≡ Some f
      → (x : FilterAt) × (slice_get (graph_filters (job_graph j)) f ≡ Some x) × (slice_get ps k ≡ Some x.at)
  number_there [] [] h k f q = cc q
  number_there (n ∷ ns) (p ∷ ps) h zero f q = grind arith
  number_there (n ∷ ns) (p ∷ ps) h (suc k) f q = number_there ns ps h.1 k f q
  number_there ns ps h k f q = elim h [ ]

  -- the report, and the filter among those that it covers
  pub record IsOfReport (f : ℕ) (c : IsCovered j f) : Type 0 where
    pub filters : List Path
    pub booking : c.result.booked.booking ≡ ReportOn filters
    pub filter : FilterAt
    pub there_is : slice_get (graph_filters (job_graph j)) f ≡ Some filter
    pub place : ℕ
    pub number : slice_get c.result.covers place ≡ Some f
    pub path : slice_get filters place ≡ Some filter.at

  pub of_report : (f : ℕ) (c : IsCovered j f) → IsOfReport f c
  of_report f c = go c.result.booked.booking refl (covers_are j.dataset.fns j.dataset.columns (history j.script) (history j.script) itself c.numbered.result c.result c.its_result)
    where
      go : (b : Booking) → c.result.booked.booking ≡ b → AreCovers j.dataset.fns j.dataset.columns (history j.script) b c.result.covers → IsOfReport f c
      go b e h = grind (arith, slice_get-get_or, number_there)

  pub filter_there : (f : ℕ) → IsCovered j f → (x : FilterAt) × (slice_get (graph_filters (job_graph j)) f ≡ Some x)
  filter_there f c = let r = of_report f c in (r.filter, r.there_is)

  -- what it demands, its report demands
  pub has_filter : (entry f : ℕ) → IsCovered j f → (T : ℕ → Bool) → HasAllDemands j entry T → HasFilterDemands j entry f T
  has_filter entry f c T h row x its_row its =
      let r = of_report f c in
      let same : r.filter ≡ x = (let e : ◌≡◌ {A = Option FilterAt} (Some r.filter) (Some x) = sym r.there_is ∙ its in cc e) in
      let P : Demand → Type 0 = λ d. T (demand_key (job_graph j) d) ≡ true in
      let all : All P (booking_demands j.dataset.fns j.dataset.columns row (ReportOn r.filters) (graph_under (job_graph j) c.numbered.variation)) =
      subst (λ (b : Booking). All (λ (d : Demand). T (demand_key (job_graph j) d) ≡ true) (booking_demands j.dataset.fns j.dataset.columns row b (graph_under (job_graph j) c.numbered.variation))) r.booking
      (h c.pass row _ its_row (pass_of j c.pass c.numbered c.its_pass c.result c.its_result)) in
      subst (λ (y : FilterAt). All (λ (d : Demand). T (demand_key (job_graph j) d) ≡ true) (filter_demands j.dataset.fns j.dataset.columns row y.at None)) same
      (All-from_recursion P (filter_demands j.dataset.fns j.dataset.columns row r.filter.at None)
      (each_in P (filter_demands j.dataset.fns j.dataset.columns row r.filter.at None) (λ d k.
      at_in P d (flat_map (λ p. filter_demands j.dataset.fns j.dataset.columns row p None) r.filters)
      (recursion_from_All P (flat_map (λ p. filter_demands j.dataset.fns j.dataset.columns row p None) r.filters) all)
      (in_flat (λ p. filter_demands j.dataset.fns j.dataset.columns row p None) r.filters r.place r.filter.at d r.path k))))

  -- ---- in an entry

  module _ (entry : ℕ) (row : List Value) (here_is : slice_get j.dataset.rows entry ≡ Some row) where
    abbrev pub tried : List ℕ → Outcome ⊥ Entry
    tried ns = report_numbers (site_in j entry None) (graph_filters (job_graph j)) ns

    -- the fault of a report's pass
    pub report_fault : (pass own : ℕ) (p : IsReportPass j pass own) (ns : List ℕ) → p.result.covers ≡ ns → pass_fault j entry pass ≡ fault_in (tried ns)
    report_fault pass own p ns e =
        let there : slice_get (graph_results (job_graph j)) p.numbered.result ≡ Some p.result = ap (slice_get (graph_results (job_graph j))) p.its_result ∙ p.there_is in
        grind (arith, pass_answer j job entry row here_is pass p.numbered p.its_pass p.result there, p.report)

-- ---- one pass of an entry, over plain values: the kinds of passes

module _ (j : JobView) (n : ℕ) (m : NumberedPass) (its : numbered_in j n ≡ Some m) (found : ResultKind) (q : option_map (λ (x : ResultAt). kind_of_booking x.booked.booking) (slice_get (graph_results (job_graph j)) m.result) ≡ Some found) where
  abbrev its_result : ResultAt
  its_result = (result_there j n m its).0

  found_is : found ≡ kind_of_booking its_result.booked.booking
  found_is = same_Some found (kind_of_booking its_result.booked.booking) (sym q ∙ ap (option_map (λ (x : ResultAt). kind_of_booking x.booked.booking)) (result_there j n m its).1)

  pub found_report : found ≡ ResultKind.Report → IsReportPass j n m.result
  found_report e = grind (arith, found_is, result_there)

-- ---- places

pub actions_few : (n : ℕ) (ps : List Pass) → length (kinds_in (take n ps)) ≤ n
actions_few (suc n) (p ∷ ps) = grind (arith, actions_few n ps)
actions_few n ps = omega arith

pub action_next : (j : JobView) (n place : ℕ) → IsActionPass j n → place ≡ actions_before j n → place + 1 ≡ actions_before j (n + 1)
action_next j n place h e = go (slice_get (passes_in j) n) refl h
  where
    booked : (p : Pass) → slice_get (passes_in j) n ≡ Some p → (b : Booking) → p.result.booking ≡ b → IsActionBooking b → place + 1 ≡ actions_before j (n + 1)
    booked p q (ActionAt k at) b i = ap (λ m. m + 1) e ∙ sym (after_pass j n p (ActionAt k at) q b)
    booked p q (ReportOn fs) b i = elim i [ ]

    go : (o : Option Pass) → slice_get (passes_in j) n ≡ o → MatchOption o ⊥ (λ (p : Pass). IsActionBooking p.result.booking) → place + 1 ≡ actions_before j (n + 1)
    go None q i = elim i [ ]
    go (Some p) q i = booked p q p.result.booking refl i

pub report_next : (j : JobView) (n own place : ℕ) → IsReportPass j n own → place ≡ actions_before j n → place ≡ actions_before j (n + 1)
report_next j n own place p e =
    let d = after_pass j n _ (ReportOn p.filters) (pass_of j n p.numbered p.its_pass p.result (ap (slice_get (graph_results (job_graph j))) p.its_result ∙ p.there_is)) p.report in omega (arith, d, e)

pub own_covers : (j : JobView) (pass own : ℕ) (p : IsReportPass j pass own) (ns : List ℕ) → option_map (λ (x : ResultAt). x.covers) (slice_get (graph_results (job_graph j)) own) ≡ Some ns → p.result.covers ≡ ns
own_covers j pass own p ns q = same_Some p.result.covers ns (sym (ap (option_map (λ (x : ResultAt). x.covers)) p.there_is) ∙ q)

-- ---- all passes

pub all_actions : (j : JobView) (n : ℕ) → n ≡ length (passes_in j) → actions_before j n ≡ length (kinds_in (passes_in j))
all_actions j n e = ap (actions_before j) e ∙ ap (λ ps. length (kinds_in ps)) (take-length (passes_in j))

pub read_pass : (j : JobView) (ps : List NumberedPass) → ps ≡ numbered_passes j → (n : ℕ) → n < length ps → (d : NumberedPass) → numbered_in j n ≡ Some (get_or ps n d)
read_pass j ps e n lt d = ap (λ qs. slice_get qs n) (sym e) ∙ slice_get-get_or ps n d lt
