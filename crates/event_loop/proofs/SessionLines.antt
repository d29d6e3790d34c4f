-- The lines of what a session filled: of actions, of watched results and of reports.
use Rattle.lemmas.proofs.{◌≡◌, ℕ, zero, suc, ◌+◌, ◌*◌, ◌<◌, List, [], ◌∷◌, ◌++◌, length, Some, refl, sym, ◌∙◌, ap, ap₂, subst, arith, append_assoc, length-append, flat_map, slice_get, ◌-◌, ◌≤◌, true, map, None, if◌then◌else◌, All, codes, inl, inr, Option, filter, option_map, unwrap_or, ◌^◌, append-nil, All-from_recursion, AllByRecursion, cond_both, eqb-true, join_with_byte, length-map, same_some, slice_get-map, something_at}
use Rattle.rdf_values.specs.{ActionAt, ActionKind, Booked, Booking, Pass, Path, Span, Filled, line, below, Column, fn_names, Function, FunctionNames, has_variations, named_before, passes_of, ReportOn, result_depends, Statement, Variation, variations, varied_passes, cut, history, is_watched, Lead}
use Rattle.rdf_model.specs.{action_pass, booking_lines, Dataset, filled_lines, kind_in, kinds_in, label, loop_facts, over_clusters, pass_lines, pass_result, maximal_runs, partial_line, partial_result, Run, run_text, value_text, cutflow, filter_label, first_fault, Course, flow_lines, partial_lines, result_lines}
use Rattle.actions.specs.{Accumulator}
use Rattle.graph_numbers.proofs.Placing.{by_test, joined, next_at, each_filter, itself}
use Rattle.loop_pieces.specs.{LoopPiece, StandsFor, ArePartialLines, IsPartialLine, PartialLine, span_of, Counts, counts_at, counts_of, FilledResult, place_if_watched, watched_places}
use Rattle.loop_pieces.proofs.ByCluster.{piece_holds_results, watch_piece_is_partial_result, piece_holds_counts, all_clusters_are_the_table}
use Rattle.result_text.specs.{acc_lines, lines_from, AreRuns, run_of, runs_text, watch_line, watch_lines, counts_seen, flow_at, booking_text, filled_text, FitsBooking, FitsResult}
use Rattle.event_loop.proofs.Found.{AreOf, kinds-append, own_kinds, passes_are_of, watched_at}
use Rattle.rdf_values.proofs.UnionLemmas.{length-below}
use Rattle.graph_numbers.specs.{FilterAt, filters, graph_filters, GraphView, ResultAt, results, graph_results}
use Rattle.graph_numbers.proofs.Covering.{AreNumbersOf, filters_are}
use Rattle.loop_keys.proofs.PassNumbers.{AreCovers, covers_are as booked_covers}
use Rattle.rdf_values.proofs.Evenly.{cuts_lead}
use Rattle.loop_keys.specs.{passes_in}
use Rattle.event_loop.specs.{FitsCourse, IsFilled, IsPlaced, IsResult, IsSession, job_facts, loop_filling, session_job, SessionView}
use Rattle.event_loop.proofs.Courses.{job_fault, noted_at}

module _ (b : Booked) (k : ActionKind) (at : Path) (action : b.booking ≡ ActionAt k at) where
  its_kinds : (p : Pass) → p.result ≡ b → kind_in p.result.booking ≡ k ∷ []
  its_kinds p q = ap (λ (x : Booked). kind_in x.booking) q ∙ ap kind_in action

  its_pass : (p : Pass) → p.result ≡ b → p ≡ action_pass b.name k at p.under
  its_pass p q = ap (λ (x : Booked). record { result = x; under = p.under }) (q ∙ ap (λ (y : Booking). record { name = b.name; booking = y }) action)

  -- the kinds of its passes
  pub own_kind : (own : List Pass) (rest : List ActionKind) (i : ℕ) → AreOf b own → i < length own → slice_get (kinds_in own ++ rest) i ≡ Some k
  own_kind [] rest i h lt = absurd (omega arith)
  own_kind (p ∷ own) rest zero h lt = ap (λ l. slice_get ((l ++ kinds_in own) ++ rest) 0) (its_kinds p h.0)
  own_kind (p ∷ own) rest (suc i) h lt = ap (λ l. slice_get ((l ++ kinds_in own) ++ rest) (suc i)) (its_kinds p h.0) ∙ own_kind own rest i h.1 (omega arith)

  pub own_count : (own : List Pass) → AreOf b own → length (kinds_in own) ≡ length own
  own_count own h = own_kinds b own h ∙ (let one = ap (λ (c : Booking). length own * length (kind_in c)) action in omega (arith, one))

  pub kind_at : (before own after : List Pass) (i : ℕ) → AreOf b own → i < length own → slice_get (kinds_in (before ++ (own ++ after))) (length (kinds_in before) + i) ≡ Some k
  kind_at before own after i h lt =
      ap (λ l. slice_get l (length (kinds_in before) + i)) (kinds-append before (own ++ after) ∙ ap (λ l. kinds_in before ++ l) (kinds-append own after))
      ∙ next_at (kinds_in before) (kinds_in own ++ kinds_in after) i (length (kinds_in before) + i) refl ∙ own_kind own (kinds_in after) i h lt

  module _ (d : Dataset) (filters : List Path) (spans : List Span) (set : List ℕ) (whole : over_clusters spans d set ≡ d) (piece : LoopPiece) where
    -- an accumulator of its passes
    acc_holds : (before after : List Pass) (p : Pass) → p.result ≡ b → StandsFor (loop_facts d filters spans (before ++ p ∷ after)) set piece
        → (acc : Accumulator) × (slice_get piece.accs.items (length (kinds_in before)) ≡ Some acc) × (acc.filled ≡ pass_result d k at p.under)
    acc_holds before after p q stands =
        let is : p ≡ action_pass b.name k at p.under = its_pass p q in
        let named = subst (λ (x : Pass). StandsFor (loop_facts d filters spans (before ++ x ∷ after)) set piece) is stands in
        let many = length-map piece.accs.items (λ (acc : Accumulator). acc.kind) in
        let kinds = ap (λ (l : List ActionKind). length l) (stands.kinds ∙ kinds-append before (p ∷ after)) in
        let both = length-append (kinds_in before) (kinds_in (p ∷ after)) in
        let own = length-append (kind_in p.result.booking) (kinds_in after) in
        let one = ap (λ (l : List ActionKind). length l) (its_kinds p q) in
        let acc = something_at piece.accs.items (length (kinds_in before)) (omega (arith, many, kinds, both, own, one)) in
        let holds = piece_holds_results d filters spans set before after b.name k at p.under piece acc.0 named acc.1 in
        (acc.0, acc.1, holds.1 ∙ ap (λ (x : Dataset). pass_result x k at p.under) whole)

    one_line : (before after : List Pass) (p : Pass) → p.result ≡ b → StandsFor (loop_facts d filters spans (before ++ p ∷ after)) set piece
        → acc_lines k (label p.result.name p.under) (slice_get piece.accs.items (length (kinds_in before))) ≡ pass_lines d p
    one_line before after p q stands =
        let acc = acc_holds before after p q stands in
        ap (acc_lines k (label p.result.name p.under)) acc.1 ∙ ap (filled_lines k (label p.result.name p.under)) acc.2
        ∙ sym (ap (booking_lines d p.result.name p.under) (ap (λ (x : Booked). x.booking) q ∙ action))

    pub lines_are : (own before after : List Pass) (n : ℕ) → AreOf b own → n ≡ length (kinds_in before) → StandsFor (loop_facts d filters spans (before ++ (own ++ after))) set piece
        → lines_from k piece.accs.items n own ≡ flat_map (pass_lines d) own
    lines_are [] before after n h e stands = refl
    lines_are (p ∷ own) before after n h e stands =
        let joined : before ++ (p ∷ (own ++ after)) ≡ (before ++ p ∷ []) ++ (own ++ after) = sym (append_assoc before (p ∷ []) (own ++ after)) in
        let kinds = ap (λ (l : List ActionKind). length l) (kinds-append before (p ∷ [])) in
        let both = length-append (kinds_in before) (kinds_in (p ∷ [])) in
        let own_kinds = length-append (kind_in p.result.booking) [] in
        let one = ap (λ (l : List ActionKind). length l) (its_kinds p h.0) in
        let next : n + 1 ≡ length (kinds_in (before ++ p ∷ [])) = omega (arith, e, kinds, both, own_kinds, one) in
        ap₂ (λ (x y : List ℕ). x ++ y) (ap (λ (m : ℕ). acc_lines k (label p.result.name p.under) (slice_get piece.accs.items m)) e ∙ one_line before (own ++ after) p h.0 stands)
        (lines_are own (before ++ p ∷ []) after (n + 1) h.1 next (subst (λ (l : List Pass). StandsFor (loop_facts d filters spans l) set piece) joined stands))

-- ---- runs

runs_back : (rs : List Run) → map run_of (map span_of rs) ≡ rs
runs_back [] = refl
runs_back (r ∷ rs) = let e : r.last + 1 - 1 ≡ r.last = omega arith in ap₂ (λ (l : ℕ) (xs : List Run). record { first = r.first; last = l } ∷ xs) e (runs_back rs)

abbrev AreRising : List Run → Type 0
AreRising rs = AllByRecursion (λ (r : Run). r.first ≤ r.last) rs

runs_rise : (set : List ℕ) → AreRising (maximal_runs set)
runs_rise [] = tt
runs_rise (x ∷ xs) = grind (arith, cond_both, eqb-true, runs_rise xs)

spans_are_runs : (rs : List Run) → AreRising rs → AllByRecursion (λ (s : Span). s.lo < s.hi) (map span_of rs)
spans_are_runs [] h = tt
spans_are_runs (r ∷ rs) h = (let up = h.0 in omega arith, spans_are_runs rs h.1)

runs_of_set : (runs : List Span) (set : List ℕ) → runs ≡ map span_of (maximal_runs set) → AreRuns runs
runs_of_set runs set e = subst AreRuns (sym e) (All-from_recursion (λ (s : Span). s.lo < s.hi) (map span_of (maximal_runs set)) (spans_are_runs (maximal_runs set) (runs_rise set)))

-- ---- lines

module _ (d : Dataset) (filters : List Path) (spans : List Span) (before after : List Pass) (name : List ℕ) (k : ActionKind) (at : Path) where
  one_partial : (set : List ℕ) (l : PartialLine) → IsPartialLine (loop_facts d filters spans (before ++ action_pass name k at None ∷ after)) (length (kinds_in before)) set l → watch_line name l ≡ partial_line name set (partial_result spans d set k at)
  one_partial set l is =
      let text : runs_text l.runs ≡ join_with_byte 44 (map run_text (maximal_runs set)) = ap runs_text is.runs ∙ ap (λ rs. join_with_byte 44 (map run_text rs)) (runs_back (maximal_runs set)) in
      let value = watch_piece_is_partial_result d filters spans set before after name k at l.value is.stands in
      ap₂ (λ (t : List ℕ) (v : Filled). line (codes "partial " ++ name ++ codes " over " ++ t ++ codes " = " ++ value_text v)) text value

  pub watched_are : (sets : List (List ℕ)) (lines : List PartialLine) → ArePartialLines (loop_facts d filters spans (before ++ action_pass name k at None ∷ after)) (length (kinds_in before)) sets lines
      → watch_lines name lines ≡ flat_map (λ set. partial_line name set (partial_result spans d set k at)) sets
  watched_are [] [] h = refl
  watched_are (set ∷ sets) (l ∷ ls) h = ap₂ (λ (x y : List ℕ). x ++ y) (one_partial set l h.0) (watched_are sets ls h.1)
  watched_are sets lines h = elim h [ ]

-- each line has runs
lines_have_runs : (facts : _) (place : ℕ) (sets : List (List ℕ)) (lines : List PartialLine) → ArePartialLines facts place sets lines → AllByRecursion (λ (l : PartialLine). AreRuns l.runs) lines
lines_have_runs facts place [] [] h = tt
lines_have_runs facts place (set ∷ sets) (l ∷ ls) h = (runs_of_set l.runs set h.0.runs, lines_have_runs facts place sets ls h.1)
lines_have_runs facts place sets lines h = elim h [ ]

-- what stands before and behind an element
parted_at : {A : Type 0} (xs : List A) (n : ℕ) (x : A) → slice_get xs n ≡ Some x → (before : List A) × (after : List A) × (xs ≡ before ++ x ∷ after) × (length before ≡ n)
parted_at [] n x at = absurd (cc)
parted_at (y ∷ ys) zero x at = ([], ys, ap (λ z. z ∷ ys) (same_some at), refl)
parted_at (y ∷ ys) (suc n) x at = let rest = parted_at ys n x at in (y ∷ rest.0, rest.1, ap (λ l. y ∷ l) rest.2, ap suc rest.3)

-- ---- named filters

module _ (header : List Column) (names : FunctionNames) where
  pub its_path : (before : List Statement) (n : ℕ) (f : FilterAt) → slice_get (filters header names before) n ≡ Some f → slice_get (named_before before) n ≡ Some f.at
  its_path before n f at = ap (λ l. slice_get l n) (sym (filters_are header names before)) ∙ slice_get-map (λ (x : FilterAt). x.at) (filters header names before) n ∙ ap (option_map (λ (x : FilterAt). x.at)) at

  -- its label is that of its path
  pub its_label : (before : List Statement) (n : ℕ) (f : FilterAt) → slice_get (filters header names before) n ≡ Some f → f.label ≡ filter_label f.at
  its_label = each_filter header names (λ upto f. f.label ≡ filter_label f.at) (λ upto s f h. h) (λ upto node parent expr label. refl)

  -- and that isn't the head's
  path_nonempty : (before : List Statement) (n : ℕ) (f : FilterAt) → slice_get (filters header names before) n ≡ Some f → f.at ≡ [] → ⊥
  path_nonempty = each_filter header names (λ upto f. f.at ≡ [] → ⊥) (λ upto s f h. h) (λ upto node parent expr label e. cc e)

  pub filter_count : (before : List Statement) → length (filters header names before) ≡ length (named_before before)
  filter_count before = sym (length-map (filters header names before) (λ (f : FilterAt). f.at)) ∙ ap (λ (l : List Path). length l) (filters_are header names before)

-- what a report covers
pub covers_are : (fns : List Function) (columns : List Column) (script : List Statement) (r : ℕ) (x : ResultAt) (fs : List Path) → slice_get (results columns (fn_names fns) script) r ≡ Some x → x.booked.booking ≡ ReportOn fs
    → AreNumbersOf fns columns script x.covers fs
covers_are fns columns script r x fs at report = subst (λ (b : Booking). AreCovers fns columns script b x.covers) report (booked_covers fns columns script script itself r x at)

-- a report has no pass under a variation
pub report_pass : (script : List Statement) (b : Booked) (fs : List Path) → b.booking ≡ ReportOn fs → passes_of script b ≡ record { result = b; under = None } ∷ []
report_pass script b fs report = ap (λ l. record { result = b; under = None } ∷ l)
    (cond_both (has_variations script b.name) (varied_passes script b) [] (λ ps. ps ≡ [])
    (λ _. ap (map (λ (v : Variation). record { result = b; under = Some v })) (none (variations script))) (λ _. refl))
  where
    none : (vs : List Variation) → filter (λ v. result_depends v b.booking) vs ≡ []
    none [] = refl
    none (v ∷ vs) = ap (λ (k : Booking). if result_depends v k then v ∷ filter (λ w. result_depends w b.booking) vs else filter (λ w. result_depends w b.booking) vs) report ∙ none vs

-- ---- counts

module _ (script : List Statement) (d : Dataset) (spans : List Span) (set : List ℕ) (whole : over_clusters spans d set ≡ d) (passes : List Pass) (sound : first_fault d passes ≡ None) (piece : LoopPiece)
    (stands : StandsFor (loop_facts d (named_before script) spans passes) set piece) where
  pub flow_length : length piece.flow ≡ length (named_before script)
  flow_length = ap (λ (l : List Counts). length l) stands.flow ∙ length-map (below (length (named_before script))) (counts_at (loop_facts d (named_before script) spans passes) set) ∙ length-below (length (named_before script))

  module _ (p : Pass) (n : ℕ) (its : slice_get passes n ≡ Some p) (fs : List Path) (report : p.result.booking ≡ ReportOn fs) where
    counts_are : (i m : ℕ) (f : Path) → (f ≡ [] → ⊥) → slice_get fs i ≡ Some f → slice_get (named_before script) m ≡ Some f → slice_get piece.flow m ≡ Some (counts_of (cutflow d f))
    counts_are i m f some h named = grind (arith, parted_at, stands, whole, sound, piece_holds_counts)

    pub flows_from : (header : List Column) (fns : List Function) (ns : List ℕ) (gs done : List Path) → fs ≡ done ++ gs → AreNumbersOf fns header script ns gs
        → (g : GraphView) → graph_filters g ≡ filters header (fn_names fns) script → map (flow_at g piece.flow) ns ≡ map (λ f. (filter_label f, cutflow d f)) gs
    flows_from header fns [] [] done joined h g same_filters = refl
    flows_from header fns (m ∷ ns) (f ∷ gs) done joined h g same_filters =
        let y = h.0.0 in
        let at : slice_get (graph_filters g) m ≡ Some y = ap (λ l. slice_get l m) same_filters ∙ h.0.1 in
        let its_label_is : y.label ≡ filter_label f = its_label header (fn_names fns) script m y h.0.1 ∙ ap filter_label h.0.2 in
        let named : slice_get (named_before script) m ≡ Some f = its_path header (fn_names fns) script m y h.0.1 ∙ ap (λ q. Some q) h.0.2 in
        let listed : slice_get fs (length done) ≡ Some f = (let none : length done ≡ length done + 0 = omega arith in ap (λ l. slice_get l (length done)) joined ∙ next_at done (f ∷ gs) 0 (length done) none) in
        let counted = counts_are (length done) m f (λ e. path_nonempty header (fn_names fns) script m y h.0.1 (h.0.2 ∙ e)) listed named in
        let one : flow_at g piece.flow m ≡ (filter_label f, cutflow d f) =
        λ i. ((ap (λ (o : Option FilterAt). unwrap_or (option_map (λ (x : FilterAt). x.label) o) []) at ∙ its_label_is) i, ap (λ (o : Option Counts). counts_seen (unwrap_or o (record { all = 0; pass = 0 }))) counted i) in
        ap₂ (λ x xs. x ∷ xs) one (flows_from header fns ns gs (done ++ f ∷ []) (joined ∙ sym (append_assoc done (f ∷ []) gs)) h.1 g same_filters)
    flows_from header fns ns gs done joined h g same_filters = elim h [ ]

module _ (s : SessionView) (is : IsSession s) where
  abbrev script_of : List Statement
  script_of = history s.graph.script

  abbrev spans_of : List Span
  spans_of = cut s.cuts.entries s.cuts.size s.cuts.marks

  leads : Lead 0 (length s.dataset.rows) spans_of
  leads = subst (λ (n : ℕ). Lead 0 n spans_of) is.cuts (cuts_lead s.cuts.entries s.cuts.size s.cuts.marks)

  -- ---- partial results

  -- a result that is noted is a watched action
  noted_action : (b : Booked) (n : ℕ) → place_if_watched script_of n (record { result = b; under = None }) ≡ n ∷ [] → (k : ActionKind) × (at : Path) × (b.booking ≡ ActionAt k at)
  noted_action b n e = grind (arith, by_test)

  -- what is printed before the lines of the passes
  abbrev front_of : Course → Booked → List ℕ
  front_of course b = if is_watched script_of b.name then partial_lines script_of s.dataset course b.name b.booking else []

  -- a result that isn't noted isn't watched, or is a report
  no_front : (b : Booked) (course : Course) → place_if_watched script_of 0 (record { result = b; under = None }) ≡ [] → front_of course b ≡ []
  no_front b course none = by_test (is_watched script_of b.name) (λ w. rw w (go w b.booking refl)) (λ w. rw w refl)
    where
      go : is_watched script_of b.name ≡ true → (bk : Booking) → b.booking ≡ bk → partial_lines script_of s.dataset course b.name b.booking ≡ []
      go w bk q = grind (arith, none)

  module _ (r : ℕ) (x : ResultAt) (its : slice_get (graph_results s.graph) r ≡ Some x) (l : ℕ) (f : FilledResult) (lines : List PartialLine) (h : IsResult s x.booked l f lines) where
    abbrev passes : List Pass
    passes = passes_in (session_job s l)

    placed : IsPlaced script_of passes x.booked h.place
    placed = h.placed

    its_filling : IsFilled (job_facts (session_job s l)) s.watch h.filled
    its_filling = is.filled l h.filled h.its_loop

    -- ---- partial results

    its_lines : ((n : ℕ) → place_if_watched script_of n (record { result = x.booked; under = None }) ≡ n ∷ []) × (slice_get h.filled.partials h.place.watched ≡ Some lines) → (sets : List (List ℕ))
        → ((w place : ℕ) (ls : List PartialLine) → slice_get (watched_places script_of passes) w ≡ Some place → slice_get h.filled.partials w ≡ Some ls → ArePartialLines (loop_facts s.dataset (named_before script_of) spans_of passes) place sets ls)
        → ArePartialLines (loop_facts s.dataset (named_before script_of) spans_of passes) h.place.first sets lines
    its_lines p sets each = each h.place.watched h.place.first lines (noted_at s is x.booked passes h.place placed p.0) p.1

    pub have_runs : All (λ (l : PartialLine). AreRuns l.runs) lines
    have_runs = elim h.partials [
      | inl p ↦ (
          let over = its_filling.partials.over.are in
          All-from_recursion (λ (l : PartialLine). AreRuns l.runs) lines (lines_have_runs _ h.place.first over.sets lines (its_lines p over.sets over.each)))
      | inr q ↦ subst (All (λ (l : PartialLine). AreRuns l.runs)) (sym q.1) (λ k d lt. absurd (omega arith))
    ]

    action_lines : ((n : ℕ) → place_if_watched script_of n (record { result = x.booked; under = None }) ≡ n ∷ []) × (slice_get h.filled.partials h.place.watched ≡ Some lines) → (course : Course) → FitsCourse s course → loop_filling script_of x.booked.name ≡ Some l → (k : ActionKind) (at : Path) → x.booked.booking ≡ ActionAt k at
        → watch_lines x.booked.name lines ≡ partial_lines script_of s.dataset course x.booked.name (ActionAt k at)
    action_lines p course fits_course number k at action =
        let name = x.booked.name in
        let are : ArePartialLines (loop_facts s.dataset (named_before script_of) spans_of passes) h.place.first (course.chains l) lines =
        its_lines p (course.chains l) (λ w place ls watched at_w. fits_course.lines l w place h.filled ls h.its_loop watched at_w) in
        let pass_is : ◌≡◌ {A = Pass} (record { result = x.booked; under = None }) (action_pass name k at None) = ap (λ (bk : Booking). record { result = record { name = name; booking = bk }; under = None }) action in
        let varied : List Pass = if has_variations script_of name then varied_passes script_of x.booked else [] in
        let passes_are : passes ≡ placed.before ++ (action_pass name k at None ∷ (varied ++ placed.after)) = placed.passes_are ∙ ap (λ (q : Pass). placed.before ++ (q ∷ (varied ++ placed.after))) pass_is in
        watched_are s.dataset (named_before script_of) spans_of placed.before (varied ++ placed.after) name k at (course.chains l) lines
        (subst (λ (n : ℕ). ArePartialLines (loop_facts s.dataset (named_before script_of) spans_of (placed.before ++ (action_pass name k at None ∷ (varied ++ placed.after)))) n (course.chains l) lines) placed.first
        (subst (λ (ps : List Pass). ArePartialLines (loop_facts s.dataset (named_before script_of) spans_of ps) h.place.first (course.chains l) lines) passes_are are))
        ∙ ap₂ (λ (n : ℕ) (spans : List Span). flat_map (λ set. partial_line name set (partial_result spans s.dataset set k at)) (course.chains n)) (sym (ap (λ (o : Option ℕ). unwrap_or o 0) number)) (sym fits_course.spans)

    front_is : (course : Course) → FitsCourse s course → loop_filling script_of x.booked.name ≡ Some l → watch_lines x.booked.name lines ≡ front_of course x.booked
    front_is course fits_course number = grind (arith, noted_action, action_lines, watched_at, no_front)

    -- ---- filled results

    abbrev set_of : List ℕ
    set_of = below (length (job_facts (session_job s l)).faults)

    whole : over_clusters spans_of s.dataset set_of ≡ s.dataset
    whole = grind (arith, length-map, length-below, all_clusters_are_the_table, leads)

    stands : StandsFor (loop_facts s.dataset (named_before script_of) spans_of passes) set_of f.piece.now
    stands = subst (StandsFor (loop_facts s.dataset (named_before script_of) spans_of passes) set_of) (sym h.piece) its_filling.stands

    sound : first_fault s.dataset passes ≡ None
    sound = sym (job_fault s is l) ∙ its_filling.sound

    parted : StandsFor (loop_facts s.dataset (named_before script_of) spans_of (placed.before ++ (passes_of script_of x.booked ++ placed.after))) set_of f.piece.now
    parted = subst (λ (ps : List Pass). StandsFor (loop_facts s.dataset (named_before script_of) spans_of ps) set_of f.piece.now) placed.passes_are stands

    -- of an action
    module _ (k : ActionKind) (at : Path) (action : x.booked.booking ≡ ActionAt k at) where
      passes_are : f.passes ≡ length (passes_of script_of x.booked)
      passes_are = h.passes ∙ placed.passes ∙ own_count x.booked k at action (passes_of script_of x.booked) (passes_are_of script_of x.booked)

      action_fits : FitsBooking s.graph x f (ActionAt k at)
      action_fits = (
        passes_are,
        subst (λ (n : ℕ). n ≤ 2 ^ 32) (ap₂ (λ (m n : ℕ). m + n) (sym h.first) (sym h.passes)) placed.few,
        λ i lt. ap (λ (l : List ActionKind). slice_get l (f.first + i)) (parted.kinds) ∙ ap (λ (n : ℕ). slice_get (kinds_in (placed.before ++ (passes_of script_of x.booked ++ placed.after))) (n + i)) (h.first ∙ placed.first)
            ∙ kind_at x.booked k at action placed.before (passes_of script_of x.booked) placed.after i (passes_are_of script_of x.booked) (subst (λ (n : ℕ). i < n) passes_are lt),
      )

      action_text : booking_text s.graph x f (ActionAt k at) ≡ flat_map (pass_lines s.dataset) (passes_of script_of x.booked)
      action_text =
          lines_are x.booked k at action s.dataset (named_before script_of) spans_of set_of whole f.piece.now (passes_of script_of x.booked) placed.before placed.after f.first (passes_are_of script_of x.booked) (h.first ∙ placed.first) parted

    -- of a report
    module _ (fs : List Path) (report : x.booked.booking ≡ ReportOn fs) where
      report_fits : FitsBooking s.graph x f (ReportOn fs)
      report_fits = grind (arith, flow_length, whole, sound, stands, filter_count)

      nominal_there : slice_get passes (length placed.before) ≡ Some (record { result = x.booked; under = None })
      nominal_there =
          let none : length placed.before ≡ length placed.before + 0 = omega arith in
          ap (λ (l : List Pass). slice_get l (length placed.before)) placed.passes_are ∙ next_at placed.before (passes_of script_of x.booked ++ placed.after) 0 (length placed.before) none

      report_text : booking_text s.graph x f (ReportOn fs) ≡ flat_map (pass_lines s.dataset) (passes_of script_of x.booked)
      report_text =
          let numbers = covers_are s.dataset.fns s.dataset.columns script_of r x fs (ap (λ (l : List ResultAt). slice_get l r) (sym (ap graph_results is.graph)) ∙ its) report in
          let flows = flows_from script_of s.dataset spans_of set_of whole passes sound f.piece.now stands (record { result = x.booked; under = None }) (length placed.before) nominal_there fs report s.dataset.columns s.dataset.fns x.covers fs [] refl numbers s.graph (ap graph_filters is.graph) in
          ap (flow_lines x.booked.name) flows ∙ sym (ap (booking_lines s.dataset x.booked.name None) report) ∙ sym (append-nil (pass_lines s.dataset (record { result = x.booked; under = None })))
          ∙ ap (flat_map (pass_lines s.dataset)) (sym (report_pass script_of x.booked fs report))

    pub fits : FitsResult s.graph x f
    fits = go x.booked.booking refl
      where
        go : (bk : Booking) → x.booked.booking ≡ bk → FitsBooking s.graph x f x.booked.booking
        go bk q = grind (arith, action_fits, report_fits)

    text_is : filled_text s.graph x f ≡ flat_map (pass_lines s.dataset) (passes_of script_of x.booked)
    text_is = grind (arith, action_text, report_text)

    -- all lines of the result
    pub all_lines : (course : Course) → FitsCourse s course → loop_filling script_of x.booked.name ≡ Some l → watch_lines x.booked.name lines ++ filled_text s.graph x f ≡ result_lines script_of s.dataset course x.booked
    all_lines course fits_course number = ap₂ (λ (a b : List ℕ). a ++ b) (front_is course fits_course number) text_is
