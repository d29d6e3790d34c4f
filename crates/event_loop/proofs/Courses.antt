-- What one Print adds to a text, the course of a run, and its whole text.
use Rattle.lemmas.proofs.{if◌then◌else◌, ◌≡◌, ℕ, zero, suc, ◌<◌, Bool, true, false, List, [], ◌∷◌, ◌++◌, length, filter, Option, Some, None, refl, sym, ◌∙◌, ap, ap₂, subst, arith, append-nil, append_assoc, IfSome, flat_map, option_map, slice_get, unwrap_or, ◌+◌, ◌≤◌, drop, ◌⊎◌, inl, inr, take, length-append, filter_map, length-map, drop_all, same_some, slice_get-map, slice_get_within, something_at, before_or_last, cons_option, filter_map-append, IfSome_then, kept_at, take_next}
use Rattle.rdf_values.specs.{Booked, bookings, Fault, history, Pass, results_named, same, cut, Span, stride, passes_of, first_in, Statement}
use Rattle.rdf_model.specs.{Access, access_printed, accesses, Course, Dataset, in_front_of, loop_passes, loop_results, named_lines, Printed, result_lines, access_passes, first_fault, IsChain, IsCourse, printed, kind_in, kinds_in, ComesInTurn, filled_by, first_fault_from, loop_of, loops_before}
use Rattle.rdf_model.proofs.Accepted.{names_equal, loops_come_in_turn}
use Rattle.rdf_model.proofs.Faults.{first_fault_is_least}
use Rattle.graph_numbers.specs.{graph_loops, graph_prints, graph_results, GraphView, Pass as NumberedPass, pass_at, result_number, ResultAt}
use Rattle.graph_numbers.proofs.Placing.{itself as all_of_it, by_test, itself, next_at}
use Rattle.graph_numbers.proofs.Covering.{booked_are}
use Rattle.loop_keys.specs.{passes_in}
use Rattle.event_loop.specs.{FilledLoop, FitsCourse, GoesOn, HasSameParts, IsAccessed, IsFilledIn, IsKept, IsSession, session_job, SessionView, EndsAt, IsTranscript, job_facts, print_gives, fills, IsPlaced, IsUnfilled, IsFaulted, IsFilled, loop_filling, passes_run}
use Rattle.event_loop.specs.declared.session.FaultyLoop.{FaultyLoop}
use Rattle.event_loop.proofs.Found.{booked_row, decoded, in_turn, many, one_number, watched-append, printed_has_loop}
use Rattle.graph.proofs.Listing.{place_at}
use Rattle.loop_pieces.specs.{ArePartialLines, PartialLine, place_if_watched, watched_from, watched_places}
use Rattle.result_text.proofs.PassLines.{one_left}
use Rattle.event_loop.proofs.Ended.{first_sets, first_sets_are_a_chain}
use Rattle.loop_keys.proofs.PassNumbers.{lines_few}
use Rattle.event_loop.specs.declared.place.PassSpan.{PassSpan}
use Rattle.rdf_values.specs.declared.scripts.statement.Statement.TheVariants.{Print}
use Rattle.rdf_values.proofs.Evenly.{cuts_lead}
use Rattle.loop_pieces.proofs.ByCluster.{first_cluster_has_first_fault}

-- ---- the only one that passes a test

filter_none : {A : Type 0} (t : A → Bool) (xs : List A) → ((k : ℕ) (y : A) → slice_get xs k ≡ Some y → t y ≡ true → ⊥) → filter t xs ≡ []
filter_none t [] h = refl
filter_none t (x ∷ xs) h = let rest = filter_none t xs (λ k y at met. h (suc k) y at met) in by_test (t x) (λ e. absurd (h 0 x refl e)) (λ e. rw e rest)

filter_one : {A : Type 0} (t : A → Bool) (xs : List A) (r : ℕ) (x : A) → slice_get xs r ≡ Some x → t x ≡ true → ((k : ℕ) (y : A) → slice_get xs k ≡ Some y → t y ≡ true → k ≡ r) → filter t xs ≡ x ∷ []
filter_one t [] r x at met h = absurd (cc)
filter_one t (y ∷ ys) zero x at met h =
    let is : y ≡ x = same_some at in
    rw (ap t is ∙ met) (ap₂ (λ z zs. z ∷ zs) is (filter_none t ys (λ k z there q. (let e = h (suc k) z there q in absurd (omega (arith, e))))))
filter_one t (y ∷ ys) (suc r) x at met h =
    let rest = filter_one t ys r x at met (λ k z there q. (let e = h (suc k) z there q in omega (arith, e))) in
    by_test (t y) (λ e. (let z = h 0 y refl e in absurd (omega (arith, z)))) (λ e. rw e rest)

-- ---- a Print

-- its result
pub record IsPrinted (s : SessionView) (print r : ℕ) (a : Access) : Type 0 where
  pub row : ResultAt
  pub its_row : slice_get (graph_results s.graph) r ≡ Some row
  pub its_name : a.result ≡ row.booked.name
  pub alone : results_named a.result (bookings (history s.graph.script)) ≡ row.booked ∷ []

pub is_printed : (s : SessionView) → IsSession s → (print r : ℕ) (a : Access) → slice_get (accesses (history s.graph.script)) print ≡ Some a → slice_get (graph_prints s.graph) print ≡ Some (Some r) → IsPrinted s print r a
is_printed s is print r a at its =
    let number : result_number (history s.graph.script) a.result ≡ Some r =
    same_some (sym (ap (option_map (λ (x : Access). result_number (history s.graph.script) x.result)) at) ∙ sym (slice_get-map (λ (x : Access). result_number (history s.graph.script) x.result) (accesses (history s.graph.script)) print) ∙ its) in
    let p = place_at (λ (b : Booked). same b.name a.result) (bookings (history s.graph.script)) r number in
    let within = slice_get_within (bookings (history s.graph.script)) r p.0 p.1 in
    let same_count = ap (λ (l : List Booked). length l) (booked_are s.graph.header s.graph.names (history s.graph.script)) in
    let rows = length-map (graph_results s.graph) (λ (x : ResultAt). x.booked) in
    let x = something_at (graph_results s.graph) r (omega (arith, within, same_count, rows)) in
    let booked = booked_row s.graph r x.0 x.1 in
    let is_it : p.0 ≡ x.0.booked = same_some (sym p.1 ∙ booked) in
    let name : x.0.booked.name ≡ a.result = sym (ap (λ (b : Booked). b.name) is_it) ∙ names_equal p.0.name a.result p.2 in
    record {
      row = x.0;
      its_row = x.1;
      its_name = sym name;
      alone = filter_one (λ (b : Booked). same b.name a.result) (bookings (history s.graph.script)) r x.0.booked booked (ap (λ (b : Booked). same b.name a.result) (sym is_it) ∙ p.2)
          (λ k y there q. one_number (history s.graph.script) (in_turn s.graph is.booked) k r y x.0.booked there booked (ap (same y.name) name ∙ q));
    }

-- ---- sessions of the same parts

abbrev with_parts : SessionView → SessionView → SessionView
with_parts old new = record new { graph = old.graph; dataset = old.dataset; cuts = old.cuts }

same_view : (old new : SessionView) → HasSameParts old new → new ≡ with_parts old new
same_view old new parts = λ i. record new { graph = parts.graph i; dataset = parts.dataset i; cuts = parts.cuts i }

-- ---- the lines of a result

its_print : (old new : SessionView) (print r : ℕ) → HasSameParts old new → slice_get (graph_prints new.graph) print ≡ Some (Some r) → slice_get (graph_prints old.graph) print ≡ Some (Some r)
its_print old new print r parts its = ap (λ (g : GraphView). slice_get (graph_prints g) print) (sym parts.graph) ∙ its

pub goes_on : (old new : SessionView) (print l r : ℕ) (before after : List ℕ) → IsSession old → HasSameParts old new → IsAccessed old new print l → slice_get (graph_prints new.graph) print ≡ Some (Some r) → old.fault ≡ None
    → ((x : ResultAt) (course : Course) → slice_get (graph_results new.graph) r ≡ Some x → FitsCourse new course → after ≡ before ++ result_lines (history new.graph.script) new.dataset course x.booked)
    → GoesOn old new before after print
goes_on old new print l r before after is parts acc its sound lines = record {
  next = acc.next;
  sound = acc.fault ∙ sound;
  stays = acc.stays;
  lines = λ course a rest fits at. (
      let p = is_printed old is print r a at (its_print old new print r parts its) in
      let added : after ≡ before ++ result_lines (history old.graph.script) old.dataset course p.row.booked =
      lines p.row course (ap (λ (g : GraphView). slice_get (graph_results g) r) parts.graph ∙ p.its_row) fits
      ∙ ap₂ (λ (g : GraphView) (d : Dataset). before ++ result_lines (history g.script) d course p.row.booked) parts.graph parts.dataset in
      let alone : named_lines (history old.graph.script) old.dataset course a.result ≡ result_lines (history old.graph.script) old.dataset course p.row.booked =
      ap (flat_map (result_lines (history old.graph.script) old.dataset course)) p.alone ∙ append-nil (result_lines (history old.graph.script) old.dataset course p.row.booked) in
      ap (λ (o : Option Fault). in_front_of before (access_printed (history old.graph.script) old.dataset course a o rest)) (acc.sound a at sound)
      ∙ ap (λ (l : List ℕ). in_front_of before (in_front_of l rest)) alone
      ∙ ap (λ (b : List ℕ). record { bytes = b; status = rest.status }) (sym (append_assoc before _ rest.bytes) ∙ ap (λ (l : List ℕ). l ++ rest.bytes) (sym added))
      );
}

-- what a result's lines want
pub row_within : (old new : SessionView) (print r : ℕ) → IsSession old → HasSameParts old new → slice_get (graph_prints new.graph) print ≡ Some (Some r) → print < length (accesses (history old.graph.script)) → r < length (graph_results new.graph)
row_within old new print r is parts its lt =
    let a = something_at (accesses (history old.graph.script)) print lt in
    let p = is_printed old is print r a.0 a.1 (its_print old new print r parts its) in
    slice_get_within (graph_results new.graph) r p.row (ap (λ (g : GraphView). slice_get (graph_results g) r) parts.graph ∙ p.its_row)

pub row_filled : (old new : SessionView) (print l r : ℕ) → IsSession old → HasSameParts old new → IsAccessed old new print l → slice_get (graph_prints new.graph) print ≡ Some (Some r) → print < length (accesses (history old.graph.script))
    → (x : ResultAt) → slice_get (graph_results new.graph) r ≡ Some x → IsFilledIn new x.booked.name l
row_filled old new print l r is parts acc its lt x at =
    let a = something_at (accesses (history old.graph.script)) print lt in
    let p = is_printed old is print r a.0 a.1 (its_print old new print r parts its) in
    let same_row : p.row ≡ x = same_some (sym p.its_row ∙ ap (λ (g : GraphView). slice_get (graph_results g) r) (sym parts.graph) ∙ at) in
    subst (λ (n : List ℕ). IsFilledIn new n l) (p.its_name ∙ ap (λ (y : ResultAt). y.booked.name) same_row) (acc.filled a.0 a.1)

-- ---- the line of a fault

kept_is : (new : SessionView) (k : FaultyLoop) → IsSession new → new.fault ≡ Some k → IsKept new k
kept_is new k is e = subst (λ (o : Option FaultyLoop). IfSome o (IsKept new)) e is.kept

pub fault_loop : (new : SessionView) (k : FaultyLoop) → IsSession new → new.fault ≡ Some k → k.loop_index < length (graph_loops new.graph)
fault_loop new k is e = grind (arith, kept_is, many, all_of_it)

pub fault_pass : (new : SessionView) (k : FaultyLoop) → IsSession new → new.fault ≡ Some k → (ps : List NumberedPass) → slice_get (graph_loops new.graph) k.loop_index ≡ Some ps → k.fault.pass < length ps
fault_pass new k is e ps at =
    let l = k.loop_index in
    let f = k.fault in
    let kept = kept_is new k is e in
    let first = (first_fault_is_least new.dataset (passes_in (session_job new l))).0 f kept.first in
    let within = slice_get_within (passes_in (session_job new l)) f.pass first.pass first.its_pass in
    let results = something_at (loop_results (history new.graph.script)) l kept.there in
    let named = decoded new.graph l ps results.0 at results.1 in
    let numbered = length-map ps (pass_at (history new.graph.script)) in
    let same_length = ap (λ (x : List _). length x) named in
    let own = length-map (loop_passes (history new.graph.script) results.0) (λ (q : Pass). Some q) in
    let its = ap (λ (o : Option (List Booked)). length (loop_passes (history new.graph.script) (unwrap_or o []))) results.1 in
    omega (arith, within, numbered, same_length, own, its)

-- ---- a course

module _ (s : SessionView) (is : IsSession s) where
  abbrev spans_of : List Span
  spans_of = cut s.cuts.entries s.cuts.size s.cuts.marks

  -- sets that a loop could have noted, and did where it was run
  record HasChain (l : ℕ) : Type 0 where
    pub sets : List (List ℕ)
    pub chain : IsChain (length spans_of) (stride (length spans_of) s.watch) sets
    pub lines : (w place : ℕ) (f : FilledLoop) (ls : List PartialLine) → slice_get s.loops l ≡ Some f → slice_get (job_facts (session_job s l)).watched w ≡ Some place → slice_get f.partials w ≡ Some ls
        → ArePartialLines (job_facts (session_job s l)).facts place sets ls

  has_chain : (l : ℕ) → HasChain l
  has_chain l = by_loop (slice_get s.loops l) refl
    where
      default : ((w place : ℕ) (f : FilledLoop) (ls : List PartialLine) → slice_get s.loops l ≡ Some f → slice_get (job_facts (session_job s l)).watched w ≡ Some place → slice_get f.partials w ≡ Some ls
          → ArePartialLines (job_facts (session_job s l)).facts place (first_sets (length spans_of) (stride (length spans_of) s.watch)) ls) → HasChain l
      default h = record { sets = first_sets (length spans_of) (stride (length spans_of) s.watch); chain = first_sets_are_a_chain (length spans_of) (stride (length spans_of) s.watch); lines = h }

      by_count : (f : FilledLoop) → slice_get s.loops l ≡ Some f → (n : ℕ) → length (job_facts (session_job s l)).watched ≡ n → HasChain l
      by_count f at zero e = default (λ w place g ls there its_place its_lines. (let within = slice_get_within (job_facts (session_job s l)).watched w place its_place in absurd (omega (arith, within, e))))
      by_count f at (suc n) e =
          let filled = is.filled l f at in
          record {
            sets = filled.partials.over.are.sets;
            chain = filled.partials.over.are.chain (omega (arith, e));
            lines = λ w place g ls there its_place its_lines. filled.partials.over.are.each w place ls its_place (ap (λ (x : FilledLoop). slice_get x.partials w) (same_some (sym at ∙ there)) ∙ its_lines);
          }

      by_loop : (o : Option FilledLoop) → slice_get s.loops l ≡ o → HasChain l
      by_loop None e = default (λ w place f ls there its_place its_lines. absurd (cc (e, there)))
      by_loop (Some f) e = by_count f e (length (job_facts (session_job s l)).watched) refl

  course_of : Course
  course_of = record { spans = spans_of; chains = λ l. (has_chain l).sets }

  course_fits : FitsCourse s course_of
  unfolding course_of
  course_fits = record { spans = refl; lines = λ l w place f ls at its_place its_lines. (has_chain l).lines w place f ls at its_place its_lines }

  course_is : IsCourse (history s.graph.script) (length s.dataset.rows) s.cuts.size s.cuts.marks s.watch course_of
  unfolding course_of
  course_is = record { spans = ap (λ (n : ℕ). cut n s.cuts.size s.cuts.marks) is.cuts; chains = λ l results at watched. (has_chain l).chain }

-- ---- so far

-- what is printed in front of what the Prints from the n-th on give is all
abbrev pub IsSoFar : SessionView → SessionView → List ℕ → ℕ → Type 0
IsSoFar s0 s text n =
    (course : Course) → FitsCourse s course
    → in_front_of text (printed (history s0.graph.script) s0.dataset course (drop n (accesses (history s0.graph.script)))) ≡ printed (history s0.graph.script) s0.dataset course (accesses (history s0.graph.script))

module _ (s0 old : SessionView) (parts : HasSameParts s0 old) (n : ℕ) (before after : List ℕ) (so_far : IsSoFar s0 old before n) where
  gives : Course → GraphView → Dataset → Access → Printed → Printed
  gives course g d a rest = access_printed (history g.script) d course a (first_fault d (access_passes (history g.script) d course a)) rest

  -- of the script and table of the first session
  of_first : (course : Course) (a : Access) (rest : Printed) → in_front_of before (gives course s0.graph s0.dataset a rest) ≡ in_front_of before (print_gives old course a rest)
  unfolding gives
  of_first course a rest = ap₂ (λ (g : GraphView) (d : Dataset). in_front_of before (gives course g d a rest)) (sym parts.graph) (sym parts.dataset)

  its_access : (a : Access) → slice_get (accesses (history s0.graph.script)) n ≡ Some a → slice_get (accesses (history old.graph.script)) n ≡ Some a
  its_access a at = ap (λ (g : GraphView). slice_get (accesses (history g.script)) n) parts.graph ∙ at

  split : (course : Course) → FitsCourse old course → (a : Access) → slice_get (accesses (history s0.graph.script)) n ≡ Some a
      → in_front_of before (gives course s0.graph s0.dataset a (printed (history s0.graph.script) s0.dataset course (drop (n + 1) (accesses (history s0.graph.script))))) ≡ printed (history s0.graph.script) s0.dataset course (accesses (history s0.graph.script))
  unfolding gives
  split course fits a at = ap (λ (l : List Access). in_front_of before (printed (history s0.graph.script) s0.dataset course l)) (sym (one_left (accesses (history s0.graph.script)) n a at)) ∙ so_far course fits

  pub further : (new : SessionView) → HasSameParts old new → n < length (accesses (history s0.graph.script)) → GoesOn old new before after n → IsSoFar s0 new after (n + 1)
  further new parts_new lt on course fits =
      let a = something_at (accesses (history s0.graph.script)) n lt in
      let rest = printed (history s0.graph.script) s0.dataset course (drop (n + 1) (accesses (history s0.graph.script))) in
      sym (on.lines course a.0 rest fits (its_access a.0 a.1)) ∙ sym (of_first course a.0 rest)
      ∙ split course (grind (arith, same_view old new parts_new, on.stays, fits)) a.0 a.1

  pub ended : n < length (accesses (history s0.graph.script)) → EndsAt old before after n → (course : Course) → FitsCourse old course
      → ◌≡◌ {A = Printed} (record { bytes = after; status = 8 }) (printed (history s0.graph.script) s0.dataset course (accesses (history s0.graph.script)))
  ended lt end course fits =
      let a = something_at (accesses (history s0.graph.script)) n lt in
      let rest = printed (history s0.graph.script) s0.dataset course (drop (n + 1) (accesses (history s0.graph.script))) in
      sym (end.lines course a.0 rest (its_access a.0 a.1)) ∙ sym (of_first course a.0 rest) ∙ split course fits a.0 a.1

-- ---- the whole text

module _ (s0 s : SessionView) (is : IsSession s) (parts : HasSameParts s0 s) where
  is_course : IsCourse (history s0.graph.script) (length s0.dataset.rows) s0.cuts.size s0.cuts.marks s0.watch (course_of s is)
  is_course = grind (arith, course_of, course_is)

  pub whole : (text : List ℕ) (faulted : Bool) (status : ℕ) → (if faulted then 8 else 0) ≡ status
      → ((course : Course) → FitsCourse s course → ◌≡◌ {A = Printed} (record { bytes = text; status = status }) (printed (history s0.graph.script) s0.dataset course (accesses (history s0.graph.script))))
      → IsTranscript s0.graph.script s0.dataset s0.cuts s0.watch (record { text = text; faulted = faulted })
  whole text faulted status e h = grind (arith, course_of, course_fits, is_course)

  pub done : (text : List ℕ) (n : ℕ) → length (accesses (history s0.graph.script)) ≤ n → IsSoFar s0 s text n → IsTranscript s0.graph.script s0.dataset s0.cuts s0.watch (record { text = text; faulted = false })
  done text n le so_far = whole text false 0 refl
      (λ course fits. ap (λ (b : List ℕ). record { bytes = b; status = 0 }) (sym (append-nil text)) ∙ ap (λ (l : List Access). in_front_of text (printed (history s0.graph.script) s0.dataset course l)) (sym (drop_all n (accesses (history s0.graph.script)) le)) ∙ so_far course fits)

-- how many Prints there are
pub prints_are : (g other : GraphView) (n : ℕ) → other ≡ g → n ≡ length (graph_prints other) → n ≡ length (accesses (history g.script))
prints_are g other n same_graph e = grind (arith, length-map)

-- ---- the completed loop that fills a result, and what a session is after an access: loops by their numbers

module _ (s : SessionView) (is : IsSession s) where
  pub loop_there : (l : ℕ) → l < length s.loops → l < length (graph_loops s.graph)
  loop_there l lt = let few = is.few in let same_length = many (history s.graph.script) (history s.graph.script) itself in omega (arith, lt, few, same_length)

  -- ---- watched results

  -- the place of a result that is noted, among the watched ones
  pub noted_at : (b : Booked) (ps : List Pass) (place : PassSpan) → IsPlaced (history s.graph.script) ps b place
      → ((n : ℕ) → place_if_watched (history s.graph.script) n (record { result = b; under = None }) ≡ n ∷ []) → slice_get (watched_places (history s.graph.script) ps) place.watched ≡ Some place.first
  noted_at b ps place h noted =
      let script = history s.graph.script in
      let n = length (kinds_in h.before) in
      let zero_more : 0 + n ≡ n = omega arith in
      let more : place.watched ≡ length (watched_places script h.before) + 0 = (let w = h.watched in omega (arith, w)) in
      ap (λ (l : List Pass). slice_get (watched_places script l) place.watched) h.passes_are
      ∙ ap (λ (l : List ℕ). slice_get l place.watched) (watched-append script 0 h.before (passes_of script b ++ h.after))
      ∙ next_at (watched_places script h.before) (watched_from script (0 + n) (passes_of script b ++ h.after)) 0 place.watched more
      ∙ ap (λ (m : ℕ). slice_get (watched_from script m (passes_of script b ++ h.after)) 0) zero_more
      ∙ first_one n
      ∙ ap (λ (m : ℕ). Some m) (sym h.first)
    where
      rest_of : List Pass → List Pass
      rest_of [] = []
      rest_of (p ∷ qs) = qs

      first_one : (n : ℕ) → slice_get (watched_from (history s.graph.script) n (passes_of (history s.graph.script) b ++ h.after)) 0 ≡ Some n
      first_one n = ap (λ (l : List ℕ). slice_get (l ++ watched_from (history s.graph.script) (n + length (kind_in b.booking)) (rest_of (passes_of (history s.graph.script) b ++ h.after))) 0) (noted n)

-- ---- by the result's number

module _ (s : SessionView) (is : IsSession s) (r : ℕ) (lt : r < length (graph_results s.graph)) (l : ℕ) (filled : (x : ResultAt) → slice_get (graph_results s.graph) r ≡ Some x → IsFilledIn s x.booked.name l) where
  row : (x : ResultAt) × (slice_get (graph_results s.graph) r ≡ Some x)
  row = something_at (graph_results s.graph) r lt

  pub completed_at : l < length s.loops
  completed_at = (filled row.0 row.1).1

  -- the loop fills it
  pub fills_it : (x : ResultAt) × (results : List Booked) × (slice_get (graph_results s.graph) r ≡ Some x) × (slice_get (loop_results (history s.graph.script)) l ≡ Some results) × (fills x.booked.name results ≡ true)
  fills_it = let p = place_at (fills row.0.booked.name) (loop_results (history s.graph.script)) l (filled row.0 row.1).0 in (row.0, p.0, row.1, p.1, p.2)

  module _ (place : PassSpan) (told : (x : ResultAt) (results : List Booked) → slice_get (graph_results s.graph) r ≡ Some x → slice_get (loop_results (history s.graph.script)) l ≡ Some results → IsPlaced (history s.graph.script) (loop_passes (history s.graph.script) results) x.booked place) where
    pub placed_at : (x : ResultAt) → slice_get (graph_results s.graph) r ≡ Some x → IsPlaced (history s.graph.script) (passes_in (session_job s l)) x.booked place
    placed_at x at = let there = fills_it.3 in subst (λ (ps : List Pass). IsPlaced (history s.graph.script) ps x.booked place) (sym (ap (λ (o : Option (List Booked)). loop_passes (history s.graph.script) (unwrap_or o [])) there)) (told x fills_it.1 at there)

    pub lines_there : ((x : ResultAt) (n : ℕ) → slice_get (graph_results s.graph) r ≡ Some x → place_if_watched (history s.graph.script) n (record { result = x.booked; under = None }) ≡ n ∷ []) → (f : FilledLoop) → slice_get s.loops l ≡ Some f → place.watched < length f.partials
    lines_there noted f at =
        let passes = passes_in (session_job s l) in
        let many_lines = (is.filled l f at).partials.over.are.many in
        let within = slice_get_within (watched_places (history s.graph.script) passes) place.watched place.first (noted_at s is row.0.booked passes place (placed_at row.0 row.1) (λ n. noted row.0 n row.1)) in
        omega (arith, many_lines, within)

-- ---- faults

no_pass_no_fault : (d : Dataset) (e : ℕ) (rows : List _) → first_fault_from d e rows [] ≡ None
no_pass_no_fault d e [] = refl
no_pass_no_fault d e (r ∷ rows) = no_pass_no_fault d (e + 1) rows

pub job_fault : (s : SessionView) → IsSession s → (l : ℕ) → first_in (job_facts (session_job s l)).faults ≡ first_fault s.dataset (passes_in (session_job s l))
job_fault s is l = grind (arith, cuts_lead, first_cluster_has_first_fault)

-- ---- one access more

-- an access runs one loop or none
run_more : (script : List Statement) (p : ℕ) (a : Access) → slice_get (accesses script) p ≡ Some a → loops_before script (p + 1) ≡ loops_before script p + length (cons_option a.fills [])
run_more script p a at =
    ap (λ (l : List Access). length (filter_map (λ (x : Access). x.fills) l)) (take_next (accesses script) p a at)
    ∙ ap (λ (l : List (List Booked)). length l) (filter_map-append (λ (x : Access). x.fills) (take p (accesses script)) (a ∷ []))
    ∙ length-append (filter_map (λ (x : Access). x.fills) (take p (accesses script))) (filter_map (λ (x : Access). x.fills) (a ∷ []))

pub none_more : (script : List Statement) (p : ℕ) (a : Access) → slice_get (accesses script) p ≡ Some a → a.fills ≡ None → loops_before script (p + 1) ≡ loops_before script p
none_more script p a at none = omega (arith, run_more script p a at, ap (λ (o : Option (List Booked)). length (cons_option o [])) none)

pub one_loop_more : (script : List Statement) (p : ℕ) (a : Access) (results : List Booked) → slice_get (accesses script) p ≡ Some a → a.fills ≡ Some results → loops_before script (p + 1) ≡ loops_before script p + 1
one_loop_more script p a results at some = omega (arith, run_more script p a at, ap (λ (o : Option (List Booked)). length (cons_option o [])) some)

-- the parts stay
changed : (s : SessionView) (n : ℕ) (loops : List FilledLoop) (fault : Option FaultyLoop) → IsSession s → ((l : ℕ) (f : FilledLoop) → slice_get loops l ≡ Some f → IsFilled (job_facts (session_job s l)) s.watch f)
    → length loops ≤ length (loop_results (history s.graph.script)) → (fault ≡ None → length loops ≡ loops_before (history s.graph.script) n) → IfSome fault (IsKept (record s { next = n; loops = loops; fault = fault }))
    → IsSession (record s { next = n; loops = loops; fault = fault })
changed s n loops fault is filled few turn kept = record {
  graph = is.graph;
  booked = is.booked;
  table = is.table;
  cuts = is.cuts;
  words = is.words;
  slots = is.slots;
  watch = is.watch;
  filled = filled;
  few = few;
  turn = turn;
  kept = kept;
}

-- ---- a Print, by what the graph tells of it

accesses_few : (before : List Statement) → length (accesses before) ≤ length before
accesses_few [] = omega arith
accesses_few (Print result ∷ before) = let rest = accesses_few before in let both = length-append (accesses before) (record { result = result; fills = filled_by before result } ∷ []) in omega (arith, rest, both)
accesses_few (s ∷ before) = let rest = accesses_few before in omega (arith, rest)

pub print_few : (s : SessionView) → IsSession s → (print : ℕ) → print < length (accesses (history s.graph.script)) → print < 256
print_few s is print lt = grind (arith, accesses_few, lines_few)

module _ (s : SessionView) (is : IsSession s) (print : ℕ) (next : print ≡ s.next) (l : ℕ)
    (told : option_map (λ (a : Access). loop_of (history s.graph.script) a.result) (slice_get (accesses (history s.graph.script)) print) ≡ Some l) where
  its : (a : Access) × (slice_get (accesses (history s.graph.script)) print ≡ Some a) × (loop_of (history s.graph.script) a.result ≡ l)
  its = grind (arith, told, same_some)

  abbrev a : Access
  a = its.0

  at : slice_get (accesses (history s.graph.script)) print ≡ Some a
  at = its.1

  same_access : (b : Access) → slice_get (accesses (history s.graph.script)) print ≡ Some b → a ≡ b
  same_access b there = same_some (sym at ∙ there)

  turn : ComesInTurn (history s.graph.script) print a
  turn = loops_come_in_turn s.graph.names s.graph.header s.graph.script print a is.booked.accepted at

  found_is : loop_filling (history s.graph.script) a.result ≡ Some l
  found_is =
      let filler = printed_has_loop (history s.graph.script) (in_turn s.graph is.booked) print a at in
      filler.1 ∙ ap (λ (n : ℕ). Some n) (sym (ap (λ (o : Option ℕ). unwrap_or o 0) filler.1) ∙ its.2)

  loops_are : s.fault ≡ None → length s.loops ≡ loops_before (history s.graph.script) print
  loops_are sound = is.turn sound ∙ ap (loops_before (history s.graph.script)) (sym next)

  -- the result was filled before
  no_loop : l < length s.loops → s.fault ≡ None → a.fills ≡ None
  no_loop lt sound = go a.fills refl
    where
      go : (o : Option (List Booked)) → a.fills ≡ o → o ≡ None
      go None e = refl
      go (Some results) e = let own = (turn.next results e).0 in let so_far = loops_are sound in absurd (omega (arith, its.2, own, so_far, lt))

  pub after_old : l < length s.loops → IsSession (record s { next = print + 1 })
  after_old lt = changed s (print + 1) s.loops s.fault is is.filled is.few
      (λ sound. loops_are sound ∙ sym (none_more (history s.graph.script) print a at (no_loop lt sound)))
      (IfSome_then s.fault is.kept (λ (k : FaultyLoop) h. record { number = h.number; there = h.there; first = h.first }))

  pub accessed_old : (m : ℕ) → l ≡ m → l < length s.loops → IsAccessed s (record s { next = print + 1 }) print m
  accessed_old m same_loop lt = grind (arith, same_access, found_is, no_loop, no_pass_no_fault)

  -- the loop is run
  record IsNext : Type 0 where
    pub results : List Booked
    pub fills : a.fills ≡ Some results
    pub number : l ≡ length s.loops
    pub its_results : slice_get (loop_results (history s.graph.script)) l ≡ Some results

  unfilled : length s.loops ≤ l → (b : Access) → slice_get (accesses (history s.graph.script)) print ≡ Some b → IsUnfilled s b.result
  unfilled ge b there = grind (arith, same_some, found_is, same_access)

  module _ (ge : length s.loops ≤ l) (sound : s.fault ≡ None) where
    next_loop : IsNext
    next_loop = go a.fills refl
      where
        go : (o : Option (List Booked)) → a.fills ≡ o → IsNext
        go None e = let own = turn.filled_before e in let so_far = loops_are sound in absurd (omega (arith, its.2, own, so_far, ge))
        go (Some results) e =
            let own = turn.next results e in
            let same_number : loops_before (history s.graph.script) print ≡ l = sym own.0 ∙ its.2 in
            record { results = results; fills = e; number = sym (loops_are sound ∙ same_number); its_results = ap (slice_get (loop_results (history s.graph.script))) (sym same_number) ∙ own.1 }

    -- its passes are those that the Print runs
    passes_are : passes_in (session_job s l) ≡ passes_run (history s.graph.script) a
    passes_are = ap (λ (o : Option (List Booked)). loop_passes (history s.graph.script) (unwrap_or o [])) (next_loop.its_results ∙ sym next_loop.fills)

    pub loop_within : l < length (loop_results (history s.graph.script))
    loop_within = slice_get_within (loop_results (history s.graph.script)) l next_loop.results next_loop.its_results

    module _ (f : FilledLoop) (loops : List FilledLoop) (joined : loops ≡ s.loops ++ f ∷ []) (filled : IsFilled (job_facts (session_job s l)) s.watch f) where
      many_more : length loops ≡ length s.loops + 1
      many_more = ap (λ (x : List FilledLoop). length x) joined ∙ length-append s.loops (f ∷ [])

      pub after_filled : IsSession (record s { next = print + 1; loops = loops })
      after_filled =
          changed s (print + 1) loops s.fault is
          (λ m g there. each m g (before_or_last s.loops f m g (ap (λ (x : List FilledLoop). slice_get x m) (sym joined) ∙ there))) (omega (arith, many_more, next_loop.number, loop_within))
          (λ e. many_more ∙ ap (λ (m : ℕ). m + 1) (loops_are sound) ∙ sym (one_loop_more (history s.graph.script) print a next_loop.results at next_loop.fills))
          (subst (λ (o : Option FaultyLoop). IfSome o (IsKept (record s { next = print + 1; loops = loops }))) (sym sound) tt)
        where
          each : (m : ℕ) (g : FilledLoop) → (slice_get s.loops m ≡ Some g) ⊎ ((m ≡ length s.loops) × (f ≡ g)) → IsFilled (job_facts (session_job s m)) s.watch g
          each m g (inl q) = is.filled m g q
          each m g (inr q) = subst (λ (x : FilledLoop). IsFilled (job_facts (session_job s m)) s.watch x) q.1
              (subst (λ (k : ℕ). IsFilled (job_facts (session_job s k)) s.watch f) (next_loop.number ∙ sym q.0) filled)

      pub accessed_filled : (m : ℕ) → l ≡ m → IsAccessed s (record s { next = print + 1; loops = loops }) print m
      accessed_filled m same_loop =
          record {
            next = ap (λ (m : ℕ). m + 1) next;
            fault = refl;
            stays = λ k g there. ap (λ (x : List FilledLoop). slice_get x k) joined ∙ kept_at s.loops (f ∷ []) k g there;
            filled = λ b there. subst (λ (x : Access). IsFilledIn (record s { next = print + 1; loops = loops }) x.result m) (same_access b there) (found_is ∙ ap (λ (n : ℕ). Some n) same_loop, omega (arith, next_loop.number, many_more));
            again = λ b k there h. (let le = unfilled ge b there k h.0 in let lt = h.1 in absurd (omega arith));
            sound = λ b there h. subst (λ (x : Access). first_fault s.dataset (passes_run (history s.graph.script) x) ≡ None) (same_access b there)
                (ap (first_fault s.dataset) (sym passes_are) ∙ sym (job_fault s is l) ∙ filled.sound);
          }

    module _ (f : Fault) (first : first_in (job_facts (session_job s l)).faults ≡ Some f) where
      pub after_faulted : IsSession (record s { next = print + 1; fault = Some (record { loop_index = l; fault = f }) })
      after_faulted = changed s (print + 1) s.loops (Some (record { loop_index = l; fault = f })) is is.filled is.few (λ e. absurd (cc))
          (record { number = next_loop.number; there = loop_within; first = sym (job_fault s is l) ∙ first })

      pub faulted_new : (k : FaultyLoop) → record { loop_index = l; fault = f } ≡ k → IsFaulted s (record s { next = print + 1; fault = Some (record { loop_index = l; fault = f }) }) print k
      faulted_new k same_fault = record {
        next = ap (λ (m : ℕ). m + 1) next;
        loops = refl;
        fault = ap (λ (j : FaultyLoop). Some j) same_fault;
        kept = λ j e. absurd (cc);
        unfilled = unfilled ge;
        ran = λ b there h. ap (λ (j : FaultyLoop). slice_get (loop_results (history s.graph.script)) j.loop_index) (sym same_fault) ∙ next_loop.its_results ∙ sym next_loop.fills ∙ ap (λ (x : Access). x.fills) (same_access b there);
      }
