-- What is printed without Watch lines.
use Rattle.std.proofs.Common.{◌≡◌, ℕ, Bool, true, false, List, [], ◌∷◌, ◌++◌, Option, None, Some, refl, sym, ap, ap₂, ◌∙◌, if◌then◌else◌, flat_map, unwrap_or}
use Rattle.rdf_values.specs.{ActionAt, Booked, Booking, bookings, Fault, history, is_watched, Pass, passes_of, ReportOn, results_named, Statement}
use Rattle.rdf_model.specs.{Access, access_printed, accesses, Course, Dataset, fault_line, first_fault, in_front_of, loop_of, loop_passes, named_lines, partial_line, partial_lines, partial_result, pass_lines, Printed, printed, result_lines}
use Rattle.unwatched_scripts.specs.{DroppedWatchesDropPartialLines}
use Rattle.unwatched_scripts.proofs.Dropping.{accesses_same, bookings_are, loop_passes_same, none_watched, others, passes_same, unwatched_history}

module _ (h : List Statement) (d : Dataset) (course unnoted : Course) (none : (l : ℕ) → unnoted.chains l ≡ []) where
  no_partials : (name : List ℕ) (b : Booking) → partial_lines h d unnoted name b ≡ []
  no_partials name (ActionAt k at) = ap (flat_map (λ set. partial_line name set (partial_result unnoted.spans d set k at))) (none (loop_of h name))
  no_partials name (ReportOn filters) = refl

  either : (b : Bool) → ◌≡◌ {A = List ℕ} (if b then [] else []) []
  either true = refl
  either false = refl

  lines_same : (b : Booked) → result_lines (others h) d course b ≡ result_lines h d unnoted b
  lines_same b =
      ap (λ (t : Bool). (if t then partial_lines (others h) d course b.name b.booking else []) ++ flat_map (pass_lines d) (passes_of (others h) b)) (none_watched h b.name)
      ∙ ap (λ (ps : List Pass). [] ++ flat_map (pass_lines d) ps) (passes_same h b)
      ∙ sym (ap (λ (l : List ℕ). (if is_watched h b.name then l else []) ++ flat_map (pass_lines d) (passes_of h b)) (no_partials b.name b.booking)
      ∙ ap (λ (l : List ℕ). l ++ flat_map (pass_lines d) (passes_of h b)) (either (is_watched h b.name)))

  all_lines_same : (bs : List Booked) → flat_map (result_lines (others h) d course) bs ≡ flat_map (result_lines h d unnoted) bs
  all_lines_same [] = refl
  all_lines_same (b ∷ bs) = ap₂ (λ (x y : List ℕ). x ++ y) (lines_same b) (all_lines_same bs)

  named_lines_same : (name : List ℕ) → named_lines (others h) d course name ≡ named_lines h d unnoted name
  named_lines_same name = ap (λ (bs : List Booked). flat_map (result_lines (others h) d course) (results_named name bs)) (bookings_are h) ∙ all_lines_same (results_named name (bookings h))

  -- what a Print gives, by the passes of its loop and the lines of its result
  one_same : (a : Access) (o : Option Fault) (p : Printed) → access_printed (others h) d course a o p ≡ access_printed h d unnoted a o p
  one_same a (Some f) p = ap (λ (ps : List Pass). record { bytes = fault_line ps f; status = 8 }) (loop_passes_same h (unwrap_or a.fills []))
  one_same a None p = ap (λ (l : List ℕ). in_front_of l p) (named_lines_same a.result)

  printed_same : (prints : List Access) → printed (others h) d course prints ≡ printed h d unnoted prints
  printed_same [] = refl
  printed_same (a ∷ rest) =
      ap (λ (ps : List Pass). access_printed (others h) d course a (first_fault d ps) (printed (others h) d course rest)) (loop_passes_same h (unwrap_or a.fills []))
      ∙ one_same a (first_fault d (loop_passes h (unwrap_or a.fills []))) (printed (others h) d course rest)
      ∙ ap (access_printed h d unnoted a (first_fault d (loop_passes h (unwrap_or a.fills [])))) (printed_same rest)

pub dropped_watches_drop_partial_lines : DroppedWatchesDropPartialLines
dropped_watches_drop_partial_lines script d course unnoted none =
    ap (λ h. printed h d course (accesses h)) (unwatched_history script)
    ∙ ap (printed (others (history script)) d course) (accesses_same (history script)) ∙ printed_same (history script) d course unnoted none (accesses (history script))
