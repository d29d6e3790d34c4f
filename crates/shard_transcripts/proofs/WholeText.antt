-- What the loops of one run over all clusters print.
use Rattle.lemmas.proofs.{◌≡◌, ◌⊎◌, ℕ, zero, suc, ◌+◌, ◌-◌, ◌<◌, List, [], ◌∷◌, length, map, drop, Option, None, Some, refl, sym, ap, ap₂, ◌∙◌, subst, arith, ⊎_elim, option_map, slice_get, unwrap_or, lt_or_last, same_Some, slice_get-map, slice_get_within, something_at}
use Rattle.rdf_values.specs.{below, Booked, bookings, Fault, first_in, fn_names, history, Lead, Pass, results_named, Script, Span, Statement, Value}
use Rattle.rdf_model.specs.{Access, access_passes, access_printed, accesses, ComesInTurn, Course, Dataset, fault_line, first_fault, first_fault_from, in_front_of, loop_of, loop_passes, loop_results, loops_before, named_lines, over_clusters, Printed, printed, transcript}
use Rattle.rdf_model.proofs.Accepted.{loops_come_in_turn}
use Rattle.graph_numbers.specs.{graph_of, GraphView, IsGraph, loops}
use Rattle.graph_numbers.proofs.Placing.{itself}
use Rattle.loop_pieces.specs.{cluster_fault}
use Rattle.loop_pieces.proofs.ByCluster.{first_cluster_has_first_fault, all_clusters_are_the_table}
use Rattle.event_loop.specs.{fills}
use Rattle.event_loop.proofs.Courses.{none_more, one_loop_more}
use Rattle.event_loop.proofs.Found.{loop_at, many, in_turn, printed_has_loop}
use Rattle.graph.proofs.Listing.{place_at}
use Rattle.shard_lines.specs.{ShardLine}
use Rattle.shard_files.specs.{fault_or_lines, ShardLoop, up_to_fault}
use Rattle.shard_files.specs.declared.shard_loop.ShardLoop.TheVariants.{Whole, Faulted}
use Rattle.shard_spans.specs.{clusters_from, clusters_in, loops_of, over_span, pass_line, span_fault, span_loop, span_loops}
use Rattle.shard_spans.proofs.Shards.{shards_join_to_one_run}
use Rattle.shard_spans.proofs.SpanFaults.{first_faulty_cluster_has_the_fault}
use Rattle.result_text.specs.{passes_at}
use Rattle.merged_text.specs.{lines_of_result, loop_printed, merged_text, prints_text}
use Rattle.merged_text.specs.MergedPrints as merged
use Rattle.merged_text.proofs.SamePasses.{lines_print_their_passes}
use Rattle.shard_transcripts.specs.{MergedRunPrintsNoPartials, MergedRunPrintsTheTranscript, ShardsMergeToTheTranscript}
use Rattle.shard_transcripts.proofs.NamedResults.{PrintsNoPartials, named_are, same_results, unnoted_print_none, unwatched_print_none}

-- ---- the span of all clusters is the table

from_zero : (cs : List ℕ) → map (λ c. 0 + c) cs ≡ cs
from_zero [] = refl
from_zero (c ∷ cs) = let same : 0 + c ≡ c = omega arith in ap₂ (λ (x : ℕ) xs. x ∷ xs) same (from_zero cs)

all_clusters : (n : ℕ) → clusters_in 0 n ≡ below n
all_clusters n = (let same : n - 0 ≡ n = omega arith in ap (clusters_from 0) same) ∙ from_zero (below n)

module _ (d : Dataset) (spans : List Span) (leads : Lead 0 (length d.rows) spans) where
  whole_table : over_span spans d 0 (length spans) ≡ d
  whole_table = ap (over_clusters spans d) (all_clusters (length spans)) ∙ all_clusters_are_the_table d spans leads

  whole_fault : (ps : List Pass) → span_fault spans d ps 0 (length spans) ≡ first_fault d ps
  whole_fault ps =
      sym (first_faulty_cluster_has_the_fault d spans ps 0 (length spans) leads (omega arith) (omega arith)) ∙ ap (λ l. first_in (map (cluster_fault d spans ps) l)) (all_clusters (length spans))
      ∙ first_cluster_has_first_fault d spans ps leads

  -- what a loop comes to
  abbrev whole_loop : List Pass → ShardLoop
  whole_loop ps = fault_or_lines (first_fault d ps) (map (pass_line d) ps)

  pub loop_is : (ps : List Pass) → span_loop spans d 0 (length spans) ps ≡ whole_loop ps
  loop_is ps = ap₂ (λ o e. fault_or_lines o (map (pass_line e) ps)) (whole_fault ps) whole_table

  abbrev all_loops : List (List Pass) → List ShardLoop
  all_loops L = span_loops spans d 0 (length spans) L

  -- the loops before have no fault
  abbrev AreSound : ℕ → List (List Pass) → Type 0
  AreSound n L = (i : ℕ) (ps : List Pass) → i < n → slice_get L i ≡ Some ps → first_fault d ps ≡ None

  front : (x : ShardLoop) (xs : List ShardLoop) → slice_get (up_to_fault x xs) 0 ≡ Some x
  front (Whole ls) xs = refl
  front (Faulted f) xs = refl

  behind : (o : Option Fault) (lines : List ShardLine) (xs : List ShardLoop) (n : ℕ) → o ≡ None → slice_get (up_to_fault (fault_or_lines o lines) xs) (suc n) ≡ slice_get xs n
  behind o lines xs n none = ap (λ p. slice_get (up_to_fault (fault_or_lines p lines) xs) (suc n)) none

  loop_there : (L : List (List Pass)) (l : ℕ) (ps : List Pass) → slice_get L l ≡ Some ps → AreSound l L → slice_get (all_loops L) l ≡ Some (whole_loop ps)
  loop_there [] l ps at sound = absurd (cc)
  loop_there (qs ∷ L) zero ps at sound = front (span_loop spans d 0 (length spans) qs) (all_loops L) ∙ ap (λ x. Some x) (loop_is qs ∙ ap whole_loop (same_Some qs ps at))
  loop_there (qs ∷ L) (suc l) ps at sound =
      behind (span_fault spans d qs 0 (length spans)) (map (pass_line (over_span spans d 0 (length spans))) qs) (all_loops L) l (whole_fault qs ∙ sound 0 qs (omega arith) refl)
      ∙ loop_there L l ps at (λ i rs lt there. sound (suc i) rs (omega arith) there)

-- ---- the Prints

no_passes : (d : Dataset) (e : ℕ) (rows : List (List Value)) → first_fault_from d e rows [] ≡ None
no_passes d e [] = refl
no_passes d e (row ∷ rows) = no_passes d (e + 1) rows

head_at : {A : Type 0} (xs : List A) (p : ℕ) (x : A) (rest : List A) → drop p xs ≡ x ∷ rest → (slice_get xs p ≡ Some x) × (drop (p + 1) xs ≡ rest)
head_at [] zero x rest h = absurd (cc)
head_at [] (suc p) x rest h = absurd (cc)
head_at {A} (y ∷ ys) zero x rest h = (ap first h, ap others h)
  where
    first : List A → Option A
    first [] = None
    first (z ∷ zs) = Some z

    others : List A → List A
    others [] = []
    others (z ∷ zs) = zs
head_at (y ∷ ys) (suc p) x rest h =
    let r = head_at ys p x rest h in
    (r.0, (let e : suc p + 1 ≡ suc (p + 1) = omega arith in ap (λ k. drop k (y ∷ ys)) e) ∙ r.1)

module _ (script : Script) (d : Dataset) (spans : List Span) (course : Course) (booked : IsGraph (graph_of script d)) (plainly : PrintsNoPartials (history script) d course)
    (leads : Lead 0 (length d.rows) spans) where
  abbrev h : List Statement
  h = history script

  abbrev g : GraphView
  g = graph_of script d

  abbrev L : List (List Pass)
  L = loops_of script

  abbrev W : List ShardLoop
  W = span_loops spans d 0 (length spans) L

  -- the loop that fills the result of a Print
  record IsFilling (a : Access) : Type 0 where
    results : List Booked
    there : slice_get (loop_results h) (loop_of h a.result) ≡ Some results
    named : results_named a.result results ≡ results_named a.result (bookings h)

  is_filling : (p : ℕ) (a : Access) → slice_get (accesses h) p ≡ Some a → IsFilling a
  is_filling p a at =
      let found = printed_has_loop h (in_turn g booked) p a at in
      let placed = place_at (fills a.result) (loop_results h) found.0 found.1 in
      let number : loop_of h a.result ≡ found.0 = ap (λ (o : Option ℕ). unwrap_or o 0) found.1 in
      let lt = slice_get_within (loop_results h) found.0 placed.0 placed.1 in
      let numbered = something_at (loops h h) found.0 (omega (arith, many h h itself)) in
      let one = loop_at h h itself found.0 numbered.0 placed.0 numbered.1 placed.1 in
      record {
        results = placed.0;
        there = ap (slice_get (loop_results h)) number ∙ placed.1;
        named = ap (results_named a.result) one.named ∙ same_results h (in_turn g booked) one.before one.begins a.result (sym (ap (fills a.result) one.named) ∙ placed.2);
      }

  passes_there : (a : Access) (f : IsFilling a) → slice_get L (loop_of h a.result) ≡ Some (loop_passes h f.results)
  passes_there a f = slice_get-map (loop_passes h) (loop_results h) (loop_of h a.result) ∙ ap (option_map (loop_passes h)) f.there

  passes_are : (a : Access) (f : IsFilling a) → passes_at g (loop_of h a.result) ≡ loop_passes h f.results
  passes_are a f = ap (λ (o : Option (List Booked)). loop_passes h (unwrap_or o [])) f.there

  -- a sound loop gives the lines of the result
  sound_gives : (a : Access) (f : IsFilling a) (rest : Printed) → AreSound d spans leads (loop_of h a.result) L → first_fault d (loop_passes h f.results) ≡ None → merged.access_printed g W a rest ≡ in_front_of (named_lines h d course a.result) rest
  sound_gives a f rest before none =
      ap (λ o. loop_printed (passes_at g (loop_of h a.result)) a.result o rest) (loop_there d spans leads L (loop_of h a.result) (loop_passes h f.results) (passes_there a f) before ∙ ap (λ o. Some (fault_or_lines o (map (pass_line d) (loop_passes h f.results)))) none)
      ∙ ap (λ ps. in_front_of (lines_of_result a.result ps (map (pass_line d) (loop_passes h f.results))) rest) (passes_are a f)
      ∙ ap (λ l. in_front_of l rest) (lines_print_their_passes d a.result (loop_passes h f.results) ∙ named_are h d a.result course plainly f.results f.named)

  -- a faulty loop gives its line
  fault_gives : (a : Access) (f : IsFilling a) (rest : Printed) (fault : Fault) → AreSound d spans leads (loop_of h a.result) L → first_fault d (loop_passes h f.results) ≡ Some fault
      → merged.access_printed g W a rest ≡ record { bytes = fault_line (loop_passes h f.results) fault; status = 8 }
  fault_gives a f rest fault before some =
      ap (λ o. loop_printed (passes_at g (loop_of h a.result)) a.result o rest) (loop_there d spans leads L (loop_of h a.result) (loop_passes h f.results) (passes_there a f) before ∙ ap (λ o. Some (fault_or_lines o (map (pass_line d) (loop_passes h f.results)))) some)
      ∙ ap (λ ps. record { bytes = fault_line ps fault; status = 8 }) (passes_are a f)

  abbrev SoundBefore : ℕ → Type 0
  SoundBefore p = AreSound d spans leads (loops_before h p) L

  prints_are : (rest : List Access) (p : ℕ) → drop p (accesses h) ≡ rest → SoundBefore p → prints_text g W rest ≡ printed h d course rest
  prints_are [] p left sound = refl
  prints_are (a ∷ rest) p left sound = by_fills a.fills refl (λ s. prints_are rest (p + 1) here.1 s)
    where
      here : (slice_get (accesses h) p ≡ Some a) × (drop (p + 1) (accesses h) ≡ rest)
      here = head_at (accesses h) p a rest left

      turn : ComesInTurn h p a
      turn = loops_come_in_turn (fn_names d.fns) d.columns script p a booked.accepted here.0

      f : IsFilling a
      f = is_filling p a here.0

      more : (l : ℕ) (ps : List Pass) → loop_of h a.result ≡ loops_before h p → first_fault d (loop_passes h f.results) ≡ None → l < loops_before h p + 1 → slice_get L l ≡ Some ps → first_fault d ps ≡ None
      more l ps number none lt at = ⊎_elim
          (λ (q : l < loops_before h p). sound l ps q at)
          (λ (q : l ≡ loops_before h p). ap (first_fault d) (same_Some ps (loop_passes h f.results) (sym at ∙ ap (slice_get L) (q ∙ sym number) ∙ passes_there a f)) ∙ none)
          (lt_or_last l (loops_before h p) lt)

      by_fault : (results : List Booked) → a.fills ≡ Some results → (o : Option Fault) → first_fault d (loop_passes h f.results) ≡ o → (SoundBefore (p + 1) → prints_text g W rest ≡ printed h d course rest)
          → merged.access_printed g W a (prints_text g W rest) ≡ access_printed h d course a (first_fault d (access_passes h d course a)) (printed h d course rest)
      by_fault results is (Some fault) q next =
          let next_loop = turn.next results is in
          let number : loop_of h a.result ≡ loops_before h p = next_loop.0 in
          let same_ones : f.results ≡ results = same_Some f.results results (sym f.there ∙ ap (slice_get (loop_results h)) number ∙ next_loop.1) in
          let passes : access_passes h d course a ≡ loop_passes h f.results = ap (λ (q : Option (List Booked)). loop_passes h (unwrap_or q [])) is ∙ sym (ap (loop_passes h) same_ones) in
          let before : AreSound d spans leads (loop_of h a.result) L = subst (λ n. AreSound d spans leads n L) (sym number) sound in
          fault_gives a f (prints_text g W rest) fault before q
          ∙ sym (ap (λ ps. access_printed h d course a (first_fault d ps) (printed h d course rest)) passes ∙ ap (λ x. access_printed h d course a x (printed h d course rest)) q
          ∙ ap (λ ps. record { bytes = fault_line ps fault; status = 8 }) passes)
      by_fault results is None q next =
          let next_loop = turn.next results is in
          let number : loop_of h a.result ≡ loops_before h p = next_loop.0 in
          let same_ones : f.results ≡ results = same_Some f.results results (sym f.there ∙ ap (slice_get (loop_results h)) number ∙ next_loop.1) in
          let passes : access_passes h d course a ≡ loop_passes h f.results = ap (λ (q : Option (List Booked)). loop_passes h (unwrap_or q [])) is ∙ sym (ap (loop_passes h) same_ones) in
          let before : AreSound d spans leads (loop_of h a.result) L = subst (λ n. AreSound d spans leads n L) (sym number) sound in
          sound_gives a f (prints_text g W rest) before q
          ∙ ap (in_front_of (named_lines h d course a.result)) (next (subst (λ n. AreSound d spans leads n L) (sym (one_loop_more h p a results here.0 is)) (λ l ps lt at. more l ps number q lt at)))
          ∙ sym (ap (λ ps. access_printed h d course a (first_fault d ps) (printed h d course rest)) passes ∙ ap (λ x. access_printed h d course a x (printed h d course rest)) q)

      by_fills : (o : Option (List Booked)) → a.fills ≡ o → (SoundBefore (p + 1) → prints_text g W rest ≡ printed h d course rest)
          → merged.access_printed g W a (prints_text g W rest) ≡ access_printed h d course a (first_fault d (access_passes h d course a)) (printed h d course rest)
      by_fills None none next =
          let lt = turn.filled_before none in
          let before : AreSound d spans leads (loop_of h a.result) L = λ i ps l at. sound i ps (omega arith) at in
          let no_fault : first_fault d (loop_passes h f.results) ≡ None = sound (loop_of h a.result) (loop_passes h f.results) lt (passes_there a f) in
          let passes : access_passes h d course a ≡ [] = ap (λ (q : Option (List Booked)). loop_passes h (unwrap_or q [])) none in
          sound_gives a f (prints_text g W rest) before no_fault
          ∙ ap (in_front_of (named_lines h d course a.result)) (next (subst (λ n. AreSound d spans leads n L) (sym (none_more h p a here.0 none)) sound))
          ∙ sym (ap (λ ps. access_printed h d course a (first_fault d ps) (printed h d course rest)) passes ∙ ap (λ x. access_printed h d course a x (printed h d course rest)) (no_passes d 0 d.rows))
      by_fills (Some results) is next = by_fault results is (first_fault d (loop_passes h f.results)) refl next

whole_text : (script : Script) (d : Dataset) (spans : List Span) (course : Course) → IsGraph (graph_of script d) → PrintsNoPartials (history script) d course → Lead 0 (length d.rows) spans
    → merged_text (graph_of script d) (span_loops spans d 0 (length spans) (loops_of script)) ≡ transcript script d course
whole_text script d spans course booked plainly leads =
    prints_are script d spans course booked plainly leads (accesses (history script)) 0 refl (λ i ps lt at. let none : loops_before (history script) 0 ≡ 0 = refl in absurd (omega arith))

pub merged_run_prints_the_transcript : MergedRunPrintsTheTranscript
merged_run_prints_the_transcript script d spans course booked unwatched leads = whole_text script d spans course booked (unwatched_print_none (history script) d course unwatched) leads

pub merged_run_prints_no_partials : MergedRunPrintsNoPartials
merged_run_prints_no_partials script d spans course booked unnoted leads = whole_text script d spans course booked (unnoted_print_none (history script) d course unnoted) leads

pub shards_merge_to_the_transcript : ShardsMergeToTheTranscript
shards_merge_to_the_transcript script d spans parts course column booked unwatched leads some within covered =
    ap (merged_text (graph_of script d)) (shards_join_to_one_run script d spans parts column leads some within covered) ∙ merged_run_prints_the_transcript script d spans course booked unwatched leads
