-- A pass of a job by its number: how many accumulators it has, and which filters it covers.
use Rattle.lemmas.proofs.{◌≡◌, ℕ, ◌+◌, List, [], ◌∷◌, ◌++◌, length, map, take, Some, refl, sym, ap, ◌∙◌, append-nil, length-append, option_map, slice_get, flat_map-append, map-append, same_Some, slice_get-map, take_next}
use Rattle.rdf_values.specs.{ActionAt, ActionKind, Booking, history, named_before, Pass, Path, ReportOn}
use Rattle.rdf_model.specs.{kind_in, kinds_in}
use Rattle.graph_numbers.specs.{FilterAt, graph_filters, graph_results, graph_under, GraphView, kind_of_booking, Pass as NumberedPass, ResultAt, ResultKind}
use Rattle.graph_numbers.proofs.Covering.{filters_are_the_scripts, reports_cover_filters}
use Rattle.loop_keys.specs.{job_graph, JobView, numbered_in, passes_in}
use Rattle.event_loop.proofs.Found.{its_pass, its_result, of_action, of_report, its_result_is}
use Rattle.shard_loop.proofs.PassLines.{AreNumbered}

kinds_next : (ps : List Pass) (n : ℕ) (p : Pass) → slice_get ps n ≡ Some p → kinds_in (take (n + 1) ps) ≡ kinds_in (take n ps) ++ kind_in p.result.booking
kinds_next ps n p here =
    ap kinds_in (take_next ps n p here) ∙ flat_map-append (λ (q : Pass). kind_in q.result.booking) (take n ps) (p ∷ [])
    ∙ ap (λ l. kinds_in (take n ps) ++ l) (append-nil (kind_in p.result.booking))

count_next : (ps : List Pass) (n : ℕ) (p : Pass) → slice_get ps n ≡ Some p → length (kinds_in (take (n + 1) ps)) ≡ length (kinds_in (take n ps)) + length (kind_in p.result.booking)
count_next ps n p here = ap (λ (l : List ActionKind). length l) (kinds_next ps n p here) ∙ length-append (kinds_in (take n ps)) (kind_in p.result.booking)

-- one more line
pub lines_next : {A : Type 0} (f : Pass → A) (ps : List Pass) (n : ℕ) (p : Pass) (lines more : List A) (line : A) → slice_get ps n ≡ Some p → lines ≡ map f (take n ps) → more ≡ lines ++ line ∷ [] → line ≡ f p
    → more ≡ map f (take (n + 1) ps)
lines_next f ps n p lines more line here before is same =
    is ∙ ap (λ l. l ++ line ∷ []) before ∙ ap (λ x. map f (take n ps) ++ x ∷ []) same ∙ sym (ap (map f) (take_next ps n p here) ∙ map-append f (take n ps) (p ∷ []))

report_on : (b : Booking) → kind_in b ≡ [] → (fs : List Path) × (b ≡ ReportOn fs)
report_on (ActionAt k at) h = absurd (cc)
report_on (ReportOn fs) h = (fs, refl)

module _ (j : JobView) (n : ℕ) (m : NumberedPass) (its : numbered_in j n ≡ Some m) (kind : ResultKind) (g : GraphView) (same : g ≡ job_graph j)
    (is : option_map (λ (x : ResultAt). kind_of_booking x.booked.booking) (slice_get (graph_results g) m.result) ≡ Some kind) where
  -- the pass of that number
  abbrev pub own : Pass
  own = record { result = (its_result j n m its).booked; under = graph_under (job_graph j) m.variation }

  pub own_is : slice_get (passes_in j) n ≡ Some own
  own_is = its_pass j n m its

  pub one_accumulator : (k : ActionKind) → kind ≡ ResultKind.Action k → length (kinds_in (take (n + 1) (passes_in j))) ≡ length (kinds_in (take n (passes_in j))) + 1
  one_accumulator k e =
      let b = of_action j n m its kind g same is k e in
      count_next (passes_in j) n own own_is ∙ ap (λ (x : Booking). length (kinds_in (take n (passes_in j))) + length (kind_in x)) b.1

  pub no_accumulator : kind ≡ ResultKind.Report → length (kinds_in (take (n + 1) (passes_in j))) ≡ length (kinds_in (take n (passes_in j))) + 0
  no_accumulator e = count_next (passes_in j) n own own_is ∙ ap (λ (l : List ActionKind). length (kinds_in (take n (passes_in j))) + length l) (of_report j n m its kind g same is e)

  -- the filters that a report covers
  pub record IsReport (covers : List ℕ) : Type 0 where
    pub filters : List Path
    pub booking : own.result.booking ≡ ReportOn filters
    pub numbered : AreNumbered (named_before (history j.script)) covers filters

  pub is_report : kind ≡ ResultKind.Report → (covers : List ℕ) → option_map (λ (x : ResultAt). x.covers) (slice_get (graph_results g) m.result) ≡ Some covers → IsReport covers
  is_report e covers at =
      let b = report_on own.result.booking (of_report j n m its kind g same is e) in
      let there = its_result_is j n m its in
      let mine : (its_result j n m its).covers ≡ covers = same_Some _ covers (sym (ap (option_map (λ (x : ResultAt). x.covers)) there) ∙ ap (λ (h : GraphView). option_map (λ (x : ResultAt). x.covers) (slice_get (graph_results h) m.result)) (sym same) ∙ at) in
      let by_number : (f : ℕ) → slice_get (named_before (history j.script)) f ≡ option_map (λ (x : FilterAt). x.at) (slice_get (graph_filters (job_graph j)) f)
      = λ f. ap (λ l. slice_get l f) (sym (filters_are_the_scripts (job_graph j))) ∙ slice_get-map (λ (x : FilterAt). x.at) (graph_filters (job_graph j)) f in
      record {
        filters = b.0;
        booking = b.1;
        numbered = ap (map (slice_get (named_before (history j.script)))) (sym mine) ∙ (λ i. map (λ f. by_number f i) (its_result j n m its).covers) ∙ reports_cover_filters j.script j.dataset m.result (its_result j n m its) b.0 there b.1;
      }
