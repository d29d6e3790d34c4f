-- A pass of a graph's loop by its number, and its printed lines.
use Rattle.lemmas.proofs.{◌≡◌, ℕ, List, [], ◌∷◌, ◌++◌, length, map, Option, None, Some, refl, sym, ap, ap₂, ◌∙◌, subst, codes, option_map, slice_get, unwrap_or, length-map, same_Some, slice_get-map}
use Rattle.rdf_values.specs.{ActionAt, ActionKind, Booked, Booking, bookings, fn_names, FnName, Function, FunctionNames, history, named_before, Pass, Path, ReportOn}
use Rattle.rdf_model.specs.{Dataset, filled_lines, flow_lines, label, loop_passes, loop_results}
use Rattle.graph_numbers.specs.{booked_statements, FilterAt, graph_filters, graph_loops, graph_of, graph_results, graph_variations, GraphView, kind_of_booking, Pass as NumberedPass, pass_at, ResultAt, ResultKind, under_at}
use Rattle.graph_numbers.proofs.Covering.{filters_are_the_scripts, reports_cover_filters, loops_are, booked_are}
use Rattle.graph_numbers.proofs.Placing.{itself}
use Rattle.result_text.specs.{passes_at, under_in, value_lines}
use Rattle.result_text.proofs.PassLines.{filled_is, IsPassAt}
use Rattle.shard_lines.specs.{counts_of, ShardLine}
use Rattle.merged_text.specs.{booking_text, filter_counts, line_filled, pass_text}
use Rattle.merged_text.proofs.Flows.{labels_with}

module _ (g : GraphView) where
  -- a loop has as many passes by numbers
  pub same_length : (l : ℕ) (ps : List NumberedPass) → slice_get (graph_loops g) l ≡ Some ps → length ps ≡ length (passes_at g l)
  same_length l ps loop = go (slice_get (loop_results (booked_statements g)) l) refl both
    where
      both : ◌≡◌ {A = Option (List (Option Pass))} (Some (map (pass_at (booked_statements g)) ps)) (option_map (λ results. map (λ (q : Pass). Some q) (loop_passes (booked_statements g) results)) (slice_get (loop_results (booked_statements g)) l))
      both =
          sym (ap (option_map (map (pass_at (booked_statements g)))) loop) ∙ sym (slice_get-map (map (pass_at (booked_statements g))) (graph_loops g) l)
          ∙ ap (λ ls. slice_get ls l) (loops_are (booked_statements g) (booked_statements g) itself)
          ∙ slice_get-map (λ results. map (λ (q : Pass). Some q) (loop_passes (booked_statements g) results)) (loop_results (booked_statements g)) l

      go : (o : Option (List Booked)) → slice_get (loop_results (booked_statements g)) l ≡ o
          → ◌≡◌ {A = Option (List (Option Pass))} (Some (map (pass_at (booked_statements g)) ps)) (option_map (λ results. map (λ (q : Pass). Some q) (loop_passes (booked_statements g) results)) o) → length ps ≡ length (passes_at g l)
      go None is e = absurd (cc)
      go (Some results) is e =
          sym (length-map ps (pass_at (booked_statements g))) ∙ ap (λ (x : List (Option Pass)). length x) (same_Some _ _ e) ∙ length-map (loop_passes (booked_statements g) results) (λ (q : Pass). Some q)
          ∙ ap (λ (r : Option (List Booked)). length (loop_passes (booked_statements g) (unwrap_or r []))) (sym is)

  -- what was booked under the number of a result
  booking_at : (r : ℕ) (b : Booked) → slice_get (bookings (booked_statements g)) r ≡ Some b → (x : ResultAt) × (slice_get (graph_results g) r ≡ Some x) × (x.booked ≡ b)
  booking_at r b its = go (slice_get (graph_results g) r) refl (sym (slice_get-map (λ (x : ResultAt). x.booked) (graph_results g) r) ∙ ap (λ (bs : List Booked). slice_get bs r) (booked_are g.header g.names (booked_statements g)) ∙ its)
    where
      go : (o : Option ResultAt) → slice_get (graph_results g) r ≡ o → option_map (λ (x : ResultAt). x.booked) o ≡ Some b → (x : ResultAt) × (slice_get (graph_results g) r ≡ Some x) × (x.booked ≡ b)
      go None is e = absurd (cc)
      go (Some x) is e = (x, is, same_Some x.booked b e)

  -- ---- functions of these names

  abbrev nameless : FnName → Function
  nameless n = record { name = n.name; arity = n.arity; answer = λ args. None }

  names_back : (ns : FunctionNames) → fn_names (map nameless ns) ≡ ns
  names_back [] = refl
  names_back (n ∷ ns) = ap (λ l. n ∷ l) (names_back ns)

  abbrev some_dataset : Dataset
  some_dataset = record { fns = map nameless g.names; columns = g.header; rows = [] }

  its_graph : graph_of g.script some_dataset ≡ g
  its_graph = λ i. record { script = g.script; header = g.header; names = names_back g.names i }

  covers_filters : (r : ℕ) (x : ResultAt) (paths : List Path) → slice_get (graph_results g) r ≡ Some x → x.booked.booking ≡ ReportOn paths
      → map (λ f. option_map (λ (y : FilterAt). y.at) (slice_get (graph_filters g) f)) x.covers ≡ map (λ p. Some p) paths
  covers_filters r x paths at report =
      subst (λ (h : GraphView). map (λ f. option_map (λ (y : FilterAt). y.at) (slice_get (graph_filters h) f)) x.covers ≡ map (λ p. Some p) paths) its_graph
      (reports_cover_filters g.script some_dataset r x paths (ap (λ (h : GraphView). slice_get (graph_results h) r) its_graph ∙ at) report)

  -- ---- the lines of a pass

  module _ (l n : ℕ) (p : NumberedPass) (its : IsPassAt g l n p) (q : Pass) (here : slice_get (passes_at g l) n ≡ Some q) where
    is_pass : record { result = its.booked; under = under_at (booked_statements g) p.variation } ≡ q
    is_pass = same_Some _ q (sym its.its_pass ∙ here)

    row : (x : ResultAt) × (slice_get (graph_results g) p.result ≡ Some x) × (x.booked ≡ its.booked)
    row = booking_at p.result its.booked its.its_result

    row_is : row.0.booked ≡ q.result
    row_is = row.2 ∙ ap (λ (y : Pass). y.result) is_pass

    pub name_of : (name : List ℕ) → option_map (λ (x : ResultAt). x.booked.name) (slice_get (graph_results g) p.result) ≡ Some name → name ≡ q.result.name
    name_of name named = sym (same_Some _ name (sym (ap (option_map (λ (x : ResultAt). x.booked.name)) row.1) ∙ named)) ∙ ap (λ (b : Booked). b.name) row_is

    under_is : under_in (graph_variations g) p.variation ≡ q.under
    under_is = by p.variation ∙ ap (λ (y : Pass). y.under) is_pass
      where
        by : (v : Option ℕ) → under_in (graph_variations g) v ≡ under_at (booked_statements g) v
        by None = refl
        by (Some v) = refl

    module _ (kind : ResultKind) (is : option_map (λ (x : ResultAt). kind_of_booking x.booked.booking) (slice_get (graph_results g) p.result) ≡ Some kind) where
      kind_is : kind_of_booking q.result.booking ≡ kind
      kind_is = sym (ap (λ (b : Booked). kind_of_booking b.booking) row_is) ∙ same_Some _ kind (sym (ap (option_map (λ (x : ResultAt). kind_of_booking x.booked.booking)) row.1) ∙ is)

      -- an action's label, and what it came to
      pub action_text : (k : ActionKind) (line : ShardLine) (name : List ℕ) → kind ≡ ResultKind.Action k → option_map (λ (x : ResultAt). x.booked.name) (slice_get (graph_results g) p.result) ≡ Some name
          → (label name (under_in (graph_variations g) p.variation) ++ codes " = ") ++ value_lines k (line_filled k line) ≡ pass_text q line
      action_text k line name e named =
          ap₂ (λ x u. (label x u ++ codes " = ") ++ value_lines k (line_filled k line)) (name_of name named) under_is ∙ go q.result.booking refl (kind_is ∙ e)
        where
          go : (b : Booking) → q.result.booking ≡ b → kind_of_booking b ≡ ResultKind.Action k → (label q.result.name q.under ++ codes " = ") ++ value_lines k (line_filled k line) ≡ pass_text q line
          go (ActionAt m at) of h =
              let same : m ≡ k = cc in
              sym (filled_is k (label q.result.name q.under) (line_filled k line)) ∙ ap (λ (x : ActionKind). filled_lines x (label q.result.name q.under) (line_filled x line)) (sym same)
              ∙ sym (ap (λ b. booking_text q.result.name q.under b line) of)
          go (ReportOn fs) of h = absurd (cc)

      -- a report's filters
      pub record IsReportOn (covers : List ℕ) : Type 0 where
        pub filters : List Path
        pub booking : q.result.booking ≡ ReportOn filters
        pub numbered : map (slice_get (named_before (history g.script))) covers ≡ map (λ p. Some p) filters

      pub report_on : (covers : List ℕ) → kind ≡ ResultKind.Report → option_map (λ (x : ResultAt). x.covers) (slice_get (graph_results g) p.result) ≡ Some covers → IsReportOn covers
      report_on covers e at = go q.result.booking refl (kind_is ∙ e)
        where
          mine : row.0.covers ≡ covers
          mine = same_Some _ covers (sym (ap (option_map (λ (x : ResultAt). x.covers)) row.1) ∙ at)

          by_number : (f : ℕ) → slice_get (named_before (history g.script)) f ≡ option_map (λ (x : FilterAt). x.at) (slice_get (graph_filters g) f)
          by_number f = ap (λ l. slice_get l f) (sym (filters_are_the_scripts g)) ∙ slice_get-map (λ (x : FilterAt). x.at) (graph_filters g) f

          go : (b : Booking) → q.result.booking ≡ b → kind_of_booking b ≡ ResultKind.Report → IsReportOn covers
          go (ActionAt m at) of h = absurd (cc)
          go (ReportOn fs) of h = record {
            filters = fs;
            booking = of;
            numbered = ap (map (slice_get (named_before (history g.script)))) (sym mine) ∙ (λ i. map (λ f. by_number f i) row.0.covers) ∙ covers_filters p.result row.0 fs row.1 (ap (λ (b : Booked). b.booking) row_is ∙ of);
          }

      -- its lines
      pub report_text : (covers : List ℕ) (line : ShardLine) (name : List ℕ) → IsReportOn covers → option_map (λ (x : ResultAt). x.booked.name) (slice_get (graph_results g) p.result) ≡ Some name
          → flow_lines name (filter_counts (graph_filters g) covers (counts_of line)) ≡ pass_text q line
      report_text covers line name on named =
          ap (λ x. flow_lines x (filter_counts (graph_filters g) covers (counts_of line))) (name_of name named)
          ∙ ap (flow_lines q.result.name) (labels_with g.header g.names (history g.script) covers on.filters (counts_of line) on.numbered)
          ∙ sym (ap (λ b. booking_text q.result.name q.under b line) on.booking)
