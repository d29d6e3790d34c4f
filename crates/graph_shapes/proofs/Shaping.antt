-- The shape of a pass by its numbers.
use Rattle.lemmas.proofs.{◌≡◌, ℕ, ◌≤◌, List, [], length, map, Option, None, Some, refl, sym, ap, ◌∙◌, subst, arith, option_map, slice_get, unwrap_or, length-map, length-reverse, same_some, slice_get-map}
use Rattle.rdf_values.specs.{ActionAt, ActionKind, AreAccepted, Booked, Booking, bookings, cells_of, ColType, history, Line, named_before, Pass, Path, ReportOn, scope_of}
use Rattle.rdf_model.proofs.Accepted.{verdict_is_the_first_refusal}
use Rattle.graph_numbers.specs.{booked_statements, graph_results, GraphView, IsGraph, kind_of_booking, Pass as NumberedPass, ResultAt, ResultKind}
use Rattle.graph_numbers.proofs.Placing.{itself}
use Rattle.graph_numbers.proofs.Covering.{booked_are}
use Rattle.result_text.specs.{passes_at}
use Rattle.result_text.proofs.PassLines.{IsPassAt}
use Rattle.shard_lines.specs.{action_shape, booking_shape, PassShape}
use Rattle.merged_text.proofs.LoopPasses.{report_on}
use Rattle.graph_shapes.specs.{booking_kind, input_kind, pass_kind, version_kind}
use Rattle.graph_shapes.proofs.Booked.{ReadsKind, cells_are_few, filter_count, filters_are_few, result_reads}

module _ (g : GraphView) (graph : IsGraph g) where
  accepted : AreAccepted g.names (scope_of g.header) (booked_statements g)
  accepted = (verdict_is_the_first_refusal g.names g.header g.script).0 graph.accepted

  statements_many : length (booked_statements g) ≡ length g.script.lines
  statements_many = length-reverse (map (λ (l : Line). l.statement) g.script.lines) ∙ length-map g.script.lines (λ (l : Line). l.statement)

  -- the result under a number, and what was booked as it
  record IsRow (r : ℕ) (b : Booked) : Type 0 where
    row : ResultAt
    there : slice_get (graph_results g) r ≡ Some row
    is : row.booked ≡ b

  row_at : (r : ℕ) (b : Booked) → slice_get (bookings (booked_statements g)) r ≡ Some b → IsRow r b
  row_at r b its = go (slice_get (graph_results g) r) refl (sym (slice_get-map (λ (x : ResultAt). x.booked) (graph_results g) r) ∙ ap (λ (bs : List Booked). slice_get bs r) (booked_are g.header g.names (booked_statements g)) ∙ its)
    where
      go : (o : Option ResultAt) → slice_get (graph_results g) r ≡ o → option_map (λ (x : ResultAt). x.booked) o ≡ Some b → IsRow r b
      go None at e = absurd (cc e)
      go (Some x) at e = record { row = x; there = at; is = same_some e }

  take_kind : (x : ResultAt) (action : ActionKind) (at : Path) → ReadsKind g.header g.names (booked_statements g) x (ActionAt action at) → action_shape (input_kind g x) action ≡ action_shape (booking_kind g (ActionAt action at)) action
  take_kind x ActionKind.Count at h = refl
  take_kind x (ActionKind.Sum c) at h = refl
  take_kind x (ActionKind.Min c) at h = refl
  take_kind x (ActionKind.Max c) at h = refl
  take_kind x (ActionKind.Take c) at h = ap PassShape.Take (ap (version_kind g) h.1 ∙ ap (λ (o : Option ColType). unwrap_or o ColType.Int) h.2)
  take_kind x (ActionKind.Reduce o c) at h = refl
  take_kind x (ActionKind.Histo1D edges y w) at h = refl
  take_kind x (ActionKind.Histo2D xs ys y z w) at h = refl

  module _ (l n : ℕ) (p : NumberedPass) (its : IsPassAt g l n p) where
    its_row : IsRow p.result its.booked
    its_row = row_at p.result its.booked its.its_result

    module _ (its_kind : ResultKind) (is : option_map (λ (x : ResultAt). kind_of_booking x.booked.booking) (slice_get (graph_results g) p.result) ≡ Some its_kind) where
      kind_is : kind_of_booking its.booked.booking ≡ its_kind
      kind_is = sym (ap (λ (b : Booked). kind_of_booking b.booking) its_row.is) ∙ same_some (sym (ap (option_map (λ (x : ResultAt). kind_of_booking x.booked.booking)) its_row.there) ∙ is)

      -- an action's cells are few
      pub cells_within : (action : ActionKind) → its_kind ≡ ResultKind.Action action → cells_of (ActionAt action []) ≤ 1048576
      cells_within action e = go its.booked.booking refl (kind_is ∙ e)
        where
          few : cells_of its.booked.booking ≤ 1048576
          few = cells_are_few g.header g.names (booked_statements g) accepted p.result its.booked its.its_result

          same_cells : (a : ActionKind) (at : Path) → cells_of (ActionAt a at) ≡ cells_of (ActionAt a [])
          same_cells ActionKind.Count at = refl
          same_cells (ActionKind.Sum c) at = refl
          same_cells (ActionKind.Min c) at = refl
          same_cells (ActionKind.Max c) at = refl
          same_cells (ActionKind.Take c) at = refl
          same_cells (ActionKind.Reduce o c) at = refl
          same_cells (ActionKind.Histo1D edges y w) at = refl
          same_cells (ActionKind.Histo2D xs ys y z w) at = refl

          go : (b : Booking) → its.booked.booking ≡ b → kind_of_booking b ≡ ResultKind.Action action → cells_of (ActionAt action []) ≤ 1048576
          go (ActionAt a at) of h =
              let same : a ≡ action = cc in
              let its_cells : cells_of its.booked.booking ≡ cells_of (ActionAt action []) = ap cells_of of ∙ same_cells a at ∙ ap (λ x. cells_of (ActionAt x [])) same in
              omega (arith, few)
          go (ReportOn fs) of h = absurd (cc)

      module _ (q : Pass) (here : slice_get (passes_at g l) n ≡ Some q) where
        result_is : its.booked ≡ q.result
        result_is = ap (λ (y : Pass). y.result) (same_some (sym its.its_pass ∙ here))

        -- an action's shape
        pub action_shaped : (action : ActionKind) (column : ColType) → its_kind ≡ ResultKind.Action action → option_map (λ (x : ResultAt). input_kind g x) (slice_get (graph_results g) p.result) ≡ Some column
            → action_shape column action ≡ booking_shape (pass_kind g q) q.result.booking
        action_shaped action column e known = go its.booked.booking refl (kind_is ∙ e) ∙ ap (λ (b : Booked). booking_shape (booking_kind g b.booking) b.booking) result_is
          where
            column_is : input_kind g its_row.row ≡ column
            column_is = same_some (sym (ap (option_map (λ (x : ResultAt). input_kind g x)) its_row.there) ∙ known)

            reads : ReadsKind g.header g.names (booked_statements g) its_row.row its.booked.booking
            reads = subst (λ (b : Booked). ReadsKind g.header g.names (booked_statements g) its_row.row b.booking) its_row.is (result_reads g.header g.names (booked_statements g) (booked_statements g) accepted itself p.result its_row.row its_row.there)

            go : (b : Booking) → its.booked.booking ≡ b → kind_of_booking b ≡ ResultKind.Action action → action_shape column action ≡ booking_shape (booking_kind g its.booked.booking) its.booked.booking
            go (ActionAt a at) of h =
                let same : a ≡ action = cc in
                ap (λ t. action_shape t action) (sym column_is) ∙ ap (action_shape (input_kind g its_row.row)) (sym same)
                ∙ take_kind its_row.row a at (subst (ReadsKind g.header g.names (booked_statements g) its_row.row) of reads) ∙ sym (ap (λ b. booking_shape (booking_kind g b) b) of)
            go (ReportOn fs) of h = absurd (cc)

        -- a report's shape
        pub report_shaped : (covers : List ℕ) → its_kind ≡ ResultKind.Report → option_map (λ (x : ResultAt). x.covers) (slice_get (graph_results g) p.result) ≡ Some covers
            → (length covers ≤ 256) × (◌≡◌ {A = PassShape} (PassShape.Report (length covers)) (booking_shape (pass_kind g q) q.result.booking))
        report_shaped covers e at =
            let on = report_on g l n p its q here its_kind is covers e at in
            let long : length covers ≡ length on.filters =
            sym (length-map covers (slice_get (named_before (history g.script)))) ∙ ap (λ (x : List (Option Path)). length x) on.numbered ∙ length-map on.filters (λ (f : Path). Some f) in
            let mine : filter_count its.booked.booking ≡ length on.filters = ap (λ (b : Booked). filter_count b.booking) result_is ∙ ap filter_count on.booking in
            let few = filters_are_few (booked_statements g) p.result its.booked its.its_result in
            let lines = graph.bookable.few in
            (omega (arith, statements_many), ap PassShape.Report long ∙ sym (ap (λ b. booking_shape (booking_kind g b) b) on.booking))
