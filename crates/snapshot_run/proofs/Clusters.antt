-- The clusters of a table, one after another: their first fault, and their records.
use Rattle.lemmas.proofs.{◌≡◌, ℕ, ◌+◌, ◌-◌, ◌<◌, ◌≤◌, List, [], ◌∷◌, ◌++◌, length, map, drop, Option, Some, None, refl, sym, ◌∙◌, ap, ap₂, arith, slice_get, flat_map, option_map, slice_range, range_length, slice_get-map, take_at_most}
use Rattle.rdf_values.specs.{AreInEntryOrder, Fault, first_in, Lead, Path, Span, Under, Value}
use Rattle.rdf_values.proofs.Evenly.{led_are_in_order, lead_up}
use Rattle.rdf_model.specs.{Dataset}
use Rattle.loop_pieces.proofs.ByCluster.{ranges_join, range_none, range_whole}
use Rattle.snapshot_rows.specs.{fault_from, kept_row, kept_rows, SnapFault}
use Rattle.snapshot_run.specs.{as_fault}
use Rattle.snapshot_entries.proofs.Rows.{fault_append, fault_within, first_of, kept_append}

first_in-cons : (o : Option SnapFault) (rest : Option SnapFault) (os : List (Option Fault)) → first_in os ≡ option_map as_fault rest → first_in (option_map as_fault o ∷ os) ≡ option_map as_fault (first_of o rest)
first_in-cons None rest os h = h
first_in-cons (Some f) rest os h = refl

module _ (d : Dataset) (at : Path) (names : List (List ℕ)) (u : Under) where
  abbrev first : ℕ → List (List Value) → Option SnapFault
  first e rows = fault_from d at names u e rows

  abbrev fault_of : Span → Option Fault
  fault_of s = option_map as_fault (first s.lo (slice_range d.rows s.lo s.hi))

  -- clusters that lead from one entry to another have the first fault of the rows between
  between : (spans : List Span) (lo hi : ℕ) → Lead lo hi spans → hi ≤ length d.rows → first_in (map fault_of spans) ≡ option_map as_fault (first lo (slice_range d.rows lo hi))
  between [] lo hi h le = sym (ap (λ l. option_map as_fault (first lo l)) (ap (λ k. slice_range d.rows lo k) (sym h) ∙ range_none d.rows lo))
  between (s ∷ ss) lo hi h le =
      let up = lead_up ss s.hi hi h.2 in
      let begins = h.1 in
      let most : s.hi ≤ length d.rows = omega arith in
      let long : lo + length (slice_range d.rows lo s.hi) ≡ s.hi = omega (arith, range_length d.rows lo s.hi (omega arith) most) in
      first_in-cons (first s.lo (slice_range d.rows s.lo s.hi)) (first s.hi (slice_range d.rows s.hi hi)) (map fault_of ss) (between ss s.hi hi h.2 le)
      ∙ ap₂ (λ a b. option_map as_fault (first_of a b)) (ap (λ k. first k (slice_range d.rows k s.hi)) h.0) (ap (λ k. first k (slice_range d.rows s.hi hi)) (sym long))
      ∙ ap (option_map as_fault) (sym (fault_append d at names u (slice_range d.rows lo s.hi) (slice_range d.rows s.hi hi) lo) ∙ ap (λ l. first lo l) (ranges_join d.rows lo s.hi hi (omega arith) up le))

  pub first_cluster : (spans : List Span) → Lead 0 (length d.rows) spans → first_in (map fault_of spans) ≡ option_map as_fault (first 0 d.rows)
  first_cluster spans leads = between spans 0 (length d.rows) leads (omega arith) ∙ ap (λ l. option_map as_fault (first 0 l)) (range_whole d.rows)

  -- the cluster of a fault, and where it lies
  abbrev HasSpan : List Span → ℕ → Fault → Type 0
  HasSpan spans c f = (s : Span) × (slice_get spans c ≡ Some s) × (s.lo ≤ f.entry) × (f.entry < s.hi)

  its_span : (spans : List Span) (c : ℕ) (f : Fault) → slice_get (map fault_of spans) c ≡ Some (Some f) → HasSpan spans c f
  its_span spans c f is = go (slice_get spans c) refl (sym (slice_get-map fault_of spans c) ∙ is)
    where
      inside : (s : Span) (o : Option SnapFault) → first s.lo (slice_range d.rows s.lo s.hi) ≡ o → option_map as_fault o ≡ Some f → (s.lo ≤ f.entry) × (f.entry < s.hi)
      inside s None q h = cc h
      inside s (Some g) q h =
          let same : as_fault g ≡ f = cc h in
          let is_at : g.entry ≡ f.entry = ap (λ (x : Fault). x.entry) same in
          let w = fault_within d at names u (slice_range d.rows s.lo s.hi) s.lo g q in
          let low = w.0 in
          let high = w.1 in
          let short = take_at_most (s.hi - s.lo) (drop s.lo d.rows) in
          (omega arith, omega arith)

      go : (o : Option Span) → slice_get spans c ≡ o → option_map fault_of o ≡ Some (Some f) → HasSpan spans c f
      go None q h = cc h
      go (Some s) q h =
          let one : fault_of s ≡ Some f = (let a : ◌≡◌ {A = Option (Option Fault)} (Some (fault_of s)) (Some (Some f)) = h in cc a) in
          let w = inside s (first s.lo (slice_range d.rows s.lo s.hi)) refl one in (s, q, w.0, w.1)

  pub in_entry_order : (spans : List Span) → Lead 0 (length d.rows) spans → AreInEntryOrder (map fault_of spans)
  in_entry_order spans leads a b f g lt here there =
      let x = its_span spans a f here in
      let y = its_span spans b g there in
      let order = led_are_in_order 0 (length d.rows) spans a b x.0 y.0 leads lt x.1 y.1 in
      let high = x.3 in
      let low = y.2 in
      omega arith

  -- the entries that are kept of clusters that lead from one entry to another are those of the rows between
  kept_between : (spans : List Span) (lo hi : ℕ) → Lead lo hi spans → hi ≤ length d.rows → flat_map (λ (s : Span). kept_rows d at names u (slice_range d.rows s.lo s.hi)) spans ≡ kept_rows d at names u (slice_range d.rows lo hi)
  kept_between [] lo hi h le = sym (ap (kept_rows d at names u) (ap (λ k. slice_range d.rows lo k) (sym h) ∙ range_none d.rows lo))
  kept_between (s ∷ ss) lo hi h le =
      let up = lead_up ss s.hi hi h.2 in
      let begins = h.1 in
      ap₂ (λ a b. a ++ b) (ap (λ k. kept_rows d at names u (slice_range d.rows k s.hi)) h.0) (kept_between ss s.hi hi h.2 le)
      ∙ sym (kept_append (kept_row d at names u) (slice_range d.rows lo s.hi) (slice_range d.rows s.hi hi))
      ∙ ap (kept_rows d at names u) (ranges_join d.rows lo s.hi hi (omega arith) up le)

  pub kept_of_all : (spans : List Span) → Lead 0 (length d.rows) spans → flat_map (λ (s : Span). kept_rows d at names u (slice_range d.rows s.lo s.hi)) spans ≡ kept_rows d at names u d.rows
  kept_of_all spans leads = kept_between spans 0 (length d.rows) leads (omega arith) ∙ ap (kept_rows d at names u) (range_whole d.rows)
