-- The rows of a span, and the first fault in them.
use Rattle.lemmas.proofs.{◌≡◌, ℕ, zero, suc, ◌+◌, ◌-◌, ◌<◌, ◌≤◌, List, [], ◌∷◌, ◌++◌, length, drop, take, Option, None, Some, refl, sym, ap, ◌∙◌, arith, length-append, slice_get, slice_range, range_length}
use Rattle.rdf_values.specs.{Column, EntryFault, Fault, FitRows, Lead, Pass, Span, Value}
use Rattle.rdf_model.specs.{Dataset, fault_at, fault_or, first_fault_from, first_fault_in, first_of, rows_in, span_rows}
use Rattle.loop_pieces.specs.{begin_of}
use Rattle.shard_spans.specs.{clusters_in}
use Rattle.shard_spans.proofs.SpanFaults.{clusters_none, long, range_of, rows_next}

-- ---- rows that fit

module _ (columns : List Column) where
  pub rows_both : (xs ys : List (List Value)) → FitRows columns xs → FitRows columns ys → FitRows columns (xs ++ ys)
  rows_both [] ys h k = k
  rows_both (x ∷ xs) ys h k = (h.0, rows_both xs ys h.1 k)

  rows_drop : (n : ℕ) (xs : List (List Value)) → FitRows columns xs → FitRows columns (drop n xs)
  rows_drop zero xs h = h
  rows_drop (suc n) [] h = tt
  rows_drop (suc n) (x ∷ xs) h = rows_drop n xs h.1

  rows_take : (n : ℕ) (xs : List (List Value)) → FitRows columns xs → FitRows columns (take n xs)
  rows_take zero xs h = tt
  rows_take (suc n) [] h = tt
  rows_take (suc n) (x ∷ xs) h = (h.0, rows_take n xs h.1)

  span_fits : (rows : List (List Value)) (o : Option Span) → FitRows columns rows → FitRows columns (span_rows rows o)
  span_fits rows None h = tt
  span_fits rows (Some s) h = rows_take (s.hi - s.lo) (drop s.lo rows) (rows_drop s.lo rows h)

  -- rows of clusters fit, where those of the table do
  pub rows_fit : (spans : List Span) (rows : List (List Value)) (set : List ℕ) → FitRows columns rows → FitRows columns (rows_in spans rows set)
  rows_fit spans rows [] h = tt
  rows_fit spans rows (c ∷ set) h = rows_both (span_rows rows (slice_get spans c)) (rows_in spans rows set) (span_fits rows (slice_get spans c) h) (rows_fit spans rows set h)

-- ---- how many

-- no cluster is empty
pub few_clusters : (spans : List Span) (a n : ℕ) → Lead a n spans → a + length spans ≤ n
few_clusters [] a n h = let same = h in omega arith
few_clusters (s ∷ ss) a n h = let up = h.1 in let rest = few_clusters ss s.hi n h.2 in omega arith

module _ (d : Dataset) (spans : List Span) (leads : Lead 0 (length d.rows) spans) (lo : ℕ) where
  -- the rows of a span end within the table
  end_by : (n : ℕ) → lo + n ≤ length spans → 0 < length (rows_in spans d.rows (clusters_in lo (lo + n))) → begin_of (slice_get spans lo) + length (rows_in spans d.rows (clusters_in lo (lo + n))) ≤ length d.rows
  end_by zero le some =
      let same : lo + 0 ≡ lo = omega arith in
      let none : rows_in spans d.rows (clusters_in lo (lo + 0)) ≡ [] = ap (λ k. rows_in spans d.rows (clusters_in lo k)) same ∙ ap (rows_in spans d.rows) (clusters_none lo) in
      let short : length (rows_in spans d.rows (clusters_in lo (lo + 0))) ≡ 0 = ap length none in
      absurd (omega arith)
  end_by (suc n) le some =
      let before = long d [] spans leads lo n (omega arith) in
      let r = range_of spans 0 (length d.rows) (lo + n) leads (omega arith) in
      let same : lo + suc n ≡ (lo + n) + 1 = omega arith in
      let rows = ap (λ k. rows_in spans d.rows (clusters_in lo k)) same ∙ rows_next spans d.rows lo (lo + n) (omega arith) in
      let its : span_rows d.rows (slice_get spans (lo + n)) ≡ slice_range d.rows r.span.lo r.span.hi = ap (span_rows d.rows) r.there in
      let many : length (span_rows d.rows (slice_get spans (lo + n))) ≡ r.span.hi - r.span.lo = ap length its ∙ range_length d.rows r.span.lo r.span.hi r.up r.within in
      let all : length (rows_in spans d.rows (clusters_in lo (lo + suc n))) ≡ length (rows_in spans d.rows (clusters_in lo (lo + n))) + length (span_rows d.rows (slice_get spans (lo + n)))
      = ap length rows ∙ length-append (rows_in spans d.rows (clusters_in lo (lo + n))) (span_rows d.rows (slice_get spans (lo + n))) in
      let from : begin_of (slice_get spans (lo + n)) ≡ r.span.lo = ap begin_of r.there in
      let up = r.up in
      let top = r.within in
      omega arith

  pub end_within : (hi : ℕ) → lo ≤ hi → hi ≤ length spans → 0 < length (rows_in spans d.rows (clusters_in lo hi)) → begin_of (slice_get spans lo) + length (rows_in spans d.rows (clusters_in lo hi)) ≤ length d.rows
  end_within hi le top some =
      let same : lo + (hi - lo) ≡ hi = omega arith in
      let rows : rows_in spans d.rows (clusters_in lo (lo + (hi - lo))) ≡ rows_in spans d.rows (clusters_in lo hi) = ap (λ k. rows_in spans d.rows (clusters_in lo k)) same in
      let long_as : length (rows_in spans d.rows (clusters_in lo (lo + (hi - lo)))) ≡ length (rows_in spans d.rows (clusters_in lo hi)) = ap length rows in
      let by = end_by (hi - lo) (omega arith) (omega arith) in
      omega arith

  pub few_rows : (hi : ℕ) → lo ≤ hi → hi ≤ length spans → length (rows_in spans d.rows (clusters_in lo hi)) ≤ length d.rows
  few_rows hi le top = go (length (rows_in spans d.rows (clusters_in lo hi))) refl
    where
      go : (n : ℕ) → length (rows_in spans d.rows (clusters_in lo hi)) ≡ n → n ≤ length d.rows
      go zero q = omega arith
      go (suc n) q = let by = end_within hi le top (omega arith) in omega arith

-- ---- faults

module _ (d : Dataset) where
  in_entry : (e n : ℕ) (row : List Value) (ps : List Pass) (f : Fault) → first_fault_in d e n row ps ≡ Some f → (f.entry ≡ e) × (f.pass < n + length ps)
  in_entry e n row [] f h = cc h
  in_entry e n row (p ∷ ps) f h = go (fault_at d row p) h (λ q. in_entry e (n + 1) row ps f q)
    where
      go : (o : Option EntryFault) → fault_or e n o (first_fault_in d e (n + 1) row ps) ≡ Some f → (first_fault_in d e (n + 1) row ps ≡ Some f → (f.entry ≡ e) × (f.pass < n + 1 + length ps)) → (f.entry ≡ e) × (f.pass < n + suc (length ps))
      go None q next = let r = next q in let lt = r.1 in (r.0, omega arith)
      go (Some kind) q next =
          let one : record { entry = e; pass = n; kind = kind } ≡ f = cc q in
          let entry : e ≡ f.entry = ap (λ (g : Fault). g.entry) one in
          let pass : n ≡ f.pass = ap (λ (g : Fault). g.pass) one in
          (sym entry, omega arith)

  -- the first fault stands in one of the rows, at one of the passes
  pub fault_within : (ps : List Pass) (e : ℕ) (rows : List (List Value)) (f : Fault) → first_fault_from d e rows ps ≡ Some f → (f.entry < e + length rows) × (0 < length rows) × (f.pass < length ps)
  fault_within ps e [] f h = cc h
  fault_within ps e (row ∷ rows) f h = go (first_fault_in d e 0 row ps) refl h (λ q. fault_within ps (e + 1) rows f q)
    where
      go : (o : Option Fault) → first_fault_in d e 0 row ps ≡ o → first_of o (first_fault_from d (e + 1) rows ps) ≡ Some f → (first_fault_from d (e + 1) rows ps ≡ Some f → (f.entry < e + 1 + length rows) × (0 < length rows) × (f.pass < length ps))
          → (f.entry < e + suc (length rows)) × (0 < suc (length rows)) × (f.pass < length ps)
      go None r q next = let k = next q in let lt = k.0 in (omega arith, omega arith, k.2)
      go (Some g) r q next =
          let k = in_entry e 0 row ps f (r ∙ q) in
          let same = k.0 in
          let lt = k.1 in
          (omega arith, omega arith, omega arith)
