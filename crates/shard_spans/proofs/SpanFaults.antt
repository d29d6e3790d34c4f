-- The first fault of a span, cluster by cluster.
use Rattle.rdf_values.proofs.Evenly.{lead_up}
use Rattle.loop_pieces.proofs.ByCluster.{fault_from-append}
use Rattle.lemmas.proofs.{◌≡◌, ℕ, zero, suc, ◌+◌, ◌-◌, ◌<◌, ◌≤◌, List, [], ◌∷◌, ◌++◌, length, map, Option, None, Some, refl, sym, ap, ap₂, ◌∙◌, subst, arith, append-nil, length-append, All, slice_get, slice_range, All-nil, All-push, flat_map-append, map-append, range_length}
use Rattle.rdf_values.specs.{Fault, first_in, Lead, Pass, Span}
use Rattle.rdf_model.specs.{Dataset, first_fault_from, first_of, rows_in, span_rows}
use Rattle.loop_pieces.specs.{begin_of, cluster_fault}
use Rattle.shard_spans.specs.{clusters_from, clusters_in, FirstFaultyClusterHasTheFault, span_fault}

-- ---- clusters

-- one more cluster
pub clusters_next : (lo n : ℕ) → clusters_from lo (suc n) ≡ clusters_from lo n ++ (lo + n) ∷ []
clusters_next lo n = map-append (λ c. lo + c) _ (n ∷ [])

pub clusters_none : (lo : ℕ) → clusters_in lo lo ≡ []
clusters_none lo = let e : lo - lo ≡ 0 = omega arith in ap (clusters_from lo) e

pub clusters_more : (lo hi : ℕ) → lo ≤ hi → clusters_in lo (hi + 1) ≡ clusters_in lo hi ++ hi ∷ []
clusters_more lo hi le =
    let more : hi + 1 - lo ≡ suc (hi - lo) = omega arith in
    let last : lo + (hi - lo) ≡ hi = omega arith in
    ap (clusters_from lo) more ∙ clusters_next lo (hi - lo) ∙ ap (λ c. clusters_in lo hi ++ c ∷ []) last

below_from : (lo n : ℕ) → All (λ c. c < lo + n) (clusters_from lo n)
below_from lo zero = All-nil (λ c. c < lo + 0)
below_from lo (suc n) =
    subst (All (λ c. c < lo + suc n)) (sym (clusters_next lo n))
    (All-push (λ c. c < lo + suc n) (clusters_from lo n) (lo + n) (λ k d lt. let low = below_from lo n k d lt in omega arith) (omega arith))

-- each is below the end
pub below_end : (lo hi : ℕ) → lo ≤ hi → All (λ c. c < hi) (clusters_in lo hi)
below_end lo hi le = let same : lo + (hi - lo) ≡ hi = omega arith in subst (λ n. All (λ c. c < n) (clusters_in lo hi)) same (below_from lo (hi - lo))

-- ---- faults

pub first_in-append : (xs ys : List (Option Fault)) → first_in (xs ++ ys) ≡ first_of (first_in xs) (first_in ys)
first_in-append [] ys = refl
first_in-append (None ∷ xs) ys = first_in-append xs ys
first_in-append (Some f ∷ xs) ys = refl

first_in-one : (o : Option Fault) → first_in (o ∷ []) ≡ o
first_in-one None = refl
first_in-one (Some f) = refl

module _ (F : ℕ → Option Fault) where
  -- the first fault of one more cluster
  pub first_next : (lo hi : ℕ) → lo ≤ hi → first_in (map F (clusters_in lo (hi + 1))) ≡ first_of (first_in (map F (clusters_in lo hi))) (F hi)
  first_next lo hi le =
      ap (λ l. first_in (map F l)) (clusters_more lo hi le) ∙ ap first_in (map-append F (clusters_in lo hi) (hi ∷ []))
      ∙ first_in-append (map F (clusters_in lo hi)) (F hi ∷ []) ∙ ap (first_of (first_in (map F (clusters_in lo hi)))) (first_in-one (F hi))

  stays_by : (lo hi more : ℕ) (f : Fault) → lo ≤ hi → first_in (map F (clusters_in lo hi)) ≡ Some f → first_in (map F (clusters_in lo (hi + more))) ≡ Some f
  stays_by lo hi zero f le h = (let e : hi + 0 ≡ hi = omega arith in ap (λ n. first_in (map F (clusters_in lo n))) e) ∙ h
  stays_by lo hi (suc more) f le h =
      (let e : hi + suc more ≡ (hi + more) + 1 = omega arith in ap (λ n. first_in (map F (clusters_in lo n))) e)
      ∙ first_next lo (hi + more) (omega arith) ∙ ap (λ o. first_of o (F (hi + more))) (stays_by lo hi more f le h)

  -- a fault stays the first, however many clusters follow
  pub first_stays : (lo hi top : ℕ) (f : Fault) → lo ≤ hi → hi ≤ top → first_in (map F (clusters_in lo hi)) ≡ Some f → first_in (map F (clusters_in lo top)) ≡ Some f
  first_stays lo hi top f le up h = (let e : top ≡ hi + (top - hi) = omega arith in ap (λ n. first_in (map F (clusters_in lo n))) e) ∙ stays_by lo hi (top - hi) f le h

-- ---- rows

pub rows_next : {A : Type 0} (spans : List Span) (rows : List A) (lo hi : ℕ) → lo ≤ hi → rows_in spans rows (clusters_in lo (hi + 1)) ≡ rows_in spans rows (clusters_in lo hi) ++ span_rows rows (slice_get spans hi)
rows_next spans rows lo hi le =
    ap (rows_in spans rows) (clusters_more lo hi le) ∙ flat_map-append (λ c. span_rows rows (slice_get spans c)) (clusters_in lo hi) (hi ∷ [])
    ∙ ap (λ l. rows_in spans rows (clusters_in lo hi) ++ l) (append-nil (span_rows rows (slice_get spans hi)))

-- clusters that lead to an entry: where one begins and how many rows it has
pub record IsRange (spans : List Span) (n c : ℕ) : Type 0 where
  pub span : Span
  pub there : slice_get spans c ≡ Some span
  pub up : span.lo ≤ span.hi
  pub within : span.hi ≤ n
  pub next : suc c < length spans → begin_of (slice_get spans (suc c)) ≡ span.hi

pub range_of : (spans : List Span) (a n c : ℕ) → Lead a n spans → c < length spans → IsRange spans n c
range_of [] a n c leads lt = absurd (omega arith)
range_of (s ∷ []) a n zero leads lt =
    let at = leads.0 in let up = leads.1 in let end = leads.2 in
    record { span = s; there = refl; up = omega arith; within = omega arith; next = λ more. absurd (omega arith) }
range_of (s ∷ t ∷ ss) a n zero leads lt =
    let at = leads.0 in let up = leads.1 in let far = lead_up (t ∷ ss) s.hi n leads.2 in
    record { span = s; there = refl; up = omega arith; within = far; next = λ more. leads.2.0 }
range_of (s ∷ ss) a n (suc c) leads lt =
    let r = range_of ss s.hi n c leads.2 (omega arith) in
    record { span = r.span; there = r.there; up = r.up; within = r.within; next = λ more. r.next (omega arith) }

module _ (d : Dataset) (ps : List Pass) where
  module _ (spans : List Span) (leads : Lead 0 (length d.rows) spans) (lo : ℕ) where
    -- the clusters from lo on are the rows from where the first of them begins
    pub long : (n : ℕ) → lo + n < length spans → begin_of (slice_get spans lo) + length (rows_in spans d.rows (clusters_in lo (lo + n))) ≡ begin_of (slice_get spans (lo + n))
    long zero lt =
        let same : lo + 0 ≡ lo = omega arith in
        let none : rows_in spans d.rows (clusters_in lo (lo + 0)) ≡ [] = ap (λ k. rows_in spans d.rows (clusters_in lo k)) same ∙ ap (rows_in spans d.rows) (clusters_none lo) in
        let short : length (rows_in spans d.rows (clusters_in lo (lo + 0))) ≡ 0 = ap length none in
        let here : begin_of (slice_get spans (lo + 0)) ≡ begin_of (slice_get spans lo) = ap (λ k. begin_of (slice_get spans k)) same in
        omega arith
    long (suc n) lt =
        let before = long n (omega arith) in
        let r = range_of spans 0 (length d.rows) (lo + n) leads (omega arith) in
        let same : lo + suc n ≡ (lo + n) + 1 = omega arith in
        let also : lo + suc n ≡ suc (lo + n) = omega arith in
        let rows = ap (λ k. rows_in spans d.rows (clusters_in lo k)) same ∙ rows_next spans d.rows lo (lo + n) (omega arith) in
        let its : span_rows d.rows (slice_get spans (lo + n)) ≡ slice_range d.rows r.span.lo r.span.hi = ap (span_rows d.rows) r.there in
        let many : length (span_rows d.rows (slice_get spans (lo + n))) ≡ r.span.hi - r.span.lo = ap length its ∙ range_length d.rows r.span.lo r.span.hi r.up r.within in
        let all : length (rows_in spans d.rows (clusters_in lo (lo + suc n))) ≡ length (rows_in spans d.rows (clusters_in lo (lo + n))) + length (span_rows d.rows (slice_get spans (lo + n)))
        = ap length rows ∙ length-append (rows_in spans d.rows (clusters_in lo (lo + n))) (span_rows d.rows (slice_get spans (lo + n))) in
        let from : begin_of (slice_get spans (lo + n)) ≡ r.span.lo = ap begin_of r.there in
        let to : begin_of (slice_get spans (lo + suc n)) ≡ r.span.hi = ap (λ k. begin_of (slice_get spans k)) also ∙ r.next (omega arith) in
        let up = r.up in
        omega arith

    faults : (n : ℕ) → lo + n ≤ length spans → first_in (map (cluster_fault d spans ps) (clusters_in lo (lo + n))) ≡ span_fault spans d ps lo (lo + n)
    faults zero le =
        let same : lo + 0 ≡ lo = omega arith in
        let none : clusters_in lo (lo + 0) ≡ [] = ap (clusters_in lo) same ∙ clusters_none lo in
        ap (λ l. first_in (map (cluster_fault d spans ps) l)) none ∙ sym (ap (λ l. first_fault_from d (begin_of (slice_get spans lo)) (rows_in spans d.rows l) ps) none)
    faults (suc n) le =
        let same : lo + suc n ≡ (lo + n) + 1 = omega arith in
        let begin = begin_of (slice_get spans lo) in
        let before = rows_in spans d.rows (clusters_in lo (lo + n)) in
        let here = span_rows d.rows (slice_get spans (lo + n)) in
        ap (λ k. first_in (map (cluster_fault d spans ps) (clusters_in lo k))) same
        ∙ first_next (cluster_fault d spans ps) lo (lo + n) (omega arith)
        ∙ ap₂ first_of (faults n (omega arith)) (ap (λ k. first_fault_from d k here ps) (sym (long n (omega arith))))
        ∙ sym (fault_from-append d ps before here begin)
        ∙ sym (ap (λ l. first_fault_from d begin l ps) (ap (λ k. rows_in spans d.rows (clusters_in lo k)) same ∙ rows_next spans d.rows lo (lo + n) (omega arith)))

pub first_faulty_cluster_has_the_fault : FirstFaultyClusterHasTheFault
first_faulty_cluster_has_the_fault d spans ps lo hi leads le top =
    let same : lo + (hi - lo) ≡ hi = omega arith in
    subst (λ k. first_in (map (cluster_fault d spans ps) (clusters_in lo k)) ≡ span_fault spans d ps lo k) same (faults d ps spans leads lo (hi - lo) (omega arith))
