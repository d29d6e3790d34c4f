-- The entries of a range, one after another.
use Rattle.lemmas.proofs.{◌≡◌, ℕ, zero, suc, ◌+◌, ◌-◌, ◌<◌, ◌≤◌, List, [], ◌∷◌, ◌++◌, length, get_or, take, drop, Option, Some, None, Err, refl, sym, ◌∙◌, ap, subst, arith, length-drop, slice_range, append-nil, append_assoc, cons_option, flat_map-append, length-take-le, unwrap_or-slice_get}
use Rattle.rdf_values.specs.{EntryFault, Span, Value}
use Rattle.rdf_model.specs.{Dataset, Faults, Gives}
use Rattle.snapshot_plan.specs.{PlanView}
use Rattle.snapshot_text.specs.{entries_text, entry_text}
use Rattle.snapshot_rows.specs.{plan_path, snapshot_entries, snapshot_fault}
use Rattle.snapshot_entries.specs.{IsEntryAnswer, IsSkimAnswer, kept_text, outcome_at, row_in, SkimStop, stop_from}
use Rattle.snapshot_entries.specs.declared.stop.EntryStop.{EntryStop}
use Rattle.snapshot_entries.proofs.Rows.{faulted_row, next_row}

-- ---- lists

take_next : {A : Type 0} (xs : List A) (i : ℕ) (d : A) → i < length xs → take (suc i) xs ≡ take i xs ++ get_or xs i d ∷ []
take_next [] i d lt = absurd (omega (arith, lt))
take_next (x ∷ xs) zero d lt = refl
take_next (x ∷ xs) (suc i) d lt = ap (λ l. x ∷ l) (take_next xs i d (omega (arith, lt)))

take_more : {A : Type 0} (xs : List A) (i n : ℕ) (d : A) → i < n → n ≤ length xs → (rest : List A) × (take n xs ≡ take i xs ++ get_or xs i d ∷ rest)
take_more xs i zero d lt le = absurd (omega (arith, lt))
take_more [] i (suc n) d lt le = absurd (omega (arith, le))
take_more (x ∷ xs) zero (suc n) d lt le = (take n xs, refl)
take_more (x ∷ xs) (suc i) (suc n) d lt le = let r = take_more xs i n d (omega (arith, lt)) (omega (arith, le)) in (r.0, ap (λ l. x ∷ l) r.1)

get_or_drop : {A : Type 0} (xs : List A) (a i : ℕ) (d : A) → get_or (drop a xs) i d ≡ get_or xs (a + i) d
get_or_drop xs zero i d = let e : i ≡ 0 + i = omega arith in ap (λ k. get_or xs k d) e
get_or_drop [] (suc a) i d = refl
get_or_drop (x ∷ xs) (suc a) i d = get_or_drop xs a i d ∙ (let e : suc (a + i) ≡ suc a + i = omega arith in ap (λ k. get_or (x ∷ xs) k d) e)

module _ (rows : List (List Value)) (lo e : ℕ) (low : lo ≤ e) (lt : e < length rows) where
  at_row : get_or (drop lo rows) (e - lo) [] ≡ row_in rows e
  at_row = get_or_drop rows lo (e - lo) [] ∙ (let s : lo + (e - lo) ≡ e = omega (arith, low) in ap (λ k. get_or rows k []) s) ∙ sym (unwrap_or-slice_get rows e [])

  range_next : slice_range rows lo (e + 1) ≡ slice_range rows lo e ++ row_in rows e ∷ []
  range_next =
      let s : (e + 1) - lo ≡ suc (e - lo) = omega (arith, low) in
      let inside : e - lo < length (drop lo rows) = (let n = length-drop lo rows in omega (arith, low, lt, n)) in
      ap (λ k. take k (drop lo rows)) s ∙ take_next (drop lo rows) (e - lo) [] inside ∙ ap (λ r. slice_range rows lo e ++ r ∷ []) at_row

  range_long : e ≡ lo + length (slice_range rows lo e)
  range_long = (let n = length-drop lo rows in let m = length-take-le (e - lo) (drop lo rows) (omega (arith, low, lt, n)) in omega (arith, low, m))

  range_split : (hi : ℕ) → e < hi → hi ≤ length rows → (rest : List (List Value)) × (slice_range rows lo hi ≡ slice_range rows lo e ++ row_in rows e ∷ rest)
  range_split hi up most =
      let n = length-drop lo rows in
      let r = take_more (drop lo rows) (e - lo) (hi - lo) [] (omega (arith, low, up)) (omega (arith, low, up, most, n)) in
      (r.0, r.1 ∙ ap (λ x. slice_range rows lo e ++ x ∷ r.0) at_row)

-- ---- what an entry gives

one_text : (kept : Option (List Value)) → entries_text (cons_option kept []) ≡ kept_text kept
one_text None = refl
one_text (Some cells) = append-nil (entry_text cells)

module _ (p : PlanView) (d : Dataset) (lo : ℕ) where
  abbrev pub So_far : ℕ → List (List Value)
  So_far e = slice_range d.rows lo e

  module _ (e : ℕ) (low : lo ≤ e) (lt : e < length d.rows) (none : snapshot_fault p d lo (So_far e) ≡ None) where
    pub next_entry : (kept : Option (List Value)) (first before after : List ℕ) → outcome_at p d e ≡ Gives kept → before ≡ first ++ entries_text (snapshot_entries p d (So_far e)) → after ≡ before ++ kept_text kept
        → (snapshot_fault p d lo (So_far (e + 1)) ≡ None) × (after ≡ first ++ entries_text (snapshot_entries p d (So_far (e + 1))))
    next_entry kept first before after gives so_far grown =
        let next = next_row d (plan_path p) p.columns p.under (So_far e) (row_in d.rows e) lo e kept (range_long d.rows lo e low lt) none gives in
        let rows = range_next d.rows lo e low lt in (
          ap (snapshot_fault p d lo) rows ∙ next.0,
          grown ∙ ap (λ l. l ++ kept_text kept) so_far ∙ append_assoc first (entries_text (snapshot_entries p d (So_far e))) (kept_text kept)
              ∙ ap (λ l. first ++ l) (ap (λ l. entries_text (snapshot_entries p d (So_far e)) ++ l) (sym (one_text kept)) ∙ sym (flat_map-append entry_text (snapshot_entries p d (So_far e)) (cons_option kept [])))
              ∙ ap (λ l. first ++ entries_text l) (sym next.1 ∙ ap (snapshot_entries p d) (sym rows)),
        )

    pub faulted_entry : (hi : ℕ) (kind : EntryFault) → e < hi → hi ≤ length d.rows → outcome_at p d e ≡ Faults kind → snapshot_fault p d lo (So_far hi) ≡ Some (record { entry = e; kind = kind })
    faulted_entry hi kind up most faults =
        let split = range_split d.rows lo e low lt hi up most in
        ap (snapshot_fault p d lo) split.1 ∙ faulted_row d (plan_path p) p.columns p.under (So_far e) split.0 (row_in d.rows e) lo e kind (range_long d.rows lo e low lt) none faults

-- an entry that stops its cluster
pub skim_stopped : (p : PlanView) (d : Dataset) (span : Span) (e : ℕ) → span.lo ≤ e → e < span.hi → span.hi ≤ length d.rows → snapshot_fault p d span.lo (So_far p d span.lo e) ≡ None
    → (s : EntryStop) (r : SkimStop) (before after old new : List ℕ) → r ≡ stop_from e s → IsEntryAnswer p d e before after (Err s) → IsSkimAnswer p d span old new (Err r)
skim_stopped p d span e low up most none (EntryStop.Fault kind) r before after old new is h =
    subst (λ (x : SkimStop). IsSkimAnswer p d span old new (Err x)) (sym is) (faulted_entry p d span.lo e low (omega (arith, up, most)) none span.hi kind up most h)
skim_stopped p d span e low up most none EntryStop.Memory r before after old new is h = subst (λ (x : SkimStop). IsSkimAnswer p d span old new (Err x)) (sym is) tt
