-- Answers, one after another.
use Rattle.lemmas.proofs.{if◌then◌else◌, ◌≡◌, ℕ, zero, suc, ◌+◌, ◌<◌, Bool, true, false, List, [], ◌∷◌, ◌++◌, map, take, length, get_or, Option, Some, None, Result, Ok, Err, refl, sym, ◌∙◌, ap, subst, arith, pos, AllByRecursion, append-nil, map-append}
use Rattle.rdf_values.specs.{EntryFault, Value, value_of}
use Rattle.rdf_model.specs.{◌>>=◌, Dataset, Faults, for_all, Gives, Needs, Outcome, with_needs}
use Rattle.snapshot_plan.specs.{PlanView}
use Rattle.rdf_values.specs.declared.tables.value.Cell.{Cell}
use Rattle.expr_eval.specs.{ColumnInput, input_outcome}
use Rattle.snapshot_rows.specs.{kept_cells}
use Rattle.snapshot_entries.specs.{AreServed, Grows, IsAnswer, IsColumn, IsEntryAnswer, IsRowAnswer, IsServed, IsStoredOutcome, IsStoredValue, outcome_at, source_of, version_in}
use Rattle.snapshot_entries.specs.declared.known.Known.{Known}
use Rattle.snapshot_entries.proofs.Serving.{held_grows}
use Rattle.snapshot_entries.specs.declared.stop.EntryStop.{EntryStop}

-- ---- one value

pub fault_told : (o : Outcome ⊥ Value) (k : EntryFault) → Faults k ≡ with_needs {M = ℕ} o → o ≡ Faults k
fault_told (Gives w) k e = cc e
fault_told (Faults l) k e = let i : k ≡ l = cc e in ap Faults (sym i)
fault_told (Needs m) k e = elim m [ ]

pub given_value : (o : Outcome ⊥ Value) (c : ℕ) (i : ColumnInput) (v : Value) → o ≡ Gives v → input_outcome c i ≡ with_needs o → input_outcome c i ≡ Gives v
given_value o c i v is e = e ∙ ap with_needs is

pub stored_value : (o : Outcome ⊥ Value) (v : Value) → o ≡ Gives v → IsStoredOutcome o → IsStoredValue v
stored_value o v is h = subst IsStoredOutcome is h

-- ---- the values of all

module _ {A B : Type 0} (f : A → Outcome ⊥ B) where
  two_given : (y : B) (o : Outcome ⊥ (List B)) (vs : List B) → (o >>= λ ys. Gives (y ∷ ys)) ≡ Gives vs → (ys : List B) × (o ≡ Gives ys) × (vs ≡ y ∷ ys)
  two_given y (Gives ys) vs h = (ys, refl, (let a : ◌≡◌ {A = Outcome ⊥ (List B)} (Gives (y ∷ ys)) (Gives vs) = h in cc a))
  two_given y (Faults k) vs h = cc h
  two_given y (Needs m) vs h = elim m [ ]

  first_given : (o : Outcome ⊥ B) (rest : Outcome ⊥ (List B)) (vs : List B) → (o >>= λ y. rest >>= λ ys. Gives (y ∷ ys)) ≡ Gives vs → (y : B) × (o ≡ Gives y) × ((ys : List B) × (rest ≡ Gives ys) × (vs ≡ y ∷ ys))
  first_given (Gives y) rest vs h = (y, refl, two_given y rest vs h)
  first_given (Faults k) rest vs h = cc h
  first_given (Needs m) rest vs h = elim m [ ]

  -- the value at a place
  pub each_given : (cs : List A) (vs : List B) (i : ℕ) (c e : A) (d : B) → for_all f cs ≡ Gives vs → i < length cs → c ≡ get_or cs i e → (f c ≡ Gives (get_or vs i d)) × (i < length vs)
  each_given [] vs i c e d h lt is = absurd (omega (arith, lt))
  each_given (x ∷ xs) vs zero c e d h lt is =
      let g = first_given (f x) (for_all f xs) vs h in
      (ap f is ∙ g.1 ∙ ap (λ l. Gives (get_or l 0 d)) (sym g.2.2), (let n = ap length g.2.2 in omega (arith, n)))
  each_given (x ∷ xs) vs (suc i) c e d h lt is =
      let g = first_given (f x) (for_all f xs) vs h in
      let r = each_given xs g.2.0 i c e d g.2.1 (omega (arith, lt)) is in
      (r.0 ∙ ap (λ l. Gives (get_or l (suc i) d)) (sym g.2.2), (let n = ap length g.2.2 in let m = r.1 in omega (arith, n, m)))

  pub all_given : (cs : List A) (vs : List B) → for_all f cs ≡ Gives vs → length vs ≡ length cs
  all_given [] vs h = (let a : ◌≡◌ {A = Outcome ⊥ (List B)} (Gives []) (Gives vs) = h in let q : [] ≡ vs = cc a in ap length (sym q))
  all_given (x ∷ xs) vs h =
      let g = first_given (f x) (for_all f xs) vs h in
      let r = all_given xs g.2.0 g.2.1 in
      ap length g.2.2 ∙ ap suc r

  pub both_given : (c : A) (cs : List A) (v : B) (vs : List B) → f c ≡ Gives v → for_all f cs ≡ Gives vs → for_all f (c ∷ cs) ≡ Gives (v ∷ vs)
  both_given c cs v vs h k = λ i. h i >>= λ y. k i >>= λ ys. Gives (y ∷ ys)

  pub later_faults : (c : A) (cs : List A) (v : B) (k : EntryFault) → f c ≡ Gives v → for_all f cs ≡ Faults k → for_all f (c ∷ cs) ≡ Faults k
  later_faults c cs v k h q = λ i. h i >>= λ y. q i >>= λ ys. Gives (y ∷ ys)

-- ---- an entry

-- filters, and then columns
abbrev pub both : Outcome ⊥ Bool → Outcome ⊥ (List Value) → Outcome ⊥ (Option (List Value))
both o c = o >>= λ passed. if passed then c >>= kept_cells else Gives None

pub filters_stop : (o : Outcome ⊥ Bool) (c : Outcome ⊥ (List Value)) (all : Outcome ⊥ (Option (List Value))) (kind : EntryFault) → all ≡ both o c → o ≡ Faults kind → all ≡ Faults kind
filters_stop o c all kind is h = is ∙ ap (λ x. both x c) h

pub not_kept : (o : Outcome ⊥ Bool) (c : Outcome ⊥ (List Value)) (all : Outcome ⊥ (Option (List Value))) → all ≡ both o c → o ≡ Gives false → all ≡ Gives None
not_kept o c all is h = is ∙ ap (λ x. both x c) h

pub columns_stop : (o : Outcome ⊥ Bool) (c : Outcome ⊥ (List Value)) (all : Outcome ⊥ (Option (List Value))) (kind : EntryFault) → all ≡ both o c → o ≡ Gives true → c ≡ Faults kind → all ≡ Faults kind
columns_stop o c all kind is h k = is ∙ ap (λ x. both x c) h ∙ ap (λ x. x >>= kept_cells) k

pub is_kept : (o : Outcome ⊥ Bool) (c : Outcome ⊥ (List Value)) (all : Outcome ⊥ (Option (List Value))) (cells : List Value) → all ≡ both o c → o ≡ Gives true → c ≡ Gives cells → all ≡ Gives (Some cells)
is_kept o c all cells is h k = is ∙ ap (λ x. both x c) h ∙ ap (λ x. x >>= kept_cells) k

-- ---- what is answered for an entry

module _ (p : PlanView) (d : Dataset) (e : ℕ) (o : Outcome ⊥ Bool) (c : Outcome ⊥ (List Value)) (is : outcome_at p d e ≡ both o c) (before after : List ℕ) where
  pub entry_stopped : (s : EntryStop) → IsAnswer {A = Bool} o (Err s) → IsEntryAnswer p d e before after (Err s)
  entry_stopped (EntryStop.Fault kind) h = filters_stop o c (outcome_at p d e) kind is h
  entry_stopped EntryStop.Memory h = tt

  pub entry_skipped : o ≡ Gives false → after ≡ before → IsEntryAnswer p d e before after (Ok tt)
  entry_skipped h same = (None, not_kept o c (outcome_at p d e) is h, same ∙ sym (append-nil before))

  pub entry_kept : (r : Result (Unit {0}) EntryStop) → o ≡ Gives true → IsRowAnswer c before after r → IsEntryAnswer p d e before after r
  entry_kept (Ok u) h k = (Some k.0, is_kept o c (outcome_at p d e) k.0 is h k.1, k.2)
  entry_kept (Err (EntryStop.Fault kind)) h k = columns_stop o c (outcome_at p d e) kind is h k
  entry_kept (Err EntryStop.Memory) h k = tt

pub row_stopped : (p : PlanView) (d : Dataset) (cells : List Known) (e : ℕ) (cs : List ℕ) (before after : List ℕ) (s : EntryStop) → AreServed p d cells e cs (Err s) → IsRowAnswer (for_all (version_in p d e) cs) before after (Err s)
row_stopped p d cells e cs before after (EntryStop.Fault kind) h = h
row_stopped p d cells e cs before after EntryStop.Memory h = tt

-- ---- columns that are served

pub served_more : (p : PlanView) (d : Dataset) (before after : List Known) (e c : ℕ) (cs : List ℕ) (r : Result (Unit {0}) EntryStop)
    → IsServed p d before e c (Ok tt) → Grows e before after → AreServed p d after e cs r → AreServed p d after e (c ∷ cs) r
served_more p d before after e c cs (Ok u) h grows k = ((h.0.0 ∷ k.0.0, both_given (version_in p d e) c cs h.0.0 k.0.0 h.0.1 k.0.1), (held_grows before after e (source_of p d c) grows h.1, k.1))
served_more p d before after e c cs (Err (EntryStop.Fault kind)) h grows k = later_faults (version_in p d e) c cs h.0.0 kind h.0.1 k
served_more p d before after e c cs (Err EntryStop.Memory) h grows k = tt

-- ---- cells that are gathered

pub all_at : {A : Type 0} (P : A → Type 0) (cs : List A) (i : ℕ) (c d : A) → AllByRecursion P cs → i < length cs → c ≡ get_or cs i d → P c
all_at P [] i c d h lt is = absurd (omega (arith, lt))
all_at P (x ∷ xs) zero c d h lt is = subst P (sym is) h.0
all_at P (x ∷ xs) (suc i) c d h lt is = all_at P xs i c d h.1 (omega (arith, lt)) is

take_next : {A : Type 0} (xs : List A) (i : ℕ) (d : A) → i < length xs → take i xs ++ get_or xs i d ∷ [] ≡ take (suc i) xs
take_next [] i d lt = absurd (omega (arith, lt))
take_next (x ∷ xs) zero d lt = refl
take_next (x ∷ xs) (suc i) d lt = ap (λ l. x ∷ l) (take_next xs i d (omega (arith, lt)))

take_all : {A : Type 0} (xs : List A) (n : ℕ) → length xs ≡ n → take n xs ≡ xs
take_all [] zero h = refl
take_all [] (suc n) h = refl
take_all (x ∷ xs) zero h = absurd (omega (arith, h))
take_all (x ∷ xs) (suc n) h = ap (λ l. x ∷ l) (take_all xs n (omega (arith, h)))

pub gathered_next : (f : ℕ → Outcome ⊥ Value) (cs : List ℕ) (vs : List Value) (i c : ℕ) (cell : Cell) (row more : List Cell)
    → for_all f cs ≡ Gives vs → i < length cs → c ≡ get_or cs i 0 → ((v : Value) → f c ≡ Gives v → value_of cell ≡ v) → map value_of row ≡ take i vs → more ≡ row ++ cell ∷ [] → map value_of more ≡ take (i + 1) vs
gathered_next f cs vs i c cell row more h lt is its so_far grown =
    let g = each_given f cs vs i c 0 (Value.Int (pos 0)) h lt is in
    ap (map value_of) grown ∙ map-append value_of row (cell ∷ []) ∙ ap (λ l. l ++ value_of cell ∷ []) so_far ∙ ap (λ v. take i vs ++ v ∷ []) (its _ g.0)
    ∙ take_next vs i (Value.Int (pos 0)) g.1 ∙ (let e : suc i ≡ i + 1 = omega arith in ap (λ k. take k vs) e)

pub gathered_all : (f : ℕ → Outcome ⊥ Value) (cs : List ℕ) (vs : List Value) (n : ℕ) (row : List Cell) → for_all f cs ≡ Gives vs → n ≡ length cs → map value_of row ≡ take n vs → map value_of row ≡ vs
gathered_all f cs vs n row h is so_far = so_far ∙ take_all vs n (all_given f cs vs h ∙ sym is)

pub cell_given : (p : PlanView) (d : Dataset) (e : ℕ) (lt : e < length d.rows) (cs : List ℕ) (vs : List Value) (i c : ℕ) (input : ColumnInput) → for_all (version_in p d e) cs ≡ Gives vs → i < length cs → c ≡ get_or cs i 0
    → AllByRecursion (IsColumn p d) cs → input_outcome c input ≡ with_needs (version_in p d e c) → (n : ℕ) × (v : Value) × (input_outcome n input ≡ Gives v) × IsStoredValue v
cell_given p d e lt cs vs i c input h within is columns told =
    let g = each_given (version_in p d e) cs vs i c 0 (Value.Int (pos 0)) h within is in
    let column = all_at (IsColumn p d) cs i c 0 columns within is in
    (c, get_or vs i (Value.Int (pos 0)), given_value (version_in p d e c) c input _ g.0 told, stored_value (version_in p d e c) _ g.0 (column.1 e lt))
