-- A snapshot's fault is that of the least entry which has one.
use Rattle.lemmas.proofs.{◌≡◌, ◌⊎◌, inl, inr, ℕ, zero, suc, ◌+◌, ◌<◌, Bool, true, false, List, [], ◌∷◌, Option, Some, None, refl, sym, ◌∙◌, ap, subst, arith, slice_get}
use Rattle.rdf_values.specs.{EntryFault, Value}
use Rattle.rdf_model.specs.{Dataset, fault_in, Faults, Gives, Needs, Outcome}
use Rattle.snapshot_plan.specs.{PlanView}
use Rattle.snapshot_rows.specs.{columns_in, fault_or, FaultsWith, HasNoFault, IsLeastFault, passed_in, plan_path, row_outcome, SnapFault, snapshot_fault, SnapshotFaultIsLeast}
use Rattle.snapshot_rows.proofs.Entries.{both, is_faulted, is_taken}

faulted : (o : Outcome ⊥ Bool) (c : Outcome ⊥ (List Value)) (kind : EntryFault) → fault_in (both o c) ≡ Some kind → (o ≡ Faults kind) ⊎ ((o ≡ Gives true) × (c ≡ Faults kind))
faulted (Gives true) (Gives cells) kind h = cc h
faulted (Gives true) (Faults k) kind h = let e : k ≡ kind = cc h in inr (refl, ap (λ x. Faults x) e)
faulted (Gives true) (Needs m) kind h = elim m [ ]
faulted (Gives false) c kind h = cc h
faulted (Faults k) c kind h = let e : k ≡ kind = cc h in inl (ap (λ x. Faults x) e)
faulted (Needs m) c kind h = elim m [ ]

faultless : (o : Outcome ⊥ Bool) (c : Outcome ⊥ (List Value)) → fault_in (both o c) ≡ None → (o ≡ Gives false) ⊎ ((o ≡ Gives true) × ((cells : List Value) × (c ≡ Gives cells)))
faultless (Gives true) (Gives cells) h = inr (refl, (cells, refl))
faultless (Gives true) (Faults k) h = cc h
faultless (Gives true) (Needs m) h = elim m [ ]
faultless (Gives false) c h = inl refl
faultless (Faults k) c h = cc h
faultless (Needs m) c h = elim m [ ]

module _ (p : PlanView) (d : Dataset) where
  abbrev FaultsNowhere : List (List Value) → Type 0
  FaultsNowhere rows = (e : ℕ) (row : List Value) → slice_get rows e ≡ Some row → HasNoFault p d row

  -- the fault is that of the least of the rows, of which the first is entry e
  record IsLeastIn (e : ℕ) (rows : List (List Value)) (f : SnapFault) : Type 0 where
    pub place : ℕ
    pub row : List Value
    pub number : f.entry ≡ e + place
    pub its_row : slice_get rows place ≡ Some row
    pub its_fault : FaultsWith p d row f.kind
    pub earlier : (i : ℕ) (r : List Value) → i < place → slice_get rows i ≡ Some r → HasNoFault p d r

  at_first : (row r : List Value) → HasNoFault p d row → Some row ≡ Some r → HasNoFault p d r
  at_first row r h q = let e : row ≡ r = cc q in subst (HasNoFault p d) e h

  none_step : (e : ℕ) (row : List Value) (rows : List (List Value)) (o : Option EntryFault) (after : Option SnapFault)
      → (o ≡ None → HasNoFault p d row) → (after ≡ None → FaultsNowhere rows) → fault_or e o after ≡ None → FaultsNowhere (row ∷ rows)
  none_step e row rows None after here next h zero r q = at_first row r (here refl) q
  none_step e row rows None after here next h (suc i) r q = next h i r q
  none_step e row rows (Some kind) after here next h i r q = cc h

  faults_nowhere : (rows : List (List Value)) (e : ℕ) → snapshot_fault p d e rows ≡ None → FaultsNowhere rows
  faults_nowhere [] e h = λ i r q. cc q
  faults_nowhere (row ∷ rows) e h =
      none_step e row rows (fault_in (row_outcome d (plan_path p) p.columns p.under row)) (snapshot_fault p d (e + 1) rows) (faultless (passed_in p d row) (columns_in p d row)) (λ q. faults_nowhere rows (e + 1) q) h

  here_first : (e : ℕ) (row : List Value) (rows : List (List Value)) (kind : EntryFault) (f : SnapFault) → FaultsWith p d row kind → record { entry = e; kind = kind } ≡ f → IsLeastIn e (row ∷ rows) f
  here_first e row rows kind f h q = record {
    place = 0;
    row = row;
    number = ap (λ (x : SnapFault). x.entry) (sym q) ∙ omega arith;
    its_row = refl;
    its_fault = subst (FaultsWith p d row) (ap (λ (x : SnapFault). x.kind) q) h;
    earlier = λ i r lt _. absurd (omega (arith, lt));
  }

  earlier_too : (row : List Value) (rows : List (List Value)) (place : ℕ) → HasNoFault p d row
      → ((i : ℕ) (r : List Value) → i < place → slice_get rows i ≡ Some r → HasNoFault p d r)
      → (i : ℕ) (r : List Value) → i < suc place → slice_get (row ∷ rows) i ≡ Some r → HasNoFault p d r
  earlier_too row rows place h before zero r lt q = at_first row r h q
  earlier_too row rows place h before (suc i) r lt q = before i r (omega (arith, lt)) q

  later_on : (e : ℕ) (row : List Value) (rows : List (List Value)) (f : SnapFault) → HasNoFault p d row → IsLeastIn (e + 1) rows f → IsLeastIn e (row ∷ rows) f
  later_on e row rows f h l =
      let number : f.entry ≡ e + suc l.place = omega (arith, l.number) in
      record {
        place = suc l.place;
        row = l.row;
        number = number;
        its_row = l.its_row;
        its_fault = l.its_fault;
        earlier = earlier_too row rows l.place h l.earlier;
      }

  fault_step : (e : ℕ) (row : List Value) (rows : List (List Value)) (f : SnapFault) (o : Option EntryFault) (after : Option SnapFault)
      → (o ≡ None → HasNoFault p d row) → ((kind : EntryFault) → o ≡ Some kind → FaultsWith p d row kind) → (after ≡ Some f → IsLeastIn (e + 1) rows f)
      → fault_or e o after ≡ Some f → IsLeastIn e (row ∷ rows) f
  fault_step e row rows f None after good bad next h = later_on e row rows f (good refl) (next h)
  fault_step e row rows f (Some kind) after good bad next h = here_first e row rows kind f (bad kind refl) (cc h)

  faults_least : (rows : List (List Value)) (e : ℕ) (f : SnapFault) → snapshot_fault p d e rows ≡ Some f → IsLeastIn e rows f
  faults_least [] e f h = cc h
  faults_least (row ∷ rows) e f h =
      fault_step e row rows f (fault_in (row_outcome d (plan_path p) p.columns p.under row)) (snapshot_fault p d (e + 1) rows)
      (faultless (passed_in p d row) (columns_in p d row)) (faulted (passed_in p d row) (columns_in p d row)) (λ q. faults_least rows (e + 1) f q) h

  least : (f : SnapFault) → IsLeastIn 0 d.rows f → IsLeastFault p d f
  least f l =
      let place : l.place ≡ f.entry = omega (arith, l.number) in
      record {
        row = l.row;
        its_row = ap (slice_get d.rows) (sym place) ∙ l.its_row;
        its_fault = l.its_fault;
        earlier = λ i r lt q. l.earlier i r (omega (arith, lt, place)) q;
      }

pub snapshot_fault_is_least : SnapshotFaultIsLeast
snapshot_fault_is_least p d = (
  λ f h. least p d f (faults_least p d d.rows 0 f (is_faulted _ f (snapshot_fault p d 0 d.rows) h)),
  λ t h. faults_nowhere p d d.rows 0 (is_taken _ t (snapshot_fault p d 0 d.rows) h).1,
)
