-- Rows one after another: their first fault, and the entries that are kept.
use Rattle.lemmas.proofs.{◌≡◌, ℕ, suc, ◌+◌, ◌<◌, ◌≤◌, List, [], ◌∷◌, ◌++◌, length, Option, Some, None, refl, sym, ◌∙◌, ap, ap₂, arith, filter_map}
use Rattle.std.specs.List.{cons_option}
use Rattle.rdf_values.specs.{EntryFault, Path, Under, Value}
use Rattle.rdf_model.specs.{Dataset, fault_in, Faults, Gives}
use Rattle.snapshot_rows.specs.{cells_in, fault_from, fault_or, kept_row, kept_rows, row_outcome, SnapFault}

-- the first fault of rows and then of those behind them
abbrev pub first_of : Option SnapFault → Option SnapFault → Option SnapFault
first_of None b = b
first_of (Some f) b = Some f

or_first : (e : ℕ) (o : Option EntryFault) (a b : Option SnapFault) → fault_or e o (first_of a b) ≡ first_of (fault_or e o a) b
or_first e None a b = refl
or_first e (Some kind) a b = refl

kept_next : {A B : Type 0} (h : A → Option B) (o : Option B) (xs ys : List B) → cons_option o (xs ++ ys) ≡ cons_option o xs ++ ys
kept_next h None xs ys = refl
kept_next h (Some b) xs ys = refl

pub kept_append : {A B : Type 0} (h : A → Option B) (xs ys : List A) → filter_map h (xs ++ ys) ≡ filter_map h xs ++ filter_map h ys
kept_append h [] ys = refl
kept_append h (x ∷ xs) ys = ap (cons_option (h x)) (kept_append h xs ys) ∙ kept_next h (h x) (filter_map h xs) (filter_map h ys)

module _ (d : Dataset) (at : Path) (names : List (List ℕ)) (u : Under) where
  abbrev first : ℕ → List (List Value) → Option SnapFault
  first e rows = fault_from d at names u e rows

  pub fault_append : (xs ys : List (List Value)) (e : ℕ) → first e (xs ++ ys) ≡ first_of (first e xs) (first (e + length xs) ys)
  fault_append [] ys e = let same : e ≡ e + 0 = omega arith in ap (λ k. first k ys) same
  fault_append (x ∷ xs) ys e =
      let same : (e + 1) + length xs ≡ e + suc (length xs) = omega arith in
      ap (fault_or e (fault_in (row_outcome d at names u x))) (fault_append xs ys (e + 1) ∙ ap (λ k. first_of (first (e + 1) xs) (first k ys)) same)
      ∙ or_first e (fault_in (row_outcome d at names u x)) (first (e + 1) xs) (first (e + suc (length xs)) ys)

  -- the fault of some rows lies among them
  pub fault_within : (rows : List (List Value)) (e : ℕ) (f : SnapFault) → first e rows ≡ Some f → (e ≤ f.entry) × (f.entry < e + length rows)
  fault_within [] e f h = cc h
  fault_within (row ∷ rows) e f h = go (fault_in (row_outcome d at names u row)) (first (e + 1) rows) (λ g q. fault_within rows (e + 1) g q) h
    where
      go : (o : Option EntryFault) (after : Option SnapFault) → ((g : SnapFault) → after ≡ Some g → (e + 1 ≤ g.entry) × (g.entry < e + 1 + length rows)) → fault_or e o after ≡ Some f → (e ≤ f.entry) × (f.entry < e + suc (length rows))
      go None after more q = let w = more f q in let a = w.0 in let b = w.1 in (omega (arith, a), omega (arith, b))
      go (Some kind) after more q =
          let same : record { entry = e; kind = kind } ≡ f = cc q in
          let is : e ≡ f.entry = ap (λ (g : SnapFault). g.entry) same in
          (omega (arith, is), omega (arith, is))

  -- ---- one row more

  -- a row behind rows without a fault
  pub next_row : (rows : List (List Value)) (row : List Value) (e n : ℕ) (kept : Option (List Value)) → n ≡ e + length rows → first e rows ≡ None → row_outcome d at names u row ≡ Gives kept
      → (first e (rows ++ row ∷ []) ≡ None) × (kept_rows d at names u (rows ++ row ∷ []) ≡ kept_rows d at names u rows ++ cons_option kept [])
  next_row rows row e n kept is none gives = (
    fault_append rows (row ∷ []) e ∙ ap₂ first_of none (ap (λ o. fault_or (e + length rows) (fault_in o) None) gives),
    kept_append (kept_row d at names u) rows (row ∷ []) ∙ ap (λ o. kept_rows d at names u rows ++ cons_option (cells_in o) []) gives,
  )

  pub faulted_row : (rows rest : List (List Value)) (row : List Value) (e n : ℕ) (kind : EntryFault) → n ≡ e + length rows → first e rows ≡ None → row_outcome d at names u row ≡ Faults kind
      → first e (rows ++ row ∷ rest) ≡ Some (record { entry = n; kind = kind })
  faulted_row rows rest row e n kind is none faults =
      fault_append rows (row ∷ rest) e ∙ ap₂ first_of none (ap (λ o. fault_or (e + length rows) (fault_in o) (first (e + length rows + 1) rest)) faults)
      ∙ ap (λ k. Some (record { entry = k; kind = kind })) (sym is)
