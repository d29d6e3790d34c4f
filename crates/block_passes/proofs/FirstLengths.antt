-- How many entries the next block has, entry by entry.
use Rattle.lemmas.proofs.{◌≡◌, ℕ, ℤ, zero, suc, ◌+◌, ◌-◌, ◌*◌, ◌<◌, ◌≤◌, Bool, true, ◌&&◌, List, [], ◌∷◌, length, map, take, drop, Some, refl, sym, ◌∙◌, ap, subst, arith, slice_get, if◌then◌else◌, nat_le, option_and_then, option_map, slice_range, sum_by, unwrap_or, drop-cons, get_or_from_slice_get, le-leb, lt-leb, lt-ltb, slice_get_within, something_at, sum_by-append, sum_by-cons, take_next, same_Some}
use Rattle.rdf_values.specs.{cell, ColType, Column, FitRows, FitsColumn, FitsKind, FitsRow, IsTable, kind_at, TableView, Value}
use Rattle.block_laws.specs.{elements_in, first_length, more_fit, one_more_fits, row_elements}
use Rattle.std.proofs.lemmas.List.{take_all}
use Rattle.rdf_values.proofs.KeptLemmas.{fits_length}
use Rattle.loop_keys.proofs.ActionLaws.{fits_at as fits_rows}

-- ---- the cells of an entry

row_fits : (cols : List Column) (rows : List (List Value)) (e : ℕ) (row : List Value) → FitRows cols rows → slice_get rows e ≡ Some row → FitsRow cols row
row_fits cols rows e row h at = subst (FitsRow cols) (ap (λ o. unwrap_or o []) at) (fits_rows cols rows e h (slice_get_within rows e row at))

pub fits_at : (cols : List Column) (row : List Value) (i : ℕ) → FitsRow cols row → i < length cols → (c : Column) × (v : Value) × (slice_get cols i ≡ Some c) × (slice_get row i ≡ Some v) × FitsColumn c.kind v
fits_at [] [] i h lt = absurd (omega (arith, lt))
fits_at [] (v ∷ vs) i h lt = elim h [ ]
fits_at (c ∷ cs) [] i h lt = elim h [ ]
fits_at (c ∷ cs) (v ∷ vs) zero h lt = (c, v, refl, refl, h.0)
fits_at (c ∷ cs) (v ∷ vs) (suc i) h lt = fits_at cs vs i h.1 (omega (arith, lt))

module _ (t : TableView) (table : IsTable t) (e i : ℕ) (inside : i < length t.columns) where
  fits_cell : (k : ColType) → kind_at t.columns i ≡ Some k → (row : List Value) (v : Value) → slice_get t.rows e ≡ Some row → slice_get row i ≡ Some v → FitsKind k v
  fits_cell k its row v here at =
      let w = fits_at t.columns row i (row_fits t.columns t.rows e row table.fit here) inside in
      subst (λ (q : ColType). FitsKind q v) (same_Some w.0.kind k (sym (ap (option_map (λ (c : Column). c.kind)) w.2) ∙ its)) (subst (λ (x : Value). FitsKind w.0.kind x) (same_Some w.1 v (sym w.3 ∙ at)) w.4.0)

  -- a cell of another column than one of vectors has no elements
  pub plain_cell : (k : ColType) → kind_at t.columns i ≡ Some k → (k ≡ ColType.Vect → ⊥) → (row : List Value) (v : Value) → slice_get t.rows e ≡ Some row → slice_get row i ≡ Some v → 0 ≡ elements_in v
  plain_cell k its other row v here at = let f = fits_cell k its row v here at in grind (arith, f)

  -- a vector has few
  pub vect_cell : kind_at t.columns i ≡ Some ColType.Vect → e < length t.rows → (zs : List ℤ) → cell t e i ≡ Some (Value.Vect zs) → length zs ≤ 4096
  vect_cell its lt zs at =
      let r = something_at t.rows e lt in fits_cell ColType.Vect its r.0 (Value.Vect zs) r.1 (sym (ap (option_and_then (λ (row : List Value). slice_get row i)) r.1) ∙ at)

  -- one cell more
  pub next_cells : (row : List Value) → slice_get t.rows e ≡ Some row → (n m : ℕ) → n ≡ sum_by elements_in (take i row)
      → ((r : List Value) (v : Value) → slice_get t.rows e ≡ Some r → slice_get r i ≡ Some v → m ≡ elements_in v) → n + m ≡ sum_by elements_in (take (i + 1) row)
  next_cells row here n m so_far cell_is =
      let w = fits_at t.columns row i (row_fits t.columns t.rows e row table.fit here) inside in
      let a = ap (sum_by elements_in) (take_next row i w.1 w.3) ∙ sum_by-append elements_in (take i row) (w.1 ∷ []) ∙ ap (λ k. sum_by elements_in (take i row) + k) (sum_by-cons elements_in w.1 []) in
      let b = cell_is row w.1 here w.3 in
      let none : sum_by elements_in [] ≡ 0 = refl in
      omega (arith, so_far, a, b, none)

pub all_cells : (t : TableView) → IsTable t → (e : ℕ) (row : List Value) → slice_get t.rows e ≡ Some row → (i : ℕ) → length t.columns ≤ i → sum_by elements_in (take i row) ≡ sum_by elements_in row
all_cells t table e row here i le = let m = fits_length t.columns row (row_fits t.columns t.rows e row table.fit here) in ap (sum_by elements_in) (take_all i row (omega (arith, m, le)))

-- ---- the entries of a block

module _ (rows : List (List Value)) (keys size most hi : ℕ) where
  abbrev pub costs_from : ℕ → List ℕ
  costs_from e = map (row_elements keys) (slice_range rows e hi)

  costs_head : (e : ℕ) (row : List Value) → slice_get rows e ≡ Some row → e < hi → costs_from e ≡ keys * sum_by elements_in row ∷ costs_from (suc e)
  costs_head e row h lt =
      let m : hi - e ≡ suc (hi - suc e) = omega (arith, lt) in
      ap (map (row_elements keys)) (ap (λ k. take k (drop e rows)) m ∙ ap (λ l. take (suc (hi - suc e)) l) (drop-cons rows e row (slice_get_within rows e row h) ∙ ap (λ r. r ∷ drop (suc e) rows) (get_or_from_slice_get rows e row row h)))

  -- so many entries with so many elements are in the block that begins at an entry, and it may have more
  pub record IsAtEnd (lo end elements : ℕ) : Type 0 where
    pub first : first_length size most (costs_from lo) ≡ (end - lo) + more_fit size most (end - lo) elements (costs_from end)
    pub above : lo < end
    pub within : end ≤ hi

  -- ---- by the elements that are counted at an entry

  abbrev AreOf : ℕ → ℕ → Type 0
  AreOf e n = (row : List Value) → slice_get rows e ≡ Some row → n ≡ row_elements keys row

  module _ (inside : hi ≤ length rows) (lo : ℕ) where
    pub begin_at : (n : ℕ) → lo < hi → AreOf lo n → IsAtEnd lo (lo + 1) n
    begin_at n lt is =
        let r = something_at rows lo (omega (arith, lt, inside)) in
        let head = costs_head lo r.0 r.1 lt in
        let e = is r.0 r.1 in grind (arith, head, e)

    module _ (end elements n : ℕ) (at : IsAtEnd lo end elements) (lt : end < hi) (room : end - lo < size) (is : AreOf end n) where
      abbrev rest : Bool → ℕ
      rest b = if b then suc (more_fit size most (suc (end - lo)) (elements + n) (costs_from (suc end))) else 0

      next_is : more_fit size most (end - lo) elements (costs_from end) ≡ rest (one_more_fits size most (end - lo) elements n)
      next_is =
          let r = something_at rows end (omega (arith, lt, inside)) in
          ap (more_fit size most (end - lo) elements) (costs_head end r.0 r.1 lt ∙ ap (λ c. c ∷ costs_from (suc end)) (sym (is r.0 r.1)))

      -- it fits
      pub next_at : elements + n ≤ most → IsAtEnd lo (end + 1) (elements + n)
      next_at few =
          let t : one_more_fits size most (end - lo) elements n ≡ true = ap (λ b. b && nat_le (elements + n) most) (lt-ltb (end - lo) size room) ∙ le-leb (elements + n) most few in
          let s : suc end ≡ end + 1 = omega arith in
          let up = at.above in
          let d : suc (end - lo) ≡ end + 1 - lo = omega (arith, up) in
          let a : more_fit size most (end - lo) elements (costs_from end) ≡ suc (more_fit size most (suc (end - lo)) (elements + n) (costs_from (suc end))) = next_is ∙ ap rest t in
          let b : more_fit size most (suc (end - lo)) (elements + n) (costs_from (suc end)) ≡ more_fit size most (end + 1 - lo) (elements + n) (costs_from (end + 1)) = λ i. more_fit size most (d i) (elements + n) (costs_from (s i)) in
          let f = at.first in
          record { first = omega (arith, f, a, b, d); above = omega (arith, up); within = omega (arith, lt) }

      -- it doesn't
      pub stop_at : most < elements + n → end ≡ lo + first_length size most (costs_from lo)
      stop_at many = grind (arith, lt-ltb, lt-leb, next_is)
