-- What a cell of two axes holds after one more point, and rows kept in one list.
use Rattle.lemmas.proofs.{ℕ, suc, ◌≡◌, ◌+◌, ◌*◌, ◌<◌, ◌≤◌, length, get_or, set, map, take, drop, List, [], ◌∷◌, ◌++◌, ℤ, pos, arith, refl, ap, sym, ◌∙◌, length-drop, flat_map, drop-map, eq-eqb, eqb_tells, get_or-drop, get_or-take, length-map, length-set, length-take-le, rows, same_from_place, take-map}
use Rattle.rdf_values.proofs.UnionLemmas.{map-below}
use Rattle.rdf_values.specs.{bin, cells_on, Item, square_cell, weight_in2}
use Rattle.rdf_values.specs.declared.results.Item.TheVariants.{Point2}
use Rattle.rdf_values.specs.results.Fold.{Cell}
use Rattle.histograms.specs.{cell_seen, CellSum, rows_on, square_cells, together, with_weight}
use Rattle.histograms.proofs.Filling.{AreOf, from_places, get_or-cells_on, kept_at, length-cells_on, of_both, with_item}

-- the places of the row i lie in the list
row_within : (w h i j : ℕ) → i ≤ h → j < w → i * w + j < (h + 1) * w
row_within w h i j a b = grind (arith, rows)

row_fits : (w h i : ℕ) → i ≤ h → i * w + w ≤ (h + 1) * w
row_fits w h i a = grind (arith, rows)

module _ (xs ys : List ℤ) where
  -- a row, as it is kept
  row_kept : (cells : List CellSum) (i : ℕ) → take (length ys + 1) (drop (i * (length ys + 1)) (map cell_seen cells)) ≡ map cell_seen (take (length ys + 1) (drop (i * (length ys + 1)) cells))
  row_kept cells i = ap (take (length ys + 1)) (drop-map cell_seen (i * (length ys + 1)) cells) ∙ take-map cell_seen (length ys + 1) (drop (i * (length ys + 1)) cells)

  row_long : (cells : List CellSum) (i : ℕ) → length cells ≡ (length xs + 1) * (length ys + 1) → i ≤ length xs → length (take (length ys + 1) (drop (i * (length ys + 1)) cells)) ≡ length ys + 1
  row_long cells i size l = grind (arith, row_fits, length-drop, length-take-le)

  -- a cell of two axes by its place
  row_place : (cells : List CellSum) (i j : ℕ) (d : CellSum) → j ≤ length ys → get_or (take (length ys + 1) (drop (i * (length ys + 1)) cells)) j d ≡ get_or cells (i * (length ys + 1) + j) d
  row_place cells i j d m = grind (arith, get_or-take, get_or-drop)

  abbrev Within2 : ℕ × ℕ → Type 0
  Within2 p = (p.0 ≤ length xs) × (p.1 ≤ length ys)

  abbrev place2 : ℕ × ℕ → ℕ
  place2 p = p.0 * (length ys + 1) + p.1

  abbrev weights2 : ℕ × ℕ → Item → List ℤ
  weights2 p = weight_in2 xs ys p.0 p.1

  -- rows are the cells of points, where each cell is
  rows_from_places : (points : List Item) (cells : List CellSum) → length cells ≡ (length xs + 1) * (length ys + 1) → AreOf Within2 place2 weights2 cells points → rows_on xs ys (map cell_seen cells) ≡ square_cells xs ys points
  rows_from_places points cells size each = map-below (suc (length xs)) _ _ (λ i l. row_kept cells i ∙ from_places (square_cell xs ys points i) ys _ (row_long cells i size (omega arith)) (λ j d m. ap cell_seen (row_place cells i j d m) ∙ each (i, j) d (omega arith, m)))

  -- a cell that is kept, where the rows are the cells of points
  kept_in_row : (points : List Item) (cells : List CellSum) → length cells ≡ (length xs + 1) * (length ys + 1) → rows_on xs ys (map cell_seen cells) ≡ square_cells xs ys points → AreOf Within2 place2 weights2 cells points
  kept_in_row points cells size same p d within =
      let row = get_or-cells_on (λ k. take (length ys + 1) (drop (k * (length ys + 1)) (map cell_seen cells))) xs p.0 [] within.0 in
      let seen = get_or-cells_on (λ k. map (square_cell xs ys points k) (cells_on ys)) xs p.0 [] within.0 in
      ap cell_seen (sym (row_place cells p.0 p.1 d within.1)) ∙ kept_at (square_cell xs ys points p.0) ys _ p.1 d (row_long cells p.0 size within.0) (sym (row_kept cells p.0) ∙ sym row ∙ ap (λ rs. get_or rs p.0 []) same ∙ seen) within.1

  weights_yes : (x y w : ℤ) (i j : ℕ) → i ≡ bin xs x → j ≡ bin ys y → flat_map (weight_in2 xs ys i j) (Point2 x y w ∷ []) ≡ w ∷ []
  weights_yes x y w i j e f = rw (eq-eqb (bin xs x) i (sym e), eq-eqb (bin ys y) j (sym f)) refl

  weights_no : (x y w : ℤ) (i j : ℕ) → (i * (length ys + 1) + j ≡ bin xs x * (length ys + 1) + bin ys y → ⊥) → flat_map (weight_in2 xs ys i j) (Point2 x y w ∷ []) ≡ []
  weights_no x y w i j ne = grind (arith, eqb_tells)

  -- the cells after one more point
  pub square_cells-point : (points : List Item) (x y w : ℤ) (cells : List CellSum) (cell : CellSum) (place : ℕ) → length cells ≡ (length xs + 1) * (length ys + 1) → bin xs x ≤ length xs → bin ys y ≤ length ys
      → place ≡ bin xs x * (length ys + 1) + bin ys y → cell ≡ get_or cells place cell → rows_on xs ys (map cell_seen cells) ≡ square_cells xs ys points
      → rows_on xs ys (map cell_seen (set cells place (with_weight cell w))) ≡ square_cells xs ys (points ++ Point2 x y w ∷ [])
  square_cells-point points x y w cells cell place size within within' at read same =
      let inside = row_within (length ys + 1) (length xs) (bin xs x) (bin ys y) within (omega arith) in
      rows_from_places (points ++ Point2 x y w ∷ []) _ (length-set cells place (with_weight cell w) ∙ size) (with_item Within2 place2 weights2 cells points (Point2 x y w) w place cell (omega arith) read
      (λ p h e. let both = same_from_place p.0 p.1 (bin xs x) (bin ys y) (length ys + 1) (omega arith) (omega arith) (e ∙ at) in weights_yes x y w p.0 p.1 both.0 both.1)
      (λ p h ne. weights_no x y w p.0 p.1 (λ e. ne (e ∙ sym at))) (kept_in_row points cells size same))

  -- the cells of two lists of points
  pub square_cells-append : (points more : List Item) (cells others all : List CellSum) → length cells ≡ (length xs + 1) * (length ys + 1) → length others ≡ (length xs + 1) * (length ys + 1) → length all ≡ (length xs + 1) * (length ys + 1)
      → ((k : ℕ) (d : CellSum) → k < length cells → get_or all k d ≡ together (get_or cells k d) (get_or others k d))
      → rows_on xs ys (map cell_seen cells) ≡ square_cells xs ys points → rows_on xs ys (map cell_seen others) ≡ square_cells xs ys more
      → rows_on xs ys (map cell_seen all) ≡ square_cells xs ys (points ++ more)
  square_cells-append points more cells others all size size' size'' each same same' =
      rows_from_places (points ++ more) all size'' (of_both Within2 place2 weights2 cells others all points more
      (λ p h. let inside = row_within (length ys + 1) (length xs) p.0 p.1 h.0 (omega arith) in omega arith) each (kept_in_row points cells size same) (kept_in_row more others size' same'))

  -- cells without weights are those of no points
  pub square_cells-none : (cells : List CellSum) → length cells ≡ (length xs + 1) * (length ys + 1)
      → ((k : ℕ) (d : CellSum) → k < length cells → get_or cells k d ≡ record { sum = pos 0; squares = pos 0 }) → rows_on xs ys (map cell_seen cells) ≡ square_cells xs ys []
  square_cells-none cells size each =
      rows_from_places [] cells size (λ p d h. let inside = row_within (length ys + 1) (length xs) p.0 p.1 h.0 (omega arith) in ap cell_seen (each (place2 p) d (omega arith)))

  -- one row of the cells that are seen
  pub cell_of_row : (cells : List CellSum) (i j : ℕ) (d : Cell) → i ≤ length xs → j ≤ length ys
      → get_or (get_or (rows_on xs ys (map cell_seen cells)) i []) j d ≡ get_or (map cell_seen cells) (i * (length ys + 1) + j) d
  cell_of_row cells i j d l m = grind (arith, get_or-cells_on, get_or-take, get_or-drop)

-- the place of a cell lies in the list
pub place_within : (xs ys : List ℤ) (i j place size : ℕ) → size ≡ (length xs + 1) * (length ys + 1) → i ≤ length xs → j ≤ length ys → place ≡ i * (length ys + 1) + j → place < size
place_within xs ys i j place size e l m at = let inside = row_within (length ys + 1) (length xs) i j l (omega arith) in omega arith

-- a row is as long as the second axis has cells
pub length-row : (xs ys : List ℤ) (cells : List CellSum) (i : ℕ) → length cells ≡ (length xs + 1) * (length ys + 1) → i ≤ length xs → length (get_or (rows_on xs ys (map cell_seen cells)) i []) ≡ length ys + 1
length-row xs ys cells i size l = grind (arith, row_fits, length-map, length-drop, get_or-cells_on, length-take-le)

-- as many rows as the first axis has cells
pub length-rows : (xs ys : List ℤ) (cells : List CellSum) → length (rows_on xs ys (map cell_seen cells)) ≡ length xs + 1
length-rows xs ys cells = length-map (cells_on xs) (λ i. take (length ys + 1) (drop (i * (length ys + 1)) (map cell_seen cells))) ∙ length-cells_on xs
