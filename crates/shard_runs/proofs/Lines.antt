-- The line of an action's items is within limits that are wide enough.
use Rattle.lemmas.proofs.{◌≡◌, ℕ, suc, ◌*◌, ◌^◌, ◌≤◌, ℤ, Bool, true, false, ◌&&◌, List, [], ◌∷◌, ◌++◌, length, map, Option, refl, ap, ◌∙◌, arith, if◌then◌else◌, nat_eq, flat_map, ◌||◌, AllByRecursion, list_all, or_true}
use Rattle.std.specs.Prelude.{⊤}
use Rattle.rdf_values.specs.{ActionKind, bin, cells_on, ColType, flat_cell, fold_items, Has64Bits, Item, numbers_of, Scalar, scalar_of, square_cell, weight_in, weight_in2}
use Rattle.rdf_values.specs.results.Fold.{Cell, cell_of}
use Rattle.rdf_model.specs.{FitsAction}
use Rattle.histograms.specs.{CellSum}
use Rattle.shard_lines.specs.Lines as lines
use Rattle.shard_lines.specs.{are_alike, EachFits, FitsCell, FitsLine, is_number, is_taken_from, is_truth, IsShort, LineLimits}
use Rattle.shard_spans.specs.{cell_sum, filled_line}
use Rattle.shard_runs.proofs.Sums.{IsLight, cell_fits, greatest_fits, least_fits, reduced_fits, sum_fits}

-- ---- numbers

module _ (k : ActionKind) (word : (z : ℤ) → FitsAction k (Item.Number z) → Has64Bits z) where
  number_words : (items : List Item) → AllByRecursion (FitsAction k) items → AllByRecursion Has64Bits (numbers_of items)
  number_words [] h = tt
  number_words (Item.Number z ∷ items) h = (word z h.0, number_words items h.1)
  number_words (Item.Unit ∷ items) h = number_words items h.1
  number_words (Item.Single x ∷ items) h = number_words items h.1
  number_words (Item.Point z w ∷ items) h = number_words items h.1
  number_words (Item.Point2 z t w ∷ items) h = number_words items h.1

few_numbers : (items : List Item) → length (numbers_of items) ≤ length items
few_numbers [] = omega arith
few_numbers (Item.Number z ∷ items) = let h = few_numbers items in omega arith
few_numbers (Item.Unit ∷ items) = let h = few_numbers items in omega arith
few_numbers (Item.Single x ∷ items) = let h = few_numbers items in omega arith
few_numbers (Item.Point z w ∷ items) = let h = few_numbers items in omega arith
few_numbers (Item.Point2 z t w ∷ items) = let h = few_numbers items in omega arith

-- ---- values of a Take

-- the value of an item may stand in a Take of that kind
abbrev pub IsOfKind : ColType → Item → Type 0
IsOfKind t (Item.Single x) = is_taken_from t x ≡ true
IsOfKind t i = ⊤

module _ (c : List ℕ) where
  scalar_words : (items : List Item) → AllByRecursion (FitsAction (ActionKind.Take c)) items → EachFits lines.FitsScalar (flat_map scalar_of items)
  scalar_words [] h = tt
  scalar_words (Item.Single (Scalar.Int z) ∷ items) h = (h.0, scalar_words items h.1)
  scalar_words (Item.Single (Scalar.Bool b) ∷ items) h = (tt, scalar_words items h.1)
  scalar_words (Item.Number z ∷ items) h = scalar_words items h.1
  scalar_words (Item.Unit ∷ items) h = scalar_words items h.1
  scalar_words (Item.Point z w ∷ items) h = scalar_words items h.1
  scalar_words (Item.Point2 z t w ∷ items) h = scalar_words items h.1

pub all_of_kind : (t : ColType) (items : List Item) → AllByRecursion (IsOfKind t) items → list_all (is_taken_from t) (flat_map scalar_of items) ≡ true
all_of_kind t [] h = refl
all_of_kind t (Item.Single x ∷ items) h = ap (λ b. b && list_all (is_taken_from t) (flat_map scalar_of items)) h.0 ∙ all_of_kind t items h.1
all_of_kind t (Item.Number z ∷ items) h = all_of_kind t items h.1
all_of_kind t (Item.Unit ∷ items) h = all_of_kind t items h.1
all_of_kind t (Item.Point z w ∷ items) h = all_of_kind t items h.1
all_of_kind t (Item.Point2 z s w ∷ items) h = all_of_kind t items h.1

alike : (t : ColType) (xs : List Scalar) → list_all (is_taken_from t) xs ≡ true → are_alike xs ≡ true
alike ColType.Int xs h = ap (λ b. b || list_all is_truth xs) h
alike ColType.Bool xs h = ap (λ b. list_all is_number xs || b) h ∙ or_true (list_all is_number xs)
alike ColType.Vect xs h = ap (λ b. b || list_all is_truth xs) h

-- ---- weights

module _ (edges xs : List ℤ) (x : List ℕ) (w : Option (List ℕ)) (i : ℕ) where
  abbrev AreLight : List Item → Type 0
  AreLight items = AllByRecursion IsLight (flat_map (weight_in xs i) items) × (length (flat_map (weight_in xs i) items) ≤ length items)

  flat_weights : (items : List Item) → AllByRecursion (FitsAction (ActionKind.Histo1D edges x w)) items → AreLight items
  flat_weights [] h = (tt, omega arith)
  flat_weights (Item.Point z v ∷ items) h = go (nat_eq (bin xs z) i) (flat_weights items h.1)
    where
      go : (b : Bool) → AreLight items → AllByRecursion IsLight ((if b then v ∷ [] else []) ++ flat_map (weight_in xs i) items) × (length ((if b then v ∷ [] else []) ++ flat_map (weight_in xs i) items) ≤ suc (length items))
      go true k = let few = k.1 in ((h.0.1, k.0), omega arith)
      go false k = let few = k.1 in (k.0, omega arith)
  flat_weights (Item.Unit ∷ items) h = absurd h.0
  flat_weights (Item.Number z ∷ items) h = absurd h.0
  flat_weights (Item.Single z ∷ items) h = absurd h.0
  flat_weights (Item.Point2 z t v ∷ items) h = absurd h.0

module _ (xs ys : List ℤ) (x y : List ℕ) (w : Option (List ℕ)) (i j : ℕ) where
  abbrev AreLight2 : List Item → Type 0
  AreLight2 items = AllByRecursion IsLight (flat_map (weight_in2 xs ys i j) items) × (length (flat_map (weight_in2 xs ys i j) items) ≤ length items)

  square_weights : (items : List Item) → AllByRecursion (FitsAction (ActionKind.Histo2D xs ys x y w)) items → AreLight2 items
  square_weights [] h = (tt, omega arith)
  square_weights (Item.Point2 z t v ∷ items) h = go (nat_eq (bin xs z) i && nat_eq (bin ys t) j) (square_weights items h.1)
    where
      go : (b : Bool) → AreLight2 items → AllByRecursion IsLight ((if b then v ∷ [] else []) ++ flat_map (weight_in2 xs ys i j) items) × (length ((if b then v ∷ [] else []) ++ flat_map (weight_in2 xs ys i j) items) ≤ suc (length items))
      go true k = let few = k.1 in ((h.0.2, k.0), omega arith)
      go false k = let few = k.1 in (k.0, omega arith)
  square_weights (Item.Unit ∷ items) h = absurd h.0
  square_weights (Item.Number z ∷ items) h = absurd h.0
  square_weights (Item.Single z ∷ items) h = absurd h.0
  square_weights (Item.Point z v ∷ items) h = absurd h.0

-- ---- limits

-- the limits hold what so many items come to: numbers of 64 bits, and weights below 2 to the 31st power
pub record AreWide (m : LineLimits) (most : ℕ) : Type 0 where
  pub sum : most * 2 ^ 63 ≤ m.sum
  pub cell_sum : most * 2147483647 ≤ m.cell_sum
  pub cell_squares : most * 4611686014132420609 ≤ m.cell_squares

-- a count and the values of a Take are within the limits
abbrev pub AreFew : LineLimits → ActionKind → List Item → Type 0
AreFew m ActionKind.Count items = length items ≤ m.count
AreFew m (ActionKind.Take c) items = IsShort m.values (length (flat_map scalar_of items))
AreFew m k items = ⊤

-- the values of a Take are of that kind
abbrev pub TakesAre : ColType → ActionKind → List Item → Type 0
TakesAre t (ActionKind.Take c) items = AllByRecursion (IsOfKind t) items
TakesAre t k items = ⊤

module _ (m : LineLimits) (most : ℕ) (wide : AreWide m most) where
  -- ---- cells

  one_cell : (ws : List ℤ) → length ws ≤ most → AllByRecursion IsLight ws → FitsCell m (cell_sum (cell_of ws))
  one_cell ws few h =
      let both = cell_fits most ws few h in
      let sum = both.0 in
      let squares = both.1 in
      let wide_sum = wide.cell_sum in
      let wide_squares = wide.cell_squares in
      (omega arith, omega arith)

  each_cell : (f : ℕ → Cell) (js : List ℕ) → ((j : ℕ) → FitsCell m (cell_sum (f j))) → EachFits (FitsCell m) (map cell_sum (map f js))
  each_cell f [] h = tt
  each_cell f (j ∷ js) h = (h j, each_cell f js h)

  each_both : (xs ys : List CellSum) → EachFits (FitsCell m) xs → EachFits (FitsCell m) ys → EachFits (FitsCell m) (xs ++ ys)
  each_both [] ys h k = k
  each_both (x ∷ xs) ys h k = (h.0, each_both xs ys h.1 k)

  each_row : (f : ℕ → ℕ → Cell) (is js : List ℕ) → ((i j : ℕ) → FitsCell m (cell_sum (f i j))) → EachFits (FitsCell m) (flat_map (λ cells. map cell_sum cells) (map (λ i. map (f i) js) is))
  each_row f [] js h = tt
  each_row f (i ∷ is) js h = each_both (map cell_sum (map (f i) js)) _ (each_cell (f i) js (h i)) (each_row f is js h)

  -- ---- all actions

  pub items_line : (t : ColType) (k : ActionKind) (items : List Item) → length items ≤ most → AllByRecursion (FitsAction k) items → TakesAre t k items → AreFew m k items → FitsLine m (filled_line (fold_items k items))
  items_line t ActionKind.Count items few h of short = short
  items_line t (ActionKind.Sum c) items few h of short =
      let less = few_numbers items in
      let small = sum_fits most (numbers_of items) (omega arith) (number_words (ActionKind.Sum c) (λ z k. k) items h) in
      let wide_sum = wide.sum in
      omega arith
  items_line t (ActionKind.Min c) items few h of short = least_fits (numbers_of items) (number_words (ActionKind.Min c) (λ z k. k) items h)
  items_line t (ActionKind.Max c) items few h of short = greatest_fits (numbers_of items) (number_words (ActionKind.Max c) (λ z k. k) items h)
  items_line t (ActionKind.Take c) items few h of short = record { alike = alike t (flat_map scalar_of items) (all_of_kind t items of); fit = scalar_words c items h; short = short }
  items_line t (ActionKind.Reduce o c) items few h of short = reduced_fits o (numbers_of items) (number_words (ActionKind.Reduce o c) (λ z k. k) items h)
  items_line t (ActionKind.Histo1D edges x w) items few h of short =
      each_cell (flat_cell edges items) (cells_on edges) (λ i. let l = flat_weights edges edges x w i items h in let less = l.1 in one_cell (flat_map (weight_in edges i) items) (omega arith) l.0)
  items_line t (ActionKind.Histo2D xs ys x y w) items few h of short =
      each_row (square_cell xs ys items) (cells_on xs) (cells_on ys)
      (λ i j. let l = square_weights xs ys x y w i j items h in let less = l.1 in one_cell (flat_map (weight_in2 xs ys i j) items) (omega arith) l.0)
