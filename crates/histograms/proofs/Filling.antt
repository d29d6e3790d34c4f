-- What a cell holds after one more point, and the bounds on its sums.
use Rattle.lemmas.proofs.{ℕ, ◌≡◌, ◌+◌, ◌*◌, ◌^◌, ◌<◌, ◌≤◌, get_or, List, ℤ, pos, ◌+ℤ◌, ◌*ℤ◌, arith, set, w64, FitsSigned, nat_abs, All, zero, suc, length, map, [], ◌∷◌, ◌++◌, refl, ap, sym, ◌∙◌, ◌⊎◌, inl, inr, add-one, flat_map, fold, Bool, true, false, cond, ◌<ℤ◌, int_lt, int_le, count_by, nat_le, ◌-◌, ◌≤ℤ◌, to_z, of_z, subst, abs_add, All-set, fits_signed_from_abs, fits_signed_mul, unsigned_abs-mul, w128, +ℤ_assoc, +ℤ_idl, +ℤ_idr, cases_eq, eq-eqb, flat_map-append, fold-append, get_or-map, get_or-set_other, get_or-set_same, get_or_append_left, get_or_at, length-map, length-set, map-append, ne_eqb, same_lists, both_true, ints, IsAllAdjacentAnswer, IsPartitionedBy, IsPartitionPoint, leb-true, sum_by-cons, cases_Bool, cases_lt, false_from_ne_true, get_or_default, shr_mono, to_z-of_z}
use Rattle.histograms.specs.{CellSum, IsBounded, IsWeight, with_weight, cell_seen, flat_cells, together, AreStarts, bucket_of, KeepsEdges}
use Rattle.rdf_values.proofs.UnionLemmas.{length-below}
use Rattle.rdf_values.specs.{below, bin, cells_on, flat_cell, integer_sum, Item, weight_in, are_edges, rises}
use Rattle.rdf_values.specs.declared.results.Item.TheVariants.{Point}
use Rattle.rdf_values.specs.results.Fold.{Cell, cell_of}
use mir.Val.{bool_byte}
use Rattle.histograms.specs.declared.buckets.Buckets.{Buckets}

squares_below : (a b : ℕ) → a ≤ b → a * a ≤ b * b
squares_below a b h = grind arith

square_bound : (w : ℤ) → IsWeight w → nat_abs (w *ℤ w) ≤ 4611686014132420609
square_bound w h = rw (unsigned_abs-mul w w) (squares_below (nat_abs w) 2147483647 h)

pub abs_of_fit : (w : ℤ) → FitsSigned w64 w → nat_abs w ≤ 2 ^ 63
abs_of_fit w h = grind arith

-- a number of 64 bits fits 128, and so does its square
pub widened : (w : ℤ) → FitsSigned w64 w → FitsSigned w128 w × FitsSigned w128 (w *ℤ w)
widened w h = grind (arith, abs_of_fit, fits_signed_from_abs, fits_signed_mul)

pub bounded_with : (n : ℕ) (cell : CellSum) (w : ℤ) → IsWeight w → IsBounded n cell → IsBounded (n + 1) (with_weight cell w)
bounded_with n cell w h b = grind (arith, abs_add, square_bound)

pub fits_bounded : (n : ℕ) (cell : CellSum) → n ≤ 2 ^ 40 → IsBounded n cell → FitsSigned w128 cell.sum × FitsSigned w128 cell.squares
fits_bounded n cell few b = grind (arith, fits_signed_from_abs)

-- the cells after one more fill
pub all_bounded_with : (n : ℕ) (cells : List CellSum) (i : ℕ) (cell : CellSum) → IsBounded (n + 1) cell → All (IsBounded n) cells → All (IsBounded (n + 1)) (set cells i cell)
all_bounded_with n cells i cell b all = All-set (IsBounded (n + 1)) cells i cell b (λ k d l. let b = all k d l in grind arith)

-- ---- What a cell holds after one more point.

pub sum_from : (zs : List ℤ) (a : ℤ) → fold ◌+ℤ◌ a zs ≡ a +ℤ integer_sum zs
sum_from [] a = sym (+ℤ_idr a)
sum_from (z ∷ zs) a = grind (arith, +ℤ_idl, +ℤ_assoc, sum_from zs)

pub integer_sum-append : (xs ys : List ℤ) → integer_sum (xs ++ ys) ≡ integer_sum xs +ℤ integer_sum ys
integer_sum-append xs ys = fold-append ◌+ℤ◌ (pos 0) xs ys ∙ sum_from ys (integer_sum xs)

-- two cells of the definitions together
abbrev pub joined : Cell → Cell → Cell
joined cell more = record { sum = cell.sum +ℤ more.sum; squares = cell.squares +ℤ more.squares }

pub cell_of-append : (ws vs : List ℤ) → cell_of (ws ++ vs) ≡ joined (cell_of ws) (cell_of vs)
cell_of-append ws vs = grind (arith, map-append, integer_sum-append)

pub length-cells_on : (edges : List ℤ) → length (cells_on edges) ≡ length edges + 1
length-cells_on edges = length-below (suc (length edges)) ∙ sym (add-one (length edges))

get_or-below : {X : Type 0} (f : ℕ → X) (n k : ℕ) (d : X) → k < n → get_or (map f (below n)) k d ≡ f k
get_or-below f zero k d l = absurd (omega arith)
get_or-below f (suc n) k d l = grind (arith, length-map, length-below, map-append, get_or_at, get_or_append_left, get_or-below f n k d)

-- what stands at the place of a cell
pub get_or-cells_on : {X : Type 0} (f : ℕ → X) (edges : List ℤ) (k : ℕ) (d : X) → k ≤ length edges → get_or (map f (cells_on edges)) k d ≡ f k
get_or-cells_on f edges k d l = get_or-below f (suc (length edges)) k d (omega arith)

-- cells are what a function gives their places, where each is
pub from_places : (f : ℕ → Cell) (edges : List ℤ) (cells : List CellSum) → length cells ≡ length edges + 1 → ((k : ℕ) (d : CellSum) → k ≤ length edges → cell_seen (get_or cells k d) ≡ f k) → map cell_seen cells ≡ map f (cells_on edges)
from_places f edges cells size each =
    same_lists (map cell_seen cells) (map f (cells_on edges)) (length-map cells cell_seen ∙ size ∙ sym (length-map (cells_on edges) f ∙ length-cells_on edges))
    (λ k d l.
    let below : k < length cells = rw length-map at l in
    let zero_cell : CellSum = record { sum = pos 0; squares = pos 0 } in
    get_or-map cell_seen cells k zero_cell d below ∙ each k zero_cell (omega arith) ∙ sym (get_or-cells_on f edges k d (omega arith)))

pub kept_at : (f : ℕ → Cell) (edges : List ℤ) (cells : List CellSum) (k : ℕ) (d : CellSum) → length cells ≡ length edges + 1 → map cell_seen cells ≡ map f (cells_on edges) → k ≤ length edges → cell_seen (get_or cells k d) ≡ f k
kept_at f edges cells k d size same l =
    let e = cell_seen d in
    sym (get_or-map cell_seen cells k d e (omega arith)) ∙ ap (λ cs. get_or cs k e) same ∙ get_or-cells_on f edges k e l

-- of cells at any places: what they hold of the items so far, by the weights of each
module _ {I : Type 0} (Within : I → Type 0) (place : I → ℕ) (weights : I → Item → List ℤ) where
  abbrev pub AreOf : List CellSum → List Item → Type 0
  AreOf cells items = (i : I) (d : CellSum) → Within i → cell_seen (get_or cells (place i) d) ≡ cell_of (flat_map (weights i) items)

  -- after one more item, whose weight is that of one place alone
  pub with_item : (cells : List CellSum) (items : List Item) (item : Item) (w : ℤ) (p : ℕ) (cell : CellSum) → p < length cells → cell ≡ get_or cells p cell
      → ((i : I) → Within i → place i ≡ p → flat_map (weights i) (item ∷ []) ≡ w ∷ []) → ((i : I) → Within i → (place i ≡ p → ⊥) → flat_map (weights i) (item ∷ []) ≡ [])
      → AreOf cells items → AreOf (set cells p (with_weight cell w)) (items ++ item ∷ [])
  with_item cells items item w p cell low read here elsewhere each i d within =
      sym (ap cell_of (flat_map-append (weights i) items (item ∷ [])) ∙ cell_of-append (flat_map (weights i) items) (flat_map (weights i) (item ∷ [])) ∙ go (cases_eq (place i) p))
    where
      go : (place i ≡ p) ⊎ (place i ≡ p → ⊥) → joined (cell_of (flat_map (weights i) items)) (cell_of (flat_map (weights i) (item ∷ []))) ≡ cell_seen (get_or (set cells p (with_weight cell w)) (place i) d)
      go (inl e) = grind (arith, here, each, get_or-set_same, +ℤ_idl)
      go (inr n) = grind (arith, elsewhere, each, get_or-set_other, +ℤ_idr)

  -- of two lists of items
  pub of_both : (cells others all : List CellSum) (items more : List Item) → ((i : I) → Within i → place i < length cells)
      → ((k : ℕ) (d : CellSum) → k < length cells → get_or all k d ≡ together (get_or cells k d) (get_or others k d)) → AreOf cells items → AreOf others more → AreOf all (items ++ more)
  of_both cells others all items more low each one two i d within = grind (arith, flat_map-append, cell_of-append)

-- ---- of one axis

-- the weights of a cell after one more point
weights_yes : (edges : List ℤ) (x w : ℤ) (k : ℕ) → k ≡ bin edges x → flat_map (weight_in edges k) (Point x w ∷ []) ≡ w ∷ []
weights_yes edges x w k e = rw (eq-eqb (bin edges x) k (sym e)) refl

weights_no : (edges : List ℤ) (x w : ℤ) (k : ℕ) → (k ≡ bin edges x → ⊥) → flat_map (weight_in edges k) (Point x w ∷ []) ≡ []
weights_no edges x w k ne = rw (ne_eqb (bin edges x) k (λ e. ne (sym e))) refl

module _ (edges : List ℤ) where
  -- the cells after one more point
  pub flat_cells-point : (points : List Item) (x w : ℤ) (cells : List CellSum) (cell : CellSum) → length cells ≡ length edges + 1 → bin edges x ≤ length edges
      → cell ≡ get_or cells (bin edges x) cell → map cell_seen cells ≡ flat_cells edges points
      → map cell_seen (set cells (bin edges x) (with_weight cell w)) ≡ flat_cells edges (points ++ Point x w ∷ [])
  flat_cells-point points x w cells cell size within read same =
      from_places (flat_cell edges (points ++ Point x w ∷ [])) edges _ (length-set cells (bin edges x) (with_weight cell w) ∙ size)
      (with_item (λ k. k ≤ length edges) (λ k. k) (weight_in edges) cells points (Point x w) w (bin edges x) cell (omega arith) read (λ k l. weights_yes edges x w k) (λ k l. weights_no edges x w k)
      (λ k d. kept_at (flat_cell edges points) edges cells k d size same))

  -- the cells of two lists of points
  pub flat_cells-append : (points more : List Item) (cells others all : List CellSum) → length cells ≡ length edges + 1 → length others ≡ length edges + 1 → length all ≡ length edges + 1
      → ((k : ℕ) (d : CellSum) → k < length cells → get_or all k d ≡ together (get_or cells k d) (get_or others k d))
      → map cell_seen cells ≡ flat_cells edges points → map cell_seen others ≡ flat_cells edges more → map cell_seen all ≡ flat_cells edges (points ++ more)
  flat_cells-append points more cells others all size size' h each same same' =
      from_places (flat_cell edges (points ++ more)) edges all h (of_both (λ k. k ≤ length edges) (λ k. k) (weight_in edges) cells others all points more (λ k l. omega arith) each
      (λ k d. kept_at (flat_cell edges points) edges cells k d size same) (λ k d. kept_at (flat_cell edges more) edges others k d size' same'))

-- cells without weights are those of no points
pub flat_cells-none : (edges : List ℤ) (cells : List CellSum) → length cells ≡ length edges + 1
    → ((k : ℕ) (d : CellSum) → k ≤ length edges → get_or cells k d ≡ record { sum = pos 0; squares = pos 0 }) → map cell_seen cells ≡ flat_cells edges []
flat_cells-none edges cells size each = from_places (flat_cell edges []) edges cells size (λ k d l. ap cell_seen (each k d l))

-- ---- edges that rise, where the buckets of an axis begin, and the cell that is found by them

rises_all : (xs : List ℤ) → ((k : ℕ) (d : ℤ) → suc k < length xs → true ≡ int_lt (get_or xs k d) (get_or xs (suc k) d)) → rises xs ≡ true
rises_all [] h = refl
rises_all (x ∷ []) h = refl
rises_all (x ∷ y ∷ zs) h = let first = h 0 x (omega arith) in grind (arith, first, rises_all (y ∷ zs) (λ k d l. h (suc k) d (omega arith)))

rises_not : (xs : List ℤ) (k : ℕ) → suc k < length xs → ((d : ℤ) → false ≡ int_lt (get_or xs k d) (get_or xs (suc k) d)) → rises xs ≡ false
rises_not (x ∷ y ∷ zs) zero l h = let first : false ≡ int_lt x y = h x in rw (← first) refl
rises_not (x ∷ y ∷ zs) (suc k) l h = grind (arith, rises_not (y ∷ zs) k)
rises_not xs k l h = absurd (omega arith)

pub rises-adjacent : (xs : List ℤ) (r : Bool) → IsAllAdjacentAnswer (λ x y b. b ≡ int_lt x y) xs r → r ≡ rises xs
rises-adjacent xs true h = sym (rises_all xs (λ k d l. rw add-one at (h k d (omega arith))))
rises-adjacent xs false h = sym (rises_not xs h.0 (let l = h.1 in omega arith) (λ d. rw add-one at (h.2 d)))

rises_head : (x : ℤ) (xs : List ℤ) → rises (x ∷ xs) ≡ true → (k : ℕ) (d : ℤ) → k < length xs → x <ℤ get_or xs k d
rises_head x [] h k d l = absurd (omega arith)
rises_head x (y ∷ zs) h zero d l = let first = (both_true (int_lt x y) (rises (y ∷ zs)) h).0 in grind (arith, ints)
rises_head x (y ∷ zs) h (suc k) d l =
    let first = both_true (int_lt x y) (rises (y ∷ zs)) h in let more = rises_head y zs first.1 k d (omega arith) in grind (arith, ints, first)

rises_tail : (x : ℤ) (xs : List ℤ) → rises (x ∷ xs) ≡ true → rises xs ≡ true
rises_tail x xs h = grind (arith, both_true)

-- an axis has two edges
pub two_of_axis : (xs : List ℤ) → are_edges xs ≡ true → 2 ≤ length xs
two_of_axis xs h = leb-true 2 (length xs) (both_true (nat_le 2 (length xs)) (rises xs) h).0

-- the edges of an axis rise
pub rises_of_axis : (xs : List ℤ) → are_edges xs ≡ true → rises xs ≡ true
rises_of_axis xs h = (both_true (nat_le 2 (length xs)) (rises xs) h).1

pub partitioned_by_rise : (xs : List ℤ) (v : ℤ) → rises xs ≡ true → IsPartitionedBy (λ e. int_le e v) xs
partitioned_by_rise [] v h i j d le l p = absurd (omega arith)
partitioned_by_rise (x ∷ xs) v h zero zero d le l p = p
partitioned_by_rise (x ∷ xs) v h zero (suc j) d le l p = let below = rises_head x xs h j d (omega arith) in grind (arith, ints)
partitioned_by_rise (x ∷ xs) v h (suc i) zero d le l p = absurd (omega arith)
partitioned_by_rise (x ∷ xs) v h (suc i) (suc j) d le l p = partitioned_by_rise xs v (rises_tail x xs h) i j d (omega arith) (omega arith) p

-- where the elements below a place pass and the others don't, the place is the count
pub count_by-partition : {X : Type 0} (p : X → Bool) (xs : List X) (i : ℕ) → i ≤ length xs → IsPartitionPoint (λ y. p y ≡ true) (λ y. p y ≡ false) xs i → count_by p xs ≡ i
count_by-partition p [] i le h = omega arith
count_by-partition p (x ∷ xs) zero le h =
    let no : p x ≡ false = h.1 0 x (omega arith) (omega arith) in
    let rest : count_by p xs ≡ 0 = count_by-partition p xs 0 (omega arith) ((λ k d a b. absurd (omega arith)), (λ k d a b. h.1 (suc k) d (omega arith) (omega arith))) in
    sum_by-cons (λ y. cond (p y) 1 0) x xs ∙ rw (no, rest) refl
count_by-partition p (x ∷ xs) (suc i) le h =
    let yes : p x ≡ true = h.0 0 x (omega arith) (omega arith) in
    let rest : count_by p xs ≡ i = count_by-partition p xs i (omega arith) ((λ k d a b. h.0 (suc k) d (omega arith) (omega arith)), (λ k d a b. h.1 (suc k) d (omega arith) (omega arith))) in
    sum_by-cons (λ y. cond (p y) 1 0) x xs ∙ rw (yes, rest) (omega arith)

-- ---- Where the buckets of an axis begin, and the cell that is found by them.

-- a greater number is in no bucket below
pub bucket_of-mono : (first : ℤ) (shift : ℕ) (a b : ℤ) → first ≤ℤ a → a ≤ℤ b → bucket_of first shift a ≤ bucket_of first shift b
bucket_of-mono first shift a b l m = grind (arith, ints, shr_mono)

-- one more edge is in place, by which more buckets may begin
pub starts-more : (bucket : ℕ → ℕ) (edges : ℕ) (starts more : List ℕ) (i : ℕ) → i < edges → AreStarts bucket edges starts i
    → ((b : ℕ) → b < length starts → get_or more b 0 ≡ get_or starts b 0) → ((b : ℕ) → length starts ≤ b → b < length more → get_or more b 0 ≡ i)
    → length starts ≤ length more → bucket i < length more → AreStarts bucket edges more (i + 1)
starts-more bucket edges starts more i within so_far kept begun longer reached = grind (arith, cases_lt)

-- the cell of a number at or above each edge before a place and below the one there
pub bin-found : (edges : List ℤ) (v : ℤ) (i : ℕ) → rises edges ≡ true → i < length edges → ((k : ℕ) → k < i → get_or edges k (pos 0) ≤ℤ v) → v <ℤ get_or edges i (pos 0) → bin edges v ≡ i
bin-found edges v i rise l below above = count_by-partition (λ e. int_le e v) edges i (omega arith) (
  (λ k d _ m. rw (get_or_default edges k d (pos 0) (omega arith)) (let h = below k m in grind (arith, ints))),
  (λ k d m n. rw (get_or_default edges k d (pos 0) n)
      (false_from_ne_true (int_le (get_or edges k (pos 0)) v) (λ p. let h = partitioned_by_rise edges v rise i k (pos 0) m n p in grind (arith, ints)))),
)

-- that of a number at or above the last edge
pub bin-above : (edges : List ℤ) (v : ℤ) → rises edges ≡ true → 0 < length edges → get_or edges (length edges - 1) (pos 0) ≤ℤ v → bin edges v ≡ length edges
bin-above edges v rise l above = count_by-partition (λ e. int_le e v) edges (length edges) (omega arith) (
  (λ k d _ m. rw (get_or_default edges k d (pos 0) m)
      (partitioned_by_rise edges v rise k (length edges - 1) (pos 0) (omega arith) (omega arith) (grind (arith, ints)))),
  (λ k d m n. absurd (omega arith)),
)

-- a number below the last edge has a bucket
pub bucket-within : (edges : List ℤ) (kept : Buckets) (v : ℤ) → KeepsEdges edges kept → kept.first ≤ℤ v → v <ℤ kept.last → bucket_of kept.first kept.shift v < length kept.starts.items
bucket-within edges kept v keeps low high = grind (arith, ints, two_of_axis, bucket_of-mono)

-- the edges in the buckets below a number's are below it
start-below : (edges : List ℤ) (kept : Buckets) (v : ℤ) → KeepsEdges edges kept → kept.first ≤ℤ v → v <ℤ kept.last
    → (k : ℕ) → k < get_or kept.starts.items (bucket_of kept.first kept.shift v) 0 → get_or edges k (pos 0) ≤ℤ v
start-below edges kept v keeps low high k l = grind (arith, ints, cases_Bool, bucket_of-mono, bucket-within)

-- a cell at whose place an edge stands, and none of the edges before it is above a number
pub record IsReached (edges : List ℤ) (v : ℤ) (cell : ℕ) : Type 0 where
  pub within : cell < length edges
  pub below : (k : ℕ) → k < cell → get_or edges k (pos 0) ≤ℤ v

-- the cell with which a number's bucket begins
pub reached-start : (edges : List ℤ) (kept : Buckets) (v : ℤ) (start : ℕ) → KeepsEdges edges kept → kept.first ≤ℤ v → v <ℤ kept.last → FitsSigned w64 v
    → start ≡ get_or kept.starts.items (bucket_of kept.first kept.shift (to_z w64 (of_z w64 v))) 0 → IsReached edges v start
reached-start edges kept v start keeps low high h is = grind (arith, to_z-of_z, bucket-within, start-below)

below-by : (edges : List ℤ) (v : ℤ) (start : ℕ) (p : Bool) → int_le (get_or edges start (pos 0)) v ≡ p → IsReached edges v start → (k : ℕ) → k < start + bool_byte p → get_or edges k (pos 0) ≤ℤ v
below-by edges v start p h so_far k l = grind (arith, ints, cases_lt)

-- where each edge below a cell is at most a number below the last edge, the cell has an edge
within-by : (edges : List ℤ) (v : ℤ) (cell : ℕ) → 0 < length edges → ((k : ℕ) → k < cell → get_or edges k (pos 0) ≤ℤ v) → v <ℤ get_or edges (length edges - 1) (pos 0) → cell < length edges
within-by edges v cell some below high = grind (arith, ints, cases_lt)

-- the cell to which the test of one edge leads from where a number's bucket begins
pub reached-cell : (edges : List ℤ) (kept : Buckets) (v : ℤ) (start one : ℕ) (e : ℤ) → KeepsEdges edges kept → kept.first ≤ℤ v → v <ℤ kept.last → FitsSigned w64 v → FitsSigned w64 e
    → start ≡ get_or kept.starts.items (bucket_of kept.first kept.shift (to_z w64 (of_z w64 v))) 0 → e ≡ get_or edges start e → one ≡ bool_byte (int_le (to_z w64 (of_z w64 e)) (to_z w64 (of_z w64 v)))
    → IsReached edges v (start + one)
reached-cell edges kept v start one e keeps low high fits edge begins at is =
    let so_far = reached-start edges kept v start keeps low high fits begins in
    let two = two_of_axis edges keeps.axis.rise in
    let here : e ≡ get_or edges start (pos 0) = at ∙ get_or_default edges start e (pos 0) so_far.within in
    let more : one ≡ bool_byte (int_le (get_or edges start (pos 0)) v) = is ∙ rw (to_z-of_z w64 e edge, to_z-of_z w64 v fits) (ap (λ z. bool_byte (int_le z v)) here) in
    let below = below-by edges v start _ refl so_far in
    rw more record { within = within-by edges v _ (omega arith) below (rw keeps.buckets.last high); below = below }

-- a cell at whose edge a number is below it is that number's
pub bin-reached : (edges : List ℤ) (v : ℤ) (cell : ℕ) (e : ℤ) → are_edges edges ≡ true → IsReached edges v cell → e ≡ get_or edges cell e → v <ℤ e → cell ≡ bin edges v
bin-reached edges v cell e rise so_far at high =
    sym (bin-found edges v cell (rises_of_axis edges rise) so_far.within so_far.below (subst (λ z. v <ℤ z) (at ∙ get_or_default edges cell e (pos 0) so_far.within) high))

-- a test of numbers of 64 bits, as the code makes it
pub is_below : (a b : ℤ) → FitsSigned w64 a → FitsSigned w64 b → int_lt (to_z w64 (of_z w64 a)) (to_z w64 (of_z w64 b)) ≡ true → a <ℤ b
is_below a b f g h = let e = rw (to_z-of_z w64 a f, to_z-of_z w64 b g) at h in grind (arith, ints)

pub not_below : (a b : ℤ) → FitsSigned w64 a → FitsSigned w64 b → int_lt (to_z w64 (of_z w64 a)) (to_z w64 (of_z w64 b)) ≡ false → b ≤ℤ a
not_below a b f g h = let e = rw (to_z-of_z w64 a f, to_z-of_z w64 b g) at h in grind (arith, ints)

pub is_at_most : (a b : ℤ) → FitsSigned w64 a → FitsSigned w64 b → int_le (to_z w64 (of_z w64 a)) (to_z w64 (of_z w64 b)) ≡ true → a ≤ℤ b
is_at_most a b f g h = let e = rw (to_z-of_z w64 a f, to_z-of_z w64 b g) at h in grind (arith, ints)

pub exceeds_it : (a b : ℤ) → FitsSigned w64 a → FitsSigned w64 b → int_le (to_z w64 (of_z w64 a)) (to_z w64 (of_z w64 b)) ≡ false → b <ℤ a
exceeds_it a b f g h = let e = rw (to_z-of_z w64 a f, to_z-of_z w64 b g) at h in grind (arith, ints)
