-- A pass by its line prints what it prints by itself.
use Rattle.lemmas.proofs.{◌≡◌, ℕ, zero, suc, List, [], ◌∷◌, ◌++◌, length, map, take, drop, refl, sym, ap, ap₂, ◌∙◌, arith, if◌then◌else◌, flat_map}
use Rattle.std.proofs.lemmas.List.{length-map, map-append}
use Rattle.rdf_values.specs.{ActionAt, ActionKind, Booking, cells_on, flat_cell, fold_items, Item, Pass, Path, ReportOn, same, square_cell}
use Rattle.rdf_values.specs.results.Fold.{Cell}
use Rattle.rdf_values.specs.results.Fold as f
use Rattle.rdf_values.proofs.UnionLemmas.{length-below}
use Rattle.rdf_model.specs.{booking_lines, cutflow, Dataset, filled_lines, filter_label, flow_lines, items_of, label, pass_lines}
use Rattle.histograms.specs.{cell_seen}
use Rattle.loop_pieces.specs.{counts_of}
use Rattle.shard_spans.specs.{booking_line, cell_sum, filled_line, pass_line}
use Rattle.merged_text.specs.{booking_text, line_filled, LinesPrintTheirPasses, pass_text, rows_of, with_labels}

-- ---- cells

cells_back : (cells : List Cell) → map cell_seen (map cell_sum cells) ≡ cells
cells_back [] = refl
cells_back (c ∷ cs) = ap (λ l. c ∷ l) (cells_back cs)

take_front : {A : Type 0} (n : ℕ) (xs ys : List A) → length xs ≡ n → take n (xs ++ ys) ≡ xs
take_front zero [] ys h = refl
take_front zero (x ∷ xs) ys h = absurd (omega arith)
take_front (suc n) [] ys h = absurd (omega arith)
take_front (suc n) (x ∷ xs) ys h = ap (λ l. x ∷ l) (take_front n xs ys (omega arith))

drop_front : {A : Type 0} (n : ℕ) (xs ys : List A) → length xs ≡ n → drop n (xs ++ ys) ≡ ys
drop_front zero [] ys h = refl
drop_front zero (x ∷ xs) ys h = absurd (omega arith)
drop_front (suc n) [] ys h = absurd (omega arith)
drop_front (suc n) (x ∷ xs) ys h = drop_front n xs ys (omega arith)

module _ (g : ℕ → ℕ → Cell) (js : List ℕ) (width : ℕ) (wide : length js ≡ width) where
  seen_flat : (is : List ℕ) → map cell_seen (flat_map (λ cells. map cell_sum cells) (map (λ i. map (g i) js) is)) ≡ flat_map (λ i. map (g i) js) is
  seen_flat [] = refl
  seen_flat (i ∷ is) = map-append cell_seen (map cell_sum (map (g i) js)) (flat_map (λ cells. map cell_sum cells) (map (λ k. map (g k) js) is)) ∙ ap₂ (λ (a b : List Cell). a ++ b) (cells_back (map (g i) js)) (seen_flat is)

  rows_back : (is : List ℕ) → rows_of width (length is) (flat_map (λ i. map (g i) js) is) ≡ map (λ i. map (g i) js) is
  rows_back [] = refl
  rows_back (i ∷ is) =
      let long : length (map (g i) js) ≡ width = length-map js (g i) ∙ wide in
      ap₂ (λ (r : List Cell) rest. r ∷ rest) (take_front width (map (g i) js) (flat_map (λ k. map (g k) js) is) long)
      (ap (rows_of width (length is)) (drop_front width (map (g i) js) (flat_map (λ k. map (g k) js) is) long) ∙ rows_back is)

-- ---- actions

filled_back : (k : ActionKind) (items : List Item) → line_filled k (filled_line (fold_items k items)) ≡ fold_items k items
filled_back ActionKind.Count items = refl
filled_back (ActionKind.Sum c) items = refl
filled_back (ActionKind.Min c) items = refl
filled_back (ActionKind.Max c) items = refl
filled_back (ActionKind.Take c) items = refl
filled_back (ActionKind.Reduce o c) items = refl
filled_back (ActionKind.Histo1D edges x w) items = ap f.Flat (cells_back (map (flat_cell edges items) (cells_on edges)))
filled_back (ActionKind.Histo2D xs ys x y w) items =
    ap f.Square
    (ap (rows_of (suc (length ys)) (suc (length xs))) (seen_flat (square_cell xs ys items) (cells_on ys) (suc (length ys)) (length-below (suc (length ys))) (cells_on xs))
    ∙ ap (λ n. rows_of (suc (length ys)) n (flat_map (λ i. map (square_cell xs ys items i) (cells_on ys)) (cells_on xs))) (sym (length-below (suc (length xs))))
    ∙ rows_back (square_cell xs ys items) (cells_on ys) (suc (length ys)) (length-below (suc (length ys))) (cells_on xs))

-- ---- passes

labels_back : (d : Dataset) (filters : List Path) → with_labels filters (map (λ p. counts_of (cutflow d p)) filters) ≡ map (λ p. (filter_label p, cutflow d p)) filters
labels_back d [] = refl
labels_back d (p ∷ ps) = ap (λ l. (filter_label p, cutflow d p) ∷ l) (labels_back d ps)

booking_same : (d : Dataset) (name : List ℕ) (b : Booking) (p : Pass) → booking_text name p.under b (booking_line d b p) ≡ booking_lines d name p.under b
booking_same d name (ActionAt k at) p = ap (filled_lines k (label name p.under)) (filled_back k (flat_map (items_of d k at p.under) d.rows))
booking_same d name (ReportOn filters) p = ap (flow_lines name) (labels_back d filters)

pub pass_same : (d : Dataset) (p : Pass) → pass_text p (pass_line d p) ≡ pass_lines d p
pass_same d p = booking_same d p.result.name p.result.booking p

pub lines_print_their_passes : LinesPrintTheirPasses
lines_print_their_passes d name [] = refl
lines_print_their_passes d name (p ∷ ps) = ap₂ (λ (a b : List ℕ). (if same p.result.name name then a else []) ++ b) (pass_same d p) (lines_print_their_passes d name ps)
