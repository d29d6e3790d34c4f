use Rattle.lemmas.proofs.{rules, ℕ, ◌≡◌, ◌<◌, ◌+◌, ◌*◌, ◌∙◌, length, map, get_or, ap, subst, List, ℤ}
use Rattle.std.proofs.lemmas.List.{take_at}
use Rattle.histograms.specs.{cell_seen, CellSum, rows_on, square_cells, together}
use Rattle.histograms.proofs.FillingPairs.{square_cells-append}
use Rattle.histograms.proofs.hist2.Hist2.merge.Goals as goal

pub returns-clause-filled : goal.returns-clause-filled
returns-clause-filled c = λ points more held held'.
    let xs = c.self.inside.x in
    let ys = c.self.inside.y in
    let before = rw (← c.self.view_is) at held in
    let others = rw (← c.other.view_is) at held' in
    let same_x : c.other.inside.x ≡ xs = rw (← c.self.view_is, ← c.other.view_is) at c.requires.x_edges in
    let same_y : c.other.inside.y ≡ ys = rw (← c.self.view_is, ← c.other.view_is) at c.requires.y_edges in
    let each : (k : ℕ) (d : CellSum) → k < length c.self.inside.cells.items → get_or c.add_all.new.cells k d ≡ together (get_or c.self.inside.cells.items k d) (get_or c.other.inside.cells.items k d)
    = λ k d l. rw (c.as_mut_slice.ensures.value, c.as_slice.ensures.value) at (c.add_all.ensures k d (rw c.as_mut_slice.ensures.value l)) in
    let others_are : rows_on xs ys (map cell_seen c.other.inside.cells.items) ≡ square_cells xs ys more
    = subst (λ (x : List ℤ). rows_on x ys (map cell_seen c.other.inside.cells.items) ≡ square_cells x ys more) same_x
    (subst (λ (y : List ℤ). rows_on c.other.inside.x y (map cell_seen c.other.inside.cells.items) ≡ square_cells c.other.inside.x y more) same_y others.cells) in
    record {
      cells = ap (λ cells. rows_on xs ys (map cell_seen cells)) (take_at c.add_all.new.cells _ c.self.inside.cells.len (search rules))
          ∙ square_cells-append xs ys points more c.self.inside.cells.items c.other.inside.cells.items c.add_all.new.cells c.self.invariant.size
          (c.other.invariant.size ∙ ap (λ x. (length x + 1) * (length c.other.inside.y + 1)) same_x ∙ ap (λ y. (length xs + 1) * (length y + 1)) same_y) (search rules) each before.cells others_are;
    }
