use Rattle.lemmas.proofs.{rules, ℕ, ◌≡◌, ◌<◌, ◌+◌, ◌∙◌, length, map, get_or, ap}
use Rattle.histograms.specs.{cell_seen, CellSum, flat_cells, together}
use Rattle.std.proofs.lemmas.List.{take_at}
use Rattle.histograms.proofs.Filling.{flat_cells-append}
use Rattle.histograms.proofs.hist1.Hist1.merge.Goals as goal

pub returns-clause-filled : goal.returns-clause-filled
returns-clause-filled c = λ points more held held'.
    let before = rw (← c.self.view_is) at held in
    let others = rw (← c.other.view_is) at held' in
    let same : c.other.inside.x ≡ c.self.inside.x = rw (← c.self.view_is, ← c.other.view_is) at c.requires.edges in
    let each : (k : ℕ) (d : CellSum) → k < length c.self.inside.cells.items → get_or c.add_all.new.cells k d ≡ together (get_or c.self.inside.cells.items k d) (get_or c.other.inside.cells.items k d)
    = λ k d l. rw (c.as_mut_slice.ensures.value, c.as_slice.ensures.value) at (c.add_all.ensures k d (rw c.as_mut_slice.ensures.value l)) in
    record {
      cells = ap (map cell_seen) (take_at c.add_all.new.cells _ c.self.inside.cells.len (search rules)) ∙ flat_cells-append c.self.inside.x points more c.self.inside.cells.items c.other.inside.cells.items c.add_all.new.cells c.self.invariant.size (c.other.invariant.size ∙ ap (λ edges. length edges + 1) same)
          (search rules) each before.cells (others.cells ∙ ap (λ edges. flat_cells edges more) same);
    }
