use Rattle.lemmas.proofs.{rules, ◌≡◌, ◌∷◌, length, on_ok}
use Rattle.snapshot_text.proofs.Joined.{cells_grown}
use Rattle.snapshot_text.proofs.entry.put_cells.Goals as goal

pub returns : goal.returns
returns c =
    let whole : c.args.cells.now ≡ c.in-Some.first.now ∷ c.in-Some.rest.now = search rules in
    let some : length c.in-Some.rest.now ≡ 0 → ⊥ = search rules in
    on_ok c.put_more_cells.result _ _
    (λ e. cells_grown c.args.text.now c.put_cell.new.text c.put_more_cells.new.text c.in-Some.first.now c.in-Some.rest.now c.args.cells.now whole some c.in_ok-put_cell.ensures e)
    c.put_more_cells.ensures
