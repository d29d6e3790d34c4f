use Rattle.lemmas.proofs.{◌≡◌, ◌≤◌, ◌+◌, ◌*◌, ◌∙◌, length, map, get_or, arith, ap, sym, [], get_or-map, slice_get_read}
use Rattle.histograms.specs.{cell_seen, rows_on}
use Rattle.histograms.proofs.FillingPairs.{cell_of_row, length-row, length-rows, place_within}
use Rattle.histograms.proofs.hist2.Hist2.cell.Goals as goal

pub index-requires : goal.index-requires
index-requires = grind (arith, length-rows, length-row, place_within)

pub returns : goal.returns
returns c =
    let xs = c.self.inside.x in
    let ys = c.self.inside.y in
    let cells = c.self.inside.cells.items in
    let rows = rw (← c.self.view_is, length-rows c.self.inside.x c.self.inside.y c.self.inside.cells.items) at c.requires.x in
    let x : c.args.i ≤ length c.self.inside.x = omega arith in
    let columns = rw (← c.self.view_is, length-row c.self.inside.x c.self.inside.y c.self.inside.cells.items c.args.i c.self.invariant.size x) at c.requires.y in
    let y : c.args.j ≤ length c.self.inside.y = omega arith in
    let at : c.place-at.result ≡ c.args.i * (length ys + 1) + c.args.j = c.place-at.ensures ∙ ap (λ w. c.args.i * w + c.args.j) c.cells.ensures in
    let below = place_within xs ys c.args.i c.args.j c.place-at.result (length cells) c.self.invariant.size x y at in
    let row = get_or (rows_on xs ys (map cell_seen cells)) c.args.i [] in
    let seen : cell_seen c.index.result.now ≡ get_or row c.args.j (cell_seen c.index.result.now)
    = ap cell_seen c.index.ensures ∙ sym (get_or-map cell_seen cells c.place-at.result c.index.result.now (cell_seen c.index.result.now) below)
    ∙ ap (λ k. get_or (map cell_seen cells) k (cell_seen c.index.result.now)) at ∙ sym (cell_of_row xs ys cells c.args.i c.args.j (cell_seen c.index.result.now) x y) in
    rw (← c.self.view_is) (slice_get_read row (length ys + 1) c.args.j (cell_seen c.index.result.now) (sym (length-row xs ys cells c.args.i c.self.invariant.size x)) (omega arith) seen)
