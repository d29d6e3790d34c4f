use Rattle.lemmas.proofs.{◌≡◌, ◌∙◌, length, rules, sym}
use Rattle.columns.proofs.InPieces.{pieces_all, pieces_more}
use Rattle.columns.proofs.table_pieces.append_columns.Goals as goal

pub loop-col-preserved : goal.loop-col-preserved
loop-col-preserved c =
    let inv = c.loop-col.invariant in
    let steps = c.in-Some.ensures.steps in
    pieces_more c.args.columns.items c.loop-col.columns.items c.args.more.items c.next.new.self.iter.rest.items c.loop-col.col-iterator.count c.in-Some.col c.next.new.self.count c.append.new.self c.index_mut.result.now c.in-Some.pieces
    inv.0 (inv.1 ∙ steps.0.0) c.requires inv.2 steps.1 steps.2 c.index_mut.ensures.value c.in_ok-append.ensures

pub returns : goal.returns
returns c =
    let inv = c.loop-col.invariant in
    let size : c.loop-col.col-iterator.iter.rest.len ≡ length c.loop-col.col-iterator.iter.rest.items = search rules in
    let none : length c.loop-col.col-iterator.iter.rest.items ≡ 0 = sym size ∙ c.in-None.ensures.steps.0.0 in
    inv.0 ∙ pieces_all c.args.columns.items c.args.more.items c.loop-col.col-iterator.iter.rest.items c.loop-col.col-iterator.count inv.1 none
