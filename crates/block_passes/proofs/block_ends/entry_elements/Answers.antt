use Rattle.lemmas.proofs.{◌∙◌, ap, arith, length}
use Rattle.block_passes.proofs.FirstLengths.{all_cells, next_cells}
use Rattle.block_passes.proofs.block_ends.entry_elements.Goals as goal

pub loop-col-preserved : goal.loop-col-preserved
loop-col-preserved c = record {
  sum = λ row here.
      let t = c.loop-col-test.true in
      let v = ap length c.columns.ensures.value in
      next_cells c.args.columns.now.table c.columns.ensures.valid c.args.entry c.loop-col.col (omega (arith, t, v)) row here c.loop-col.elements c.cell_elements-elements.result (c.loop-col.invariant.sum row here) c.cell_elements-elements.ensures.value;
  few = (let a = c.loop-col.invariant.few in let b = c.cell_elements-elements.ensures.few in omega (arith, a, b));
}

pub returns-clause-value : goal.returns-clause-value
returns-clause-value c = λ row here.
    let f = c.loop-col-test.false in
    let v = ap length c.columns.ensures.value in
    c.loop-col.invariant.sum row here ∙ all_cells c.args.columns.now.table c.columns.ensures.valid c.args.entry row here c.loop-col.col (omega (arith, f, v))
