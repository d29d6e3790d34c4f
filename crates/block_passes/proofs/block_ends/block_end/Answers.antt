use Rattle.lemmas.proofs.{arith, range_length}
use Rattle.block_passes.proofs.FirstLengths.{stop_at}
use Rattle.block_passes.proofs.block_ends.block_end.Goals as goal
use Rattle.block_laws.proofs.Costs.{plain_first}

pub returns-then-elements-gt-MAX_ELEMENTS : goal.returns-then-elements-gt-MAX_ELEMENTS
returns-then-elements-gt-MAX_ELEMENTS c =
    let a = c.loop-end.invariant.at in
    let up = a.above in
    let t = c.loop-end-test.true in
    let f = c.last_end-last.ensures.few in
    let w = c.last_end-last.ensures.within in
    let many = c.if-elements-gt-MAX_ELEMENTS.true in
    stop_at c.args.columns.now.table.rows c.args.keys c.args.size 4194304 c.args.entries.hi c.requires.within c.args.entries.lo c.loop-end.end c.loop-end.elements c.key_elements-elements-in-loop-end.result a
    (omega (arith, t, w)) (omega (arith, t, f, up)) c.key_elements-elements-in-loop-end.ensures.value many

pub returns-then-keys-eq0 : goal.returns-then-keys-eq0
returns-then-keys-eq0 = grind (arith, range_length, plain_first)
