use Rattle.lemmas.proofs.{◌≡◌, true, false, get_or, arith, ◌==◌}
use Rattle.std.proofs.lemmas.Bool.Decides.{nat_tests}
use Rattle.shard_files.proofs.LineEnds.{endless_all, endless_more, line_here}
use Rattle.shard_files.proofs.text_lines.first_line.Goals as goal

pub returns-then-byte-eq10-clause-cases : goal.returns-then-byte-eq10-clause-cases
returns-then-byte-eq10-clause-cases c =
    let end : (get_or c.args.text.now c.loop-end.end 0 == 10) ≡ true = grind (arith, nat_tests) in
    (line_here c.args.text.now c.loop-end.end c.loop-end-test.true end, c.loop-end.invariant)

pub loop-end-preserved : goal.loop-end-preserved
loop-end-preserved c =
    let other : (get_or c.args.text.now c.loop-end.end 0 == 10) ≡ false = grind (arith, nat_tests) in
    endless_more c.args.text.now c.loop-end.end c.loop-end-test.true c.loop-end.invariant other

pub returns-clause-cases : goal.returns-clause-cases
returns-clause-cases c = endless_all c.args.text.now c.loop-end.end c.loop-end-test.false c.loop-end.invariant
