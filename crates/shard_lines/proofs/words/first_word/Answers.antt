use Rattle.lemmas.proofs.{◌≡◌, true, false, get_or, arith, ◌==◌}
use Rattle.std.proofs.lemmas.Bool.Decides.{nat_tests}
use Rattle.shard_lines.proofs.Cutting.{cut_here, cut_nowhere, spaceless_more}
use Rattle.shard_lines.proofs.words.first_word.Goals as goal

pub returns-then-byte-eq32-clause-words : goal.returns-then-byte-eq32-clause-words
returns-then-byte-eq32-clause-words c =
    let space : (get_or c.args.text.now c.loop-end.end 0 == 32) ≡ true = grind (arith, nat_tests) in
    cut_here c.args.text.now c.loop-end.end c.loop-end-test.true c.loop-end.invariant space

pub loop-end-preserved : goal.loop-end-preserved
loop-end-preserved c =
    let other : (get_or c.args.text.now c.loop-end.end 0 == 32) ≡ false = grind (arith, nat_tests) in
    spaceless_more c.args.text.now c.loop-end.end c.loop-end-test.true c.loop-end.invariant other

pub returns-clause-words : goal.returns-clause-words
returns-clause-words c = cut_nowhere c.args.text.now c.loop-end.end c.loop-end-test.false c.loop-end.invariant
