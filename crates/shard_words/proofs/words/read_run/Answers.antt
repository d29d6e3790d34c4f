use Rattle.std.proofs.Common.{arith}
use Rattle.shard_words.proofs.Wording.{run_found}
use Rattle.shard_words.proofs.words.read_run.Goals as goal

pub returns : goal.returns
returns c =
    run_found c.args.words.now c.word.result.now c.word-2.result.now c.word-3.result.now c.word-4.result.now c.word-5.result.now c.number.result c.number-2.result c.number-3.result c.run_with.result
    (let six = c.if-len-ne6.false in omega (arith, c.len.ensures)) c.word.ensures c.word-2.ensures c.word-3.ensures c.word-4.ensures c.word-5.ensures c.number.ensures c.number-2.ensures c.number-3.ensures c.run_with.ensures
