use Rattle.std.proofs.Common.{arith}
use Rattle.shard_words.proofs.Wording.{files_done, files_more}
use Rattle.shard_words.proofs.words.file_names.Goals as goal

pub loop-i-preserved : goal.loop-i-preserved
loop-i-preserved c =
    files_more c.loop-i.files c.push.new.self c.args.words.now c.in_ok-name.name c.word.result.now c.loop-i.i (omega (arith, c.loop-i-test.true, c.len-i-end.ensures)) c.in_ok-push.ensures.ok c.in_ok-name.ensures c.word.ensures c.loop-i.invariant

pub returns : goal.returns
returns c = files_done c.loop-i.files c.args.words.now c.loop-i.i (omega (arith, c.loop-i-test.false, c.len-i-end.ensures)) c.loop-i.invariant
