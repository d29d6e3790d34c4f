use Rattle.std.proofs.Common.{arith}
use Rattle.shard_words.proofs.Wording.{first_word}
use Rattle.shard_words.proofs.words.read_command.Goals as goal

pub returns : goal.returns
returns c = first_word c.args.words.now c.word.result.now c.asked_for.result (let some = c.if-len-eq0.false in omega (arith, c.len.ensures)) c.word.ensures c.asked_for.ensures
