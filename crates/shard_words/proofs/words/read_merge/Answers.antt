use Rattle.std.proofs.Common.{◌∙◌, arith}
use Rattle.shard_words.proofs.Wording.{merge_found}
use Rattle.shard_words.proofs.words.read_merge.Goals as goal

pub returns : goal.returns
returns c =
    c.merge_with.ensures ∙ merge_found c.args.words.now c.word.result.now c.in_ok-script.script c.in_ok-files.files (let two = c.if-len-lt2.false in omega (arith, c.len.ensures)) c.word.ensures c.in_ok-script.ensures c.in_ok-files.ensures
