use Rattle.std.proofs.Common.{◌≡◌, ◌++◌, drop}
use Rattle.shard_words.proofs.words.file_names.Given as goal

abbrev pub invariant-loop-i : goal.invariant-loop-i
invariant-loop-i l = l.files ++ drop l.i l.words ≡ drop 2 l.words
