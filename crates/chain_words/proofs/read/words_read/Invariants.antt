use Rattle.lemmas.proofs.{◌≡◌, drop}
use Rattle.chain_words.specs.{no_words, words_read}
use Rattle.chain_words.proofs.read.words_read.Given as goal

abbrev pub invariant-loop-i : goal.invariant-loop-i
invariant-loop-i l = words_read l.reading (drop l.i l.words) ≡ words_read no_words (drop 1 l.words)
