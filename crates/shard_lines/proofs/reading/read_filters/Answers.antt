use Rattle.lemmas.proofs.{sym}
use Rattle.shard_lines.specs.{counts_of_words, words_behind}
use Rattle.shard_lines.proofs.Growing.{pairs_next}
use Rattle.shard_lines.proofs.reading.read_filters.Goals as goal

pub loop-all-preserved : goal.loop-all-preserved
loop-all-preserved c =
    pairs_next (counts_of_words c.args.limits.now) c.loop-all.filters c.push.new.self c.in-Some-read_counts.counts c.in-Some.all.now c.in-Some-next_word.pass.now (words_behind c.in-Some.more.now) (words_behind c.in-Some-next_word.behind.now) (words_behind c.loop-all.left.now) _
    (sym c.in-Some-read_counts.ensures) c.in-Some.ensures.words c.in-Some-next_word.ensures.words c.in_ok-push.ensures.ok c.loop-all.invariant
