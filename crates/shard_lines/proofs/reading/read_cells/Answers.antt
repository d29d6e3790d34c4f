use Rattle.lemmas.proofs.{sym}
use Rattle.shard_lines.specs.{cell_of, words_behind}
use Rattle.shard_lines.proofs.Growing.{pairs_next}
use Rattle.shard_lines.proofs.reading.read_cells.Goals as goal

pub loop-sum-preserved : goal.loop-sum-preserved
loop-sum-preserved c =
    pairs_next (cell_of c.args.limits.now) c.loop-sum.cells c.push.new.self c.in-Some-read_cell.cell c.in-Some.sum.now c.in-Some-next_word.squares.now (words_behind c.in-Some.more.now) (words_behind c.in-Some-next_word.behind.now) (words_behind c.loop-sum.left.now) _
    (sym c.in-Some-read_cell.ensures) c.in-Some.ensures.words c.in-Some-next_word.ensures.words c.in_ok-push.ensures.ok c.loop-sum.invariant
