use Rattle.lemmas.proofs.{length}
use Rattle.graph.proofs.book.+book_lines.Given as goal

abbrev pub decreases-book_lines : goal.decreases-book_lines
decreases-book_lines l = length l.lines.now
