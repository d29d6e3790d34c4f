use Rattle.lemmas.proofs.{◌≡◌, ◌++◌, take}
use Rattle.table_csv.specs.{marks_behind}
use Rattle.table_csv.proofs.pieces.append_marks.Given as goal

abbrev pub invariant-loop-i : goal.invariant-loop-i
invariant-loop-i l = l.marks ≡ l.initial.marks ++ marks_behind l.entries (take l.i l.more)
