use Rattle.lemmas.proofs.{◌≡◌, ◌++◌, All}
use Rattle.columns.specs.{joined}
use Rattle.table_csv.specs.{EndsLine}
use Rattle.table_csv.proofs.texts.whole_lines.Given as goal

abbrev pub invariant-loop-part : goal.invariant-loop-part
invariant-loop-part l = record {
  whole : joined l.fn.parts.items ≡ (joined l.lines.items ++ l.last) ++ joined l.part-iterator.rest.items;
  lines : All EndsLine l.lines.items;
}
