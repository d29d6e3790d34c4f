use Rattle.lemmas.proofs.{◌≡◌, ◌+◌, ◌≤◌, ◌++◌, drop, length}
use Rattle.graph.specs.{has}
use Rattle.result_text.specs.{members_from, under_lines}
use Rattle.result_text.proofs.results.put_varied.Given as goal

abbrev pub invariant-loop-v : goal.invariant-loop-v
invariant-loop-v l = record {
  some : 1 ≤ l.pass;
  count : l.pass + length (members_from (has l.depends) l.v (drop l.v l.action.variations.now)) ≡ l.filled.passes;
  text : l.text ++ under_lines l.action.name.now l.action.kind.now l.filled.piece.now.accs.items (l.filled.first + l.pass) (members_from (has l.depends) l.v (drop l.v l.action.variations.now))
      ≡ l.fn.text ++ under_lines l.action.name.now l.action.kind.now l.filled.piece.now.accs.items (l.filled.first + 1) (members_from (has l.depends) 0 l.action.variations.now);
}
