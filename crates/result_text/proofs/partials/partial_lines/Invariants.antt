use Rattle.lemmas.proofs.{◌≡◌, ◌++◌, drop}
use Rattle.result_text.specs.{watch_lines}
use Rattle.result_text.proofs.partials.partial_lines.Given as goal

abbrev pub invariant-loop-line : goal.invariant-loop-line
invariant-loop-line l = l.text ++ watch_lines l.name (drop l.line-index l.partials.lines.now) ≡ watch_lines l.name l.partials.lines.now
