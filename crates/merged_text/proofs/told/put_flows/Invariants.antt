use Rattle.lemmas.proofs.{◌≡◌, ◌++◌, drop}
use Rattle.graph_numbers.specs.{graph_filters}
use Rattle.merged_text.specs.{filter_counts}
use Rattle.merged_text.proofs.Flows.{flows}
use Rattle.merged_text.proofs.told.put_flows.Given as goal

abbrev pub invariant-loop-i : goal.invariant-loop-i
invariant-loop-i l =
    l.text ++ flows l.name l.reached (filter_counts (graph_filters l.graph) (drop l.i l.covered) (drop l.i l.counts))
    ≡ l.fn.text ++ flows l.name l.reached (filter_counts (graph_filters l.graph) l.covered l.counts)
