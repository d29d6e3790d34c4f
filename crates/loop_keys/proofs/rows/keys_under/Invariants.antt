use Rattle.lemmas.proofs.{◌≡◌, ◌*◌, ◌≤◌}
use Rattle.graph_numbers.specs.{graph_sites, graph_variations}
use Rattle.loop_keys.specs.{AreEach, key, keys_before}
use Rattle.loop_keys.proofs.rows.keys_under.Given as goal

abbrev pub invariant-loop-site : goal.invariant-loop-site
invariant-loop-site l = record {
  each : AreEach (λ s k. k ≡ key l.graph s l.under) l.site l.keys;
  next : l.first ≡ keys_before (graph_variations l.graph) (graph_sites l.graph) l.site;
  small : l.first ≤ 129 * l.site;
}
