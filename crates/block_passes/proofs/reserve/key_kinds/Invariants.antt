use Rattle.lemmas.proofs.{◌≡◌, ◌≤◌, ◌*◌, length}
use Rattle.graph_numbers.specs.{graph_sites, graph_variations}
use Rattle.loop_keys.specs.{keys_before}
use Rattle.block_passes.specs.{HaveKinds}
use Rattle.block_passes.proofs.reserve.key_kinds.Given as goal

abbrev pub invariant-loop-site : goal.invariant-loop-site
invariant-loop-site l = record { many : length l.kinds ≡ keys_before (graph_variations l.graph) (graph_sites l.graph) l.site; kinds : HaveKinds l.graph l.site l.kinds; few : length l.kinds ≤ 129 * l.site }
