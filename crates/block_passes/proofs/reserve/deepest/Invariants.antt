use Rattle.lemmas.proofs.{◌≡◌, ℕ, ◌<◌, ◌≤◌, Some, slice_get}
use Rattle.expr_lanes.specs.{depth}
use Rattle.graph_numbers.specs.{graph_sites, SiteAt}
use Rattle.block_passes.proofs.reserve.deepest.Given as goal

-- so many levels are enough for the first so many sites
abbrev pub invariant-loop-site : goal.invariant-loop-site
invariant-loop-site l = (t : ℕ) (x : SiteAt) → t < l.site → slice_get (graph_sites l.graph) t ≡ Some x → depth x.tree ≤ l.deepest
