use Rattle.lemmas.proofs.{◌≡◌, ◌<◌, ◌∷◌, ◌++◌, [], length, get_or, map, take, ap, ◌∙◌, arith}
use Rattle.graph_numbers.specs.{booked_statements, version_at}
use Rattle.snapshot_plan.proofs.Listed.{next_mapped}
use Rattle.snapshot_entries.specs.{data_of, plan_of}
use Rattle.snapshot_entries.proofs.wanted.versions.Goals as goal

pub loop-name-preserved : goal.loop-name-preserved
loop-name-preserved g c =
    let p = plan_of c.args.job.now in
    let f = version_at (data_of c.args.job.now).columns (booked_statements p.graph) p.node in
    let xs = p.columns in
    let i = c.loop-name.name-index in
    let item = c.name-item.result in
    let items : c.columns-name-items.result.now ≡ xs = c.columns-name-items.ensures in
    let lt : i < length xs = omega (arith, ap length items, c.loop-name-test.true) in
    let is : item ≡ get_or xs i item = c.name-item.is ∙ ap (λ l. get_or l i item) items in
    c.in_ok-push.ensures.ok ∙ ap (λ l. l ++ c.version_at.result ∷ []) c.loop-name.invariant ∙ ap (λ v. map f (take i xs) ++ v ∷ []) c.version_at.ensures ∙ next_mapped f xs i item lt is
