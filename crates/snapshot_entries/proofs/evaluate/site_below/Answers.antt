use Rattle.lemmas.proofs.{◌≡◌, ◌<◌, ℕ, map, Option, Some, None, ◌∙◌, sym, ap, IfSome}
use Rattle.rdf_values.specs.{ColType}
use Rattle.rdf_model.specs.{Dataset}
use Rattle.snapshot_plan.specs.{PlanView}
use Rattle.snapshot_entries.specs.{data_of, plan_of, site_behind, source_of}
use Rattle.snapshot_entries.proofs.Evaluated.{below}
use Rattle.snapshot_entries.proofs.Serving.{behind_below, in_list}
use Rattle.snapshot_entries.proofs.evaluate.site_below.Goals as goal

pub source_of-requires-clause-version : goal.source_of-requires-clause-version
source_of-requires-clause-version g c =
    (below (plan_of c.args.at.now.job.now) (data_of c.args.at.now.job.now) c.requires.work c.args._site c.args._expr.now c.requires.expr c.args.version (in_list (map (λ (k : ℕ × ColType). k.0) c.args._expr.now.kinds) c.args.version c.requires.read)).0

if_below : (p : PlanView) (d : Dataset) (s c : ℕ) (r : Option ℕ) → ((t : ℕ) → site_behind (source_of p d c) ≡ Some t → t < s) → r ≡ site_behind (source_of p d c) → IfSome r (λ t. t < s)
if_below p d s c None h is = tt
if_below p d s c (Some t) h is = h t (sym is)

pub returns-clause-below : goal.returns-clause-below
returns-clause-below g c =
    let p = plan_of c.args.at.now.job.now in
    let d = data_of c.args.at.now.job.now in
    let b = below p d c.requires.work c.args._site c.args._expr.now c.requires.expr c.args.version (in_list (map (λ (k : ℕ × ColType). k.0) c.args._expr.now.kinds) c.args.version c.requires.read) in
    if_below p d c.args._site c.args.version c.site_behind.result (λ t h. behind_below _ c.args._site t (source_of p d c.args.version) b.1 h) (c.site_behind.ensures ∙ ap site_behind c.source_of.ensures)
