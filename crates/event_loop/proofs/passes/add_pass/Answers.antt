use Rattle.lemmas.proofs.{[], ◌∷◌, ◌++◌, ◌∙◌, ap, append-nil, if◌then◌else◌, length, take, on_ok}
use Rattle.rdf_model.specs.{kinds_in}
use Rattle.loop_keys.specs.{job_of, passes_in}
use Rattle.event_loop.specs.{places_before}
use Rattle.event_loop.proofs.Found.{added, edges, is_its_pass, its_pass, kept, may_watch, named, of_action, of_report, result_within}
use Rattle.event_loop.proofs.passes.add_pass.Goals as goal

pub kind-requires : goal.kind-requires
kind-requires g c = let p = c.requires.pass in result_within (job_of c.args.job.now) p.0 _ p.1 c.args.job.now.graph.now c.requires.job.graph

pub is_watched-requires : goal.is_watched-requires
is_watched-requires g c = let p = c.requires.pass in is_its_pass (job_of c.args.job.now) p.0 _ p.1 c.args.job.now.graph.now c.requires.job.graph

pub add_watched-requires : goal.add_watched-requires
add_watched-requires g c =
    let j = job_of c.args.job.now in
    let p = c.requires.pass in
    record {
      edges = edges j p.0 _ p.1 c.kind.result.now c.args.job.now.graph.now c.requires.job.graph c.kind.ensures c.requires.job.job c.in-Action.kind c.in-Action.is;
      watched = may_watch j p.0 _ p.1 c.kind.result.now c.args.job.now.graph.now c.requires.job.graph c.kind.ensures c.requires.job.job c.in-Action.kind c.in-Action.is 0
          (c.is_watched.ensures 0 _ (named j p.0 _ p.1) ∙ ap (λ w. if w then 0 ∷ [] else []) c.if-is_watched.true);
    }

pub add_pass-requires : goal.add_pass-requires
add_pass-requires g c =
    let p = c.requires.pass in
    edges (job_of c.args.job.now) p.0 _ p.1 c.kind.result.now c.args.job.now.graph.now c.requires.job.graph c.kind.ensures c.requires.job.job c.in-Action.kind c.in-Action.is

pub returns-in-Report-clause-fresh : goal.returns-in-Report-clause-fresh
returns-in-Report-clause-fresh g c = λ n its fresh.
    let j = job_of c.args.job.now in
    kept j n _ (its_pass j n _ its) (of_report j n _ its c.kind.result.now c.args.job.now.graph.now c.requires.job.graph c.kind.ensures c.in-Report.is) c.args.tally.now fresh

pub returns-then-is_watched-clause-fresh : goal.returns-then-is_watched-clause-fresh
returns-then-is_watched-clause-fresh g c = λ n its fresh.
    let j = job_of c.args.job.now in
    let kinds = kinds_in (take n (passes_in j)) in
    let b = of_action j n _ its c.kind.result.now c.args.job.now.graph.now c.requires.job.graph c.kind.ensures c.in-Action.kind c.in-Action.is in
    on_ok c.add_watched.result _ _ (added j n _ (its_pass j n _ its) c.in-Action.kind b.0 b.1 _
    (ap (λ ws. places_before j n ++ ws) (c.is_watched.ensures (length kinds) _ (named j n _ its) ∙ ap (λ w. if w then length kinds ∷ [] else []) c.if-is_watched.true)) c.add_watched.new.self)
    (c.add_watched.ensures.fresh kinds (places_before j n) fresh)

pub returns-else-is_watched-clause-fresh : goal.returns-else-is_watched-clause-fresh
returns-else-is_watched-clause-fresh g c = λ n its fresh.
    let j = job_of c.args.job.now in
    let kinds = kinds_in (take n (passes_in j)) in
    let b = of_action j n _ its c.kind.result.now c.args.job.now.graph.now c.requires.job.graph c.kind.ensures c.in-Action.kind c.in-Action.is in
    on_ok c.add_pass.result _ _ (added j n _ (its_pass j n _ its) c.in-Action.kind b.0 b.1 _
    (ap (λ ws. places_before j n ++ ws) (c.is_watched.ensures (length kinds) _ (named j n _ its) ∙ ap (λ w. if w then length kinds ∷ [] else []) c.if-is_watched.false) ∙ append-nil (places_before j n)) c.add_pass.new.self)
    (c.add_pass.ensures.fresh kinds (places_before j n) fresh)
