use Rattle.lemmas.proofs.{◌∷◌, ◌∙◌, arith, option_map}
use Rattle.std.proofs.lemmas.Grind.{common_steps}
use Rattle.script_read.specs.{edges_of, MaybeString, quoted_of}
use Rattle.script_read.proofs.Walked.{took_histo2d}
use Rattle.script_read.proofs.walk.Walk.histo2d.Goals as goal

pub returns-in_err-weight-clause-stuck : goal.returns-in_err-weight-clause-stuck
returns-in_err-weight-clause-stuck c h k =
    let so_far = c.in_ok-x_edges.ensures.took.walks _ ∙ c.in_ok-expect.ensures.took.walks _ ∙ c.in_ok-y_edges.ensures.took.walks _ ∙ c.in_ok-expect-2.ensures.took.walks _ ∙ c.in_ok-x.ensures.took.walks _
    ∙ c.in_ok-expect-3.ensures.took.walks _ ∙ c.in_ok-y.ensures.took.walks (MaybeString ∷ k) in
    grind (arith, common_steps)

pub returns-clause-took : goal.returns-clause-took
returns-clause-took c =
    took_histo2d (edges_of c.in_ok-x_edges.x_edges) (edges_of c.in_ok-y_edges.y_edges) (quoted_of c.in_ok-x.x) (quoted_of c.in_ok-y.y) (option_map quoted_of c.in_ok-weight.weight)
    c.in_ok-x_edges.ensures.took c.in_ok-expect.ensures.took c.in_ok-y_edges.ensures.took c.in_ok-expect-2.ensures.took c.in_ok-x.ensures.took c.in_ok-expect-3.ensures.took c.in_ok-y.ensures.took c.in_ok-weight.ensures.took
