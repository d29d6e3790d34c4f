use Rattle.lemmas.proofs.{◌∙◌, subst, sym}
use Rattle.graph_numbers.specs.{GraphView, IsSiteExpr}
use Rattle.block_passes.specs.{turn_job}
use Rattle.block_passes.proofs.Serving.{site_no_vector}
use Rattle.block_passes.proofs.copies.site_kind.Goals as goal

pub returns-clause-plain : goal.returns-clause-plain
returns-clause-plain g c = λ used p u is.
    let its = subst (λ (v : GraphView). IsSiteExpr v c.args.site c.site.result.now) c.requires.turn.fits.graph c.site.ensures in
    site_no_vector (turn_job c.args.at.now) used c.args.site c.site.result.now its p u (sym c.kind.ensures ∙ is)
