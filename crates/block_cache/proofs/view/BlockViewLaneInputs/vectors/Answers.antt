use Rattle.lemmas.proofs.{◌+◌, ℕ, arith, subst}
use Rattle.rdf_values.specs.{Value}
use Rattle.rdf_model.specs.{Outcome}
use Rattle.expr_lanes.specs.{IsVectorAt}
use Rattle.block_cache.proofs.OverLaws.{column_seen, vector_of_entry}
use Rattle.block_cache.specs.{block_job}
use Rattle.block_cache.proofs.view.BlockViewLaneInputs.vectors.Goals as goal

pub returns-in-Vect : goal.returns-in-Vect
returns-in-Vect g c = λ p low.
    subst (λ (o : Outcome ℕ Value). IsVectorAt c.vects.result.now (c.args.self.now.block.now.at.now.entry + p) o) (column_seen (block_job c.args.self.now.block.now) _ _ _ _ c.in-Cell.col c.in-Cell.ensures)
    (vector_of_entry (block_job c.args.self.now.block.now).dataset.rows c.in-Cell.col _ c.vects.result.now c.vects.ensures (omega (arith, c.args.self.now.block.now.within, low)))
