use Rattle.lemmas.proofs.{subst, sym}
use Rattle.chain_text.specs.{FitGraph}
use Rattle.chain_program.proofs.Joining.{prints_fit}
use Rattle.chain_program.proofs.print.print_fitting.Goals as goal

pub chain_text-requires : goal.chain_text-requires
chain_text-requires c = subst (FitGraph c.args.fitting.now.graph) (sym c.loops.ensures) (prints_fit c.args.fitting.now.graph c.args.part.now c.requires.part)
