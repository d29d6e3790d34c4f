use Rattle.lemmas.proofs.{on_ok}
use Rattle.chain_files.specs.{line_text}
use Rattle.chain_files.proofs.Runs.{line_on}
use Rattle.chain_files.proofs.printing.put_pass.Goals as goal

pub returns : goal.returns
unfolding line_text
returns c = on_ok c.push.result _ _ (λ e. line_on _ _ _ _ c.in_ok-put_line.ensures e) c.push.ensures.ok
