use Rattle.lemmas.proofs.{append_assoc}
use Rattle.result_text.proofs.refusals.graph_cause_line.Goals as goal

pub returns : goal.returns
returns c = rw (c.in_ok-format.ensures.ok, c.graph_cause_text-text.ensures) (simp append_assoc)
