use Rattle.lemmas.proofs.{append_assoc}
use Rattle.result_text.proofs.refusals.join_cause_line.Goals as goal

pub returns-in_ok-format-in-Duplicate : goal.returns-in_ok-format-in-Duplicate
returns-in_ok-format-in-Duplicate c = rw (c.in-Duplicate.is, c.in_ok-format-in-Duplicate.ensures.ok) (simp append_assoc)
