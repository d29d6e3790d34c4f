use Rattle.rdf_values.proofs.OneScript.{one_cause, one_script, script_or_refusal}
use Rattle.expr_read.proofs.Decided.{read_once}
use Rattle.script_read.proofs.Answered.{answered}
use Rattle.script_read.proofs.read.one_answer.Goals as goal

pub returns : goal.returns
returns c = record { answered = answered; one_script = one_script read_once; one_cause = one_cause read_once; not_both = script_or_refusal read_once }
