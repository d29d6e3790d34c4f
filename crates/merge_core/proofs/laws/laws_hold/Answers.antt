use Rattle.merge_core.proofs.Holding.{each_is_drawn_once, first_fault_is_told}
use Rattle.merge_core.proofs.laws.laws_hold.Goals as goal

pub returns : goal.returns
returns c = record { drawn = each_is_drawn_once; first = first_fault_is_told }
