use Rattle.columns.proofs.kept.+fn-keep_in_slots-join+arg2+fn-keep_in_slots-join+arg3+keep_in_slots.Given as goal

abbrev pub decreases-join+arg2 : goal.decreases-join+arg2
decreases-join+arg2 g l = l.half

abbrev pub decreases-join+arg3 : goal.decreases-join+arg3
decreases-join+arg3 g l = l.others

abbrev pub decreases-keep_in_slots : goal.decreases-keep_in_slots
decreases-keep_in_slots g l = l.slots
