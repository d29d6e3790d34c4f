use Rattle.table_csv.proofs.slots.+fn-give_back-join+arg2+give_back.Given as goal

abbrev pub decreases-join+arg2 : goal.decreases-join+arg2
decreases-join+arg2 g l = l.others

abbrev pub decreases-give_back : goal.decreases-give_back
decreases-give_back g l = l.slots
