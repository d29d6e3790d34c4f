use Rattle.event_loop.proofs.workers.run_slot.Given as goal

abbrev pub ghosts-work : goal.ghosts-work
ghosts-work g a = record { name = a.blank.name; parts = a.blank.parts }
