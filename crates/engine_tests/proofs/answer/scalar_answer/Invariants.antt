use Rattle.engine_tests.proofs.answer.scalar_answer.Given as goal

abbrev pub ghosts-counted_scalar : goal.ghosts-counted_scalar
ghosts-counted_scalar g a = record { name = a.blank.name; parts = a.blank.parts }
