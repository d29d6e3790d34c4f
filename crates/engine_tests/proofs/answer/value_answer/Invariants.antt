use Rattle.engine_tests.proofs.answer.value_answer.Given as goal

abbrev pub ghosts-counted_value : goal.ghosts-counted_value
ghosts-counted_value g a = record { name = a.blank.name; parts = a.blank.parts }
