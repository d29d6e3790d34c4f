use Rattle.shard_loop.proofs.span_run.run_span.Given as goal

abbrev pub ghosts-process_span : goal.ghosts-process_span
ghosts-process_span g a = record { name = a.blank.name; parts = a.blank.parts }
