use Rattle.lemmas.proofs.{length, refl, ap, ◌∙◌}
use Rattle.loop_keys.specs.{job_of, job_spans}
use Rattle.chain_files.specs.{ChainFault, PartLoop}
use Rattle.chain_loop.proofs.WholeTables.{faulted_loop, is_piece, whole_loop}
use Rattle.chain_loop.proofs.one_loop.run_table.Goals as goal

pub span_lines-requires-clause-piece : goal.span_lines-requires-clause-piece
span_lines-requires-clause-piece g c =
    let j = job_of c.args.job.now in
    (0, length (job_spans j), is_piece j c.requires.job.job 1 _ c.in-Filled.filled c.in-Filled.filled.piece c.in-Filled.is refl c.in_ok-filled.ensures)

pub returns-in_ok-span_lines-in-Filled : goal.returns-in_ok-span_lines-in-Filled
returns-in_ok-span_lines-in-Filled g c =
    let j = job_of c.args.job.now in
    let piece = is_piece j c.requires.job.job 1 _ c.in-Filled.filled c.in-Filled.filled.piece c.in-Filled.is refl c.in_ok-filled.ensures in
    whole_loop j c.requires.job.job 1 c.args.file _ c.in-Filled.filled _ c.in-Filled.is c.in_ok-filled.ensures (c.in_ok-span_lines-in-Filled.ensures 0 (length (job_spans j)) piece)

pub returns-in-Faulted : goal.returns-in-Faulted
returns-in-Faulted g c =
    ap (λ (f : ChainFault). PartLoop.Faulted f) c.in_file.ensures
    ∙ faulted_loop (job_of c.args.job.now) c.requires.job.job 1 c.args.file _ c.in-Faulted.fault c.in-Faulted.is c.in_ok-filled.ensures
