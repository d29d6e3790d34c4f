use Rattle.lemmas.proofs.{◌≡◌, ◌≤◌, ℕ, length, map, take}
use Rattle.rdf_model.specs.{kinds_in}
use Rattle.loop_keys.specs.{job_of, passes_in}
use Rattle.shard_spans.specs.{pass_line}
use Rattle.shard_loop.specs.{IsSpanPiece, span_rows_of}
use Rattle.shard_loop.proofs.passes.span_lines.Given as goal

abbrev pub invariant-loop-number : goal.invariant-loop-number
invariant-loop-number g l = record {
  lines : (lo hi : ℕ) → IsSpanPiece (job_of l.job) lo hi l.piece → l.lines ≡ map (pass_line (span_rows_of (job_of l.job) lo hi)) (take l.number (passes_in (job_of l.job)));
  place : l.place ≡ length (kinds_in (take l.number (passes_in (job_of l.job))));
  few : l.place ≤ l.number;
  end : l.number-end ≡ length (passes_in (job_of l.job));
}
