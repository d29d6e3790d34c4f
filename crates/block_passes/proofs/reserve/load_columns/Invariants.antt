use Rattle.lemmas.proofs.{◌≡◌, ◌<◌, ◌-◌, ℕ, Some, length}
use Rattle.rdf_values.specs.{ColType, kind_at}
use Rattle.block_cache.specs.{HasColumn}
use Rattle.loop_keys.specs.{job_of}
use Rattle.block_passes.specs.{HaveCells}
use Rattle.block_passes.proofs.reserve.load_columns.Given as goal

abbrev pub invariant-loop-col : goal.invariant-loop-col
invariant-loop-col g l = record {
  many : length l.cells ≡ length l.initial.cells;
  room : HaveCells l._size l.cells;
  loaded : (col : ℕ) → col < l.col → kind_at (job_of l.job).dataset.columns col ≡ Some ColType.Int → HasColumn (job_of l.job) l.entries.lo (l.entries.hi - l.entries.lo) l.cells col;
}
