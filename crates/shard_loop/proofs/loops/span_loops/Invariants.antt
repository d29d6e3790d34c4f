use Rattle.lemmas.proofs.{◌≡◌, length}
use Rattle.entry_fns.specs.{functions_in}
use Rattle.shard_spans.specs.{loops_of}
use Rattle.shard_loop.specs.{cuts_of, table_of}
use Rattle.shard_loop.proofs.Looping.{IsUpToLoop}
use Rattle.shard_loop.proofs.loops.span_loops.Given as goal

abbrev pub invariant-loop-number : goal.invariant-loop-number
invariant-loop-number g l =
    IsUpToLoop (cuts_of l.columns) (table_of l.columns (functions_in l.functions)) l.clusters.lo l.clusters.hi l.graph.script l.number l.loops
    × (l.number-end ≡ length (loops_of l.graph.script))
