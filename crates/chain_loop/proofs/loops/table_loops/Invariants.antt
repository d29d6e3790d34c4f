use Rattle.lemmas.proofs.{◌≡◌, length}
use Rattle.entry_fns.specs.{functions_in}
use Rattle.shard_spans.specs.{loops_of}
use Rattle.shard_loop.specs.{table_of}
use Rattle.chain_runs.specs.{alone}
use Rattle.chain_loop.proofs.Looping.{IsUpToLoop}
use Rattle.chain_loop.proofs.loops.table_loops.Given as goal

abbrev pub invariant-loop-number : goal.invariant-loop-number
invariant-loop-number g l =
    IsUpToLoop (alone (table_of l.table.columns.now (functions_in l.table.functions.now))) l.table.file l.table.graph.now.script l.number l.loops
    × (l.number-end ≡ length (loops_of l.table.graph.now.script))
