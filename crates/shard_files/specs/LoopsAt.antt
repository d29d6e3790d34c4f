-- A shard's loop by its number.
use Rattle.std.specs.Prelude.{ℕ, Bool, true, false, drop, Option, Some, None}
use Rattle.rdf_values.specs.{Fault}
use Rattle.shard_files.specs.declared.shard_loop.ShardLoop.{ShardLoop}
use Rattle.shard_files.specs.declared.shard_loop.ShardLoop.TheVariants.{Whole, Faulted}
use Rattle.shard_files.specs.Merging.{first_loop}
use Rattle.shard_files.specs.Shards.{ShardView}

-- the loop of that number, or an empty one
abbrev pub loop_at : ℕ → ShardView → ShardLoop
loop_at number s = first_loop (drop number s.loops)

abbrev pub fault_of : ShardLoop → Option Fault
fault_of (Whole ps) = None
fault_of (Faulted f) = Some f

abbrev pub is_faulty : ShardLoop → Bool
is_faulty (Whole ps) = false
is_faulty (Faulted f) = true
