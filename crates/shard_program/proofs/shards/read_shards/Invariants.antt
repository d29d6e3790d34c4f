use Rattle.shard_program.proofs.ShardReading.{IsSoFar}
use Rattle.shard_program.proofs.shards.read_shards.Given as goal

abbrev pub invariant-loop-name : goal.invariant-loop-name
invariant-loop-name g l =
    IsSoFar (g.S.Shelf.files l.initial.shelf) (g.S.Shelf.turns l.initial.shelf) (g.S.Shelf.faults l.initial.shelf) l.names l.name-index l.shards l.count (g.S.Shelf.files l.shelf) (g.S.Shelf.turns l.shelf) (g.S.Shelf.faults l.shelf)
