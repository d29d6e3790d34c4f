use Rattle.lemmas.proofs.{arith}
use Rattle.shard_program.proofs.ShardReading.{item_at, one_read, refused_there, turned_there, turned_to_all}
use Rattle.shard_program.proofs.shards.read_shards.Goals as goal

pub returns-in-Refused-clause-turns : goal.returns-in-Refused-clause-turns
returns-in-Refused-clause-turns g c =
    let at = item_at c.args.names.now c.loop-name.name-index c.name-item.result c.loop-name-test.true c.name-item.is in
    turned_there (g.S.Shelf.files c.args.shelf.now) (g.S.Shelf.turns c.args.shelf.now) (g.S.Shelf.faults c.args.shelf.now) c.args.names.now c.loop-name.name-index c.loop-name.shards c.loop-name.count (g.S.Shelf.files c.loop-name.shelf) (g.S.Shelf.turns c.loop-name.shelf)
    (g.S.Shelf.faults c.loop-name.shelf) c.loop-name.invariant c.name-item.result c.loop-name-test.true at (g.S.Shelf.turns c.read_shard_file.new.shelf) c.read_shard_file.ensures.turns (g.S.Shelf.faults c.read_shard_file.new.shelf) c.read_shard_file.ensures.later

pub returns-in-Refused-clause-read : goal.returns-in-Refused-clause-read
returns-in-Refused-clause-read g c =
    let at = item_at c.args.names.now c.loop-name.name-index c.name-item.result c.loop-name-test.true c.name-item.is in
    refused_there (g.S.Shelf.files c.args.shelf.now) (g.S.Shelf.turns c.args.shelf.now) (g.S.Shelf.faults c.args.shelf.now) c.args.names.now c.loop-name.name-index c.loop-name.shards c.loop-name.count (g.S.Shelf.files c.loop-name.shelf) (g.S.Shelf.turns c.loop-name.shelf)
    (g.S.Shelf.faults c.loop-name.shelf) c.loop-name.invariant c.name-item.result c.loop-name-test.true at (g.S.Shelf.turns c.read_shard_file.new.shelf) c.read_shard_file.ensures.turns (g.S.Shelf.faults c.read_shard_file.new.shelf) c.read_shard_file.ensures.later
    c.in-Refused.answer (rw c.in-Refused.is at c.in_ok-shard.ensures.read)

pub loop-name-preserved : goal.loop-name-preserved
loop-name-preserved g c =
    let at = item_at c.args.names.now c.loop-name.name-index c.name-item.result c.loop-name-test.true c.name-item.is in
    one_read (g.S.Shelf.files c.args.shelf.now) (g.S.Shelf.turns c.args.shelf.now) (g.S.Shelf.faults c.args.shelf.now) c.args.names.now c.loop-name.name-index c.loop-name.shards c.loop-name.count (g.S.Shelf.files c.loop-name.shelf) (g.S.Shelf.turns c.loop-name.shelf)
    (g.S.Shelf.faults c.loop-name.shelf) c.loop-name.invariant c.name-item.result c.loop-name-test.true at (g.S.Shelf.turns c.read_shard_file.new.shelf) c.read_shard_file.ensures.turns (g.S.Shelf.faults c.read_shard_file.new.shelf) c.read_shard_file.ensures.later
    (g.S.Shelf.files c.read_shard_file.new.shelf) c.in-Whole.shard c.in-Whole.bytes c.push.new.self c.read_shard_file.ensures.same (rw c.in-Whole.is at c.in_ok-shard.ensures.read) c.in_ok-push-in-Whole.ensures.ok

pub returns-clause-turns : goal.returns-clause-turns
returns-clause-turns g c =
    turned_to_all (g.S.Shelf.files c.args.shelf.now) (g.S.Shelf.turns c.args.shelf.now) (g.S.Shelf.faults c.args.shelf.now) c.args.names.now c.loop-name.name-index c.loop-name.shards c.loop-name.count (g.S.Shelf.files c.loop-name.shelf) (g.S.Shelf.turns c.loop-name.shelf)
    (g.S.Shelf.faults c.loop-name.shelf) c.loop-name.invariant (let past = c.loop-name-test.false in omega (arith, past))
