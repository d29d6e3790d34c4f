use Rattle.entry_fns.specs.{functions_in}
use Rattle.shard_program.proofs.ShardReading.{all_due_ok, none_due}
use Rattle.shard_program.proofs.merge.answer_files.Goals as goal

pub returns-in-All-clause-answer : goal.returns-in-All-clause-answer
returns-in-All-clause-answer g c =
    all_due_ok (functions_in c.args.functions.now) c.args.script c.args.names.now (g.S.Shelf.files c.args.shelf.now) (g.S.Shelf.turns c.read_shards.new.shelf) (g.S.Shelf.faults c.args.shelf.now) (g.S.Shelf.faults c.read_shards.new.shelf) c.in-All.shards c.answer_shards.result
    (rw c.in-All.is at c.in_ok-shards.ensures.read) c.answer_shards.ensures

pub returns-in-Refused-clause-answer : goal.returns-in-Refused-clause-answer
returns-in-Refused-clause-answer g c =
    none_due (functions_in c.args.functions.now) c.args.script c.args.names.now (g.S.Shelf.files c.args.shelf.now) (g.S.Shelf.turns c.read_shards.new.shelf) (g.S.Shelf.faults c.args.shelf.now) (g.S.Shelf.faults c.read_shards.new.shelf) c.in-Refused.answer
    (rw c.in-Refused.is at c.in_ok-shards.ensures.read)
