use Rattle.lemmas.proofs.{subst, sym}
use Rattle.rdf_values.specs.{IsHeader}
use Rattle.entry_fns.specs.{functions_in}
use Rattle.shard_program.proofs.Answering.{first_header, shards_due}
use Rattle.shard_program.proofs.merging.answer_shards.Goals as goal

pub book-requires-clause-header : goal.book-requires-clause-header
book-requires-clause-header g c = subst IsHeader (sym c.columns.ensures) (first_header c.args.shards c.at-first.result.now c.at-first.ensures c.requires.valid)

pub returns-in-Ok : goal.returns-in-Ok
returns-in-Ok g c =
    shards_due (functions_in c.args.functions.now) c.args.script c.args.names.now c.args.shards c.at-first.result.now c.columns.result.now c.names.result.now c.in-Ok.graph c.answer_graph.result
    c.at-first.ensures (sym (rw c.as_slice.ensures at c.in-None.ensures)) c.columns.ensures c.names.ensures c.in-Ok.ensures c.answer_graph.ensures
