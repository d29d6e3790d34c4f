use Rattle.lemmas.proofs.{arith}
use Rattle.graph.proofs.Finished.{added}
use Rattle.graph.proofs.tables.Tables.add.Goals as goal

pub returns : goal.returns
returns c =
    added c.append-8.result c.args.self.now _ c.args.gain
    (record {
      versions = c.in_ok-append.ensures.items;
      kinds = c.in_ok-append-2.ensures.items;
      few = grind arith;
      version_sets = c.in_ok-append-3.ensures.items;
      sites = c.in_ok-append-4.ensures.items;
      site_sets = c.in_ok-append-5.ensures.items;
      filters = c.in_ok-append-6.ensures.items;
      results = c.in_ok-append-7.ensures.items;
    }) c.append-8.ensures.added
