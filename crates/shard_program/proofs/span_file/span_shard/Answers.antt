use Rattle.lemmas.proofs.{◌∙◌, ap, length, refl, subst, sym}
use Rattle.entry_fns.specs.{functions_in}
use Rattle.rdf_values.specs.{cut}
use Rattle.columns.specs.Views.{CutsView}
use Rattle.shard_files.specs.{IsShard}
use Rattle.shard_program.specs.{AreNamed}
use Rattle.shard_program.proofs.OverTables.{found_is_shard, parts_are}
use Rattle.shard_program.proofs.span_file.span_shard.Goals as goal

pub new-requires : goal.new-requires
new-requires g c =
    let fns = functions_in c.args.functions.now in
    let header = c.in_ok-header.ensures.same ∙ c.columns.ensures.value in
    let clusters = c.count.ensures.value ∙ ap (λ (v : CutsView). length (cut v.entries v.size v.marks)) c.cuts.ensures.value in
    let entries = ap (λ (v : CutsView). v.entries) (sym c.cuts.ensures.value) ∙ c.cuts.ensures.valid in
    let span = c.requires.span in
    subst IsShard (sym (parts_are c.args.graph.now c.args.columns.now fns c.args.clusters.lo c.args.clusters.hi _ c.entries.ensures.value clusters header refl refl c.in_ok-loops.ensures))
    (found_is_shard c.args.graph.now c.args.columns.now fns c.args.clusters.lo c.args.clusters.hi c.is_booked.ensures c.requires.graph c.requires.words c.answers_have_64_bits.ensures c.columns.ensures.valid entries (subst AreNamed header c.in_ok-header.ensures.named) span.0 span.1)
