use Rattle.lemmas.proofs.{ap, ◌∙◌}
use Rattle.chain_files.specs.{joined_loops}
use Rattle.chain_files.proofs.Keeping.{fields_join}
use Rattle.chain_files.proofs.joining.join_parts.Goals as goal

pub new-requires : goal.new-requires
new-requires c =
    let loops = c.args.loops.now in
    let one = c.into_fields-first in
    let other = c.into_fields-second in
    let wanted = c.requires in
    fields_join loops one.result other.result c.args.first c.args.second c.in_ok-all.all one.ensures.same other.ensures.same one.ensures.valid other.ensures.valid wanted.next wanted.earlier wanted.later
    (c.in_ok-all.ensures ∙ ap (joined_loops loops one.result.loops) c.as_slice.ensures)
