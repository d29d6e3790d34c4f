use Rattle.lemmas.proofs.{◌≡◌, length, refl, rules}
use Rattle.rdf_values.proofs.KeptLemmas.{holds_push, pushed_back}
use Rattle.rdf_values.proofs.tables.table.Table.push.Goals as goal

pub invariant_of-self-2 : goal.invariant_of-self-2
invariant_of-self-2 c =
    let fits = rw (← c.self.view_is) at c.requires.fits in
    let room = rw (← c.self.view_is) at c.requires.room in
    let size : c.self.inside.cells.len ≡ length c.self.inside.cells.items = search rules in
    let pushed = rw (c.deref_mut.ensures.value, c.as_slice.ensures) at c.in_ok-push_row.ensures.ok in
    let back = pushed_back c.self.inside.cells.len c.push_row.new.cells c.self.inside.cells.items c.args.row.now pushed size in
    holds_push c.self.inside.columns c.self.inside.cells.items _ c.args.row.now c.self.inside.entries _ c.self.invariant fits room back refl
