use Rattle.lemmas.proofs.{refl}
use Rattle.rdf_outside.proofs.Outside.{left_moved, reads_where_told, takes}
use Rattle.rdf_outside.proofs.memory_shelf.MemoryShelfShelf.read.Goals as goal

pub returns-clause-bytes : goal.returns-clause-bytes
returns-clause-bytes c =
    let left = rw c.deref.ensures.value at c.rest_at-rest.ensures in
    reads_where_told _ _ _ _ _ (takes _ _ c.min-count.result 0 c.args.buf.now _ (rw left at c.min-count.ensures)
    (rw c.further-self.ensures (left_moved c.args.self.now.items.items c.args.self.now.turned c.min-count.result)) (rw (c.copy_from_slice.ensures.after, left) refl))
